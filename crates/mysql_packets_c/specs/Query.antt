-- Writing a query, in C.
use Rattle.std.specs.Prelude.{ℕ, Bool, ◌&&◌, ◌||◌, not, is_some, List, Option}
use Rattle.std.specs.Option.{option_map}
use Rattle.mysql_stmt.specs.SentParam.{first_unspelled}
use Rattle.mysql_stmt.specs.declared.com_query.ComQuery.{ComQuery}
use Rattle.mysql_packets_c.specs.Parameter.{are_agreed, are_parameters, sent}
use Rattle.mysql_packets_c.specs.declared.parameter.CParameter.{CParameter}

-- the query of this text with these attributes, wherever they are
abbrev pub query_of : Option (List CParameter) → List ℕ → ComQuery CParameter
query_of attributes text = record {
  attributes = option_map (λ l. record { ref_ptr = (0, 0); now = l }) attributes;
  text = record { ref_ptr = (0, 0); now = text };
}

-- the types of all can encode their values
abbrev pub are_encoded : List CParameter → Bool
are_encoded attributes = not (is_some (first_unspelled (sent attributes)))

-- each attribute is valid, and if it is written its type can encode its value
abbrev pub may_write : ℕ → List CParameter → Bool
may_write capabilities attributes = are_parameters attributes && (not (are_agreed capabilities) || are_encoded attributes)
