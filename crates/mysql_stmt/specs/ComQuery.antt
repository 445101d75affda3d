-- A query that is sent.
use Rattle.std.specs.Prelude.{◌≡◌, ℕ, true, false, List, [], ◌++◌, length, map, Option, Some}
use Rattle.std.specs.Option.{option_copied, option_map_or}
use Rattle.mysql_wire.specs.LenEnc.{lenenc_bytes}
use Rattle.mysql_wire.specs.ServerCommand.{server_command_code}
use Rattle.mysql_wire.specs.Writing.{le_bytes}
use Rattle.mysql_wire.specs.declared.codes.server_command.ServerCommand.TheVariants as name
use Rattle.mysql_stmt.specs.ExecuteParam.{Param, value_of}
use Rattle.mysql_stmt.specs.ExecuteParams.{where_some}
use Rattle.mysql_stmt.specs.NullMarks.{bitmap_of}
use Rattle.mysql_stmt.specs.SentParam.{bound_bytes, first_unspelled, list_of, sent_params}
use Rattle.mysql_stmt.specs.ExecuteRead.{TypedParam}
use Rattle.mysql_stmt.specs.declared.com_query.ComQuery.{ComQuery}
use Rattle.mysql_stmt.specs.SentTypes.{NamedType}
use Rattle.mysql_stmt.specs.declared.typed_param.TypedExecutionError.{TypedExecutionError}
use Rattle.mysql_stmt.specs.declared.typed_param.TypedExecutionError.TheVariants as refusal

module _ {A : Type 0} where
  abbrev pub text : ComQuery A → List ℕ
  text q = q.text.now

  abbrev pub attributes : ComQuery A → Option (List A)
  attributes q = option_copied q.attributes

  -- the attributes; none if the query can't have any
  abbrev pub listed : ComQuery A → List A
  listed q = list_of (attributes q)

  -- the number of attributes, if there can be any
  abbrev pub count_bytes : Option (List A) → List ℕ
  count_bytes attributes = option_map_or (λ l. lenenc_bytes (length l)) attributes []

  -- one set of them
  abbrev pub set_bytes : Option (List A) → List ℕ
  set_bytes attributes = option_map_or (λ l. le_bytes 1 1) attributes []

-- like the attributes of an execution without parameters
abbrev pub some_bytes : List TypedParam → List ℕ
some_bytes l = bound_bytes (bitmap_of (map (λ p. value_of p.param) l)) true true false [] l

-- 03; the number of attributes and of sets if both sides set CLIENT_QUERY_ATTRIBUTES; the attributes, if there are any; and the text to the
-- end
unfoldable pub query_bytes : {A : Type 0} → (attribute : A → Param) (attribute_type : A → NamedType) → ComQuery A → List ℕ
query_bytes attribute attribute_type q =
    le_bytes 1 (server_command_code name.COM_QUERY) ++ count_bytes (attributes q) ++ set_bytes (attributes q)
    ++ where_some (listed q) (some_bytes (sent_params attribute attribute_type (listed q))) ++ text q

-- why attributes are refused: the first one whose type can't encode its value
abbrev pub RefusesAttribute : List TypedParam → TypedExecutionError → Type 0
RefusesAttribute attributes (refusal.AttributeTypeMismatch place) = first_unspelled attributes ≡ Some place
RefusesAttribute attributes _ = ⊥
