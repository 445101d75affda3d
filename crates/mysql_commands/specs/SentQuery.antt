-- A query that a client sends, as a server reads it.
use Rattle.std.specs.Prelude.{◌≡◌, ℕ, ◌<◌, ◌^◌, is_some, List, ◌++◌, length, map, Option, Some, None}
use Rattle.std.specs.List.{All}
use Rattle.std.specs.Option.{option_map}
use Rattle.mysql_wire.specs.Flags.{CapabilityFlags}
use Rattle.mysql_wire.specs.LenEnc.{lenenc_bytes}
use Rattle.mysql_wire.specs.Writing.{le_bytes}
use Rattle.mysql_stmt.specs.Attributes.{Attribute}
use Rattle.mysql_stmt.specs.ComQuery.{query_bytes, some_bytes}
use Rattle.mysql_stmt.specs.ComQuery as sent
use Rattle.mysql_stmt.specs.ExecuteParam.{attribute_param}
use Rattle.mysql_stmt.specs.ExecuteParams.{where_some}
use Rattle.mysql_stmt.specs.ReadAgain.{SentFits, attribute_read}
use Rattle.mysql_stmt.specs.SentParam.{attribute_type, sent_attributes}
use Rattle.mysql_stmt.specs.declared.com_query.ComQuery.{ComQuery}
use Rattle.mysql_stmt.specs.declared.execute_param.QueryAttribute.{QueryAttribute}
use Rattle.mysql_commands.specs.WithRawBytes.{sent_of}
use Rattle.mysql_commands.specs.Query.{query_of, sends_attributes}
use Rattle.mysql_commands.specs.declared.with_raw_bytes.WithRawBytes.{WithRawBytes}
use Rattle.mysql_commands.specs.declared.query.ComQueryRef.{ComQueryRef}

-- ---- the query as it is read

-- the bytes of attributes: their number, one set of them, and then, if there are any, the attributes
abbrev pub attributes_bytes : List QueryAttribute → List ℕ
attributes_bytes l = lenenc_bytes (length l) ++ le_bytes 1 1 ++ where_some l (some_bytes (sent_attributes l))

-- each attribute with its name and type, and its value as read under that type
abbrev pub attributes_read : Option (List QueryAttribute) → Option (WithRawBytes (List Attribute))
attributes_read attributes = option_map (λ l. sent_of (map attribute_read l) (attributes_bytes l)) attributes

-- the bytes of a query
abbrev pub sent_bytes : ComQuery QueryAttribute → List ℕ
sent_bytes q = query_bytes attribute_param attribute_type q

abbrev pub query_read : ComQuery QueryAttribute → ComQueryRef
query_read q = query_of (attributes_read (sent.attributes q)) (sent.text q)

-- ---- conditions

-- numbers within their widths, and each type can encode its value, as in a query that was built
abbrev pub AttributesFit : Option (List QueryAttribute) → Type 0
AttributesFit None = Unit {0}
AttributesFit (Some l) = (length l < 2 ^ 64) × All SentFits (sent_attributes l)

-- it has attributes, maybe 0 of them, exactly if both sides set CLIENT_QUERY_ATTRIBUTES
pub record SentQueryFits (c : CapabilityFlags) (q : ComQuery QueryAttribute) : Type 0 where
  pub agreed : sends_attributes c ≡ is_some (sent.attributes q)
  pub attributes : AttributesFit (sent.attributes q)
