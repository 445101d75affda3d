-- A query.
use Rattle.std.specs.Prelude.{ℕ, Bool, List, Option, refl}
use Rattle.mysql_wire.specs.Codecs.{Codec, Fields, ◌>>=◌, give, field, packet, when, const_u8, string_eof}
use Rattle.mysql_wire.specs.CommandCodes.{COM_QUERY}
use Rattle.mysql_wire.specs.FlagMasks.{CLIENT_QUERY_ATTRIBUTES}
use Rattle.mysql_wire.specs.Flags.{CapabilityFlags, has}
use Rattle.mysql_commands.specs.WithRawBytes.{as_sent}
use Rattle.mysql_stmt.specs.Attributes.{Attribute}
use Rattle.mysql_commands.specs.QueryAttributes.{query_attributes}
use Rattle.mysql_commands.specs.declared.with_raw_bytes.WithRawBytes.{WithRawBytes}
use Rattle.mysql_commands.specs.declared.query.ComQueryRef.{ComQueryRef}
use Rattle.mysql_commands.specs.declared.query.InvalidComQueryHeader.{InvalidComQueryHeader}

abbrev pub text : ComQueryRef → List ℕ
text p = p.text

abbrev pub sent_attributes : ComQueryRef → Option (WithRawBytes (List Attribute))
sent_attributes p = p.attributes

abbrev pub query_of : Option (WithRawBytes (List Attribute)) → List ℕ → ComQueryRef
query_of attributes text = record { attributes = attributes; text = text }

-- attributes precede the text
abbrev pub sends_attributes : CapabilityFlags → Bool
sends_attributes capabilities = has capabilities.0 CLIENT_QUERY_ATTRIBUTES

-- 03, the attributes under CLIENT_QUERY_ATTRIBUTES, and the text to the end
abbrev pub query_fields : Fields CapabilityFlags ComQueryRef ComQueryRef
query_fields = do
  header ← field (λ p. record { 0 = record {} }) (const_u8 {T = InvalidComQueryHeader} COM_QUERY)
  attributes ← field sent_attributes (when sends_attributes (as_sent (λ c. query_attributes)))
  text ← field text string_eof
  give (query_of attributes text)

unfoldable pub query : Codec CapabilityFlags ComQueryRef
query = packet query_fields (λ p. refl)
