-- The request for the columns of a table.
use Rattle.std.specs.Prelude.{ℕ, List, refl}
use Rattle.mysql_wire.specs.Codecs.{Codec, Fields, ◌>>=◌, give, field, packet, const_u8, string_null, string_eof}
use Rattle.mysql_wire.specs.CommandCodes.{COM_FIELD_LIST}
use Rattle.mysql_commands.specs.declared.field_list.ComFieldListRef.{ComFieldListRef}
use Rattle.mysql_commands.specs.declared.field_list.InvalidComFieldListHeader.{InvalidComFieldListHeader}

abbrev pub table : ComFieldListRef → List ℕ
table p = p.table

abbrev pub wildcard : ComFieldListRef → List ℕ
wildcard p = p.wildcard

abbrev pub field_list_of : (table wildcard : List ℕ) → ComFieldListRef
field_list_of table wildcard = record { table = table; wildcard = wildcard }

-- 04, the table's name, terminated by a zero, and to the end a pattern for the columns
abbrev pub field_list_fields : Fields (Unit {0}) ComFieldListRef ComFieldListRef
field_list_fields = do
  header ← field (λ p. record { 0 = record {} }) (const_u8 {T = InvalidComFieldListHeader} COM_FIELD_LIST)
  table ← field table string_null
  wildcard ← field wildcard string_eof
  give (field_list_of table wildcard)

unfoldable pub field_list : Codec (Unit {0}) ComFieldListRef
field_list = packet field_list_fields (λ p. refl)
