-- The request for the rows of a table.
use Rattle.std.specs.Prelude.{◌≡◌, ℕ, ◌<◌, ◌^◌, List, length, None, refl}
use Rattle.mysql_wire.specs.Codec.{Codec, Fields}
use Rattle.mysql_wire.specs.Codecs.{◌>>=◌, give, field, packet, const_u8, string_u8}
use Rattle.mysql_wire.specs.CommandCodes.{COM_TABLE_DUMP}
use Rattle.mysql_repl.specs.declared.table_dump.ComTableDump.{ComTableDump}

-- 13, the database and the table
abbrev pub table_dump_fields : Fields (Unit {0}) ComTableDump ComTableDump
table_dump_fields = do
  header ← field (λ p. p.header) (const_u8 COM_TABLE_DUMP)
  database ← field (λ p. p.database) string_u8
  table ← field (λ p. p.table) string_u8
  give (record { header = header; database = database; table = table })

unfoldable pub table_dump : Codec (Unit {0}) ComTableDump
table_dump = packet table_dump_fields (λ p. refl)

pub size-table_dump : (table_dump.form tt).size ≡ None
unfolding table_dump
size-table_dump = refl

abbrev pub dump_of : (database table : List ℕ) → ComTableDump
dump_of database table = record { header = record { 0 = record {} }; database = database; table = table }

abbrev pub database : ComTableDump → List ℕ
database p = p.database

abbrev pub table : ComTableDump → List ℕ
table p = p.table

-- the request is read back if each name has at most 255 bytes
pub record TableDumpFits (p : ComTableDump) : Type 0 where
  pub database : length (database p) < 2 ^ 8
  pub table : length (table p) < 2 ^ 8
