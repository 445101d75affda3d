-- The request for a binary log from a position.
use Rattle.std.specs.Prelude.{◌≡◌, ℕ, ◌<◌, ◌^◌, List, [], None, refl}
use Rattle.mysql_wire.specs.declared.constant.ConstU8.{ConstU8}
use Rattle.mysql_wire.specs.declared.constant_value.Const.{Const}
use Rattle.mysql_wire.specs.declared.int.RawInt.{RawInt}
use Rattle.mysql_wire.specs.declared.little_endian.LeU16.{LeU16}
use Rattle.mysql_wire.specs.declared.little_endian.LeU32.{LeU32}
use Rattle.mysql_wire.specs.Codec.{Codec, Fields}
use Rattle.mysql_wire.specs.Codecs.{◌>>=◌, give, field, block, packet, const_u8, flags, string_eof, u32}
use Rattle.mysql_wire.specs.CommandCodes.{COM_BINLOG_DUMP}
use Rattle.mysql_wire.specs.Flags.{BinlogDumpFlags}
use Rattle.mysql_wire.specs.Int.{raw_int}
use Rattle.mysql_repl.specs.declared.binlog_dump.ComBinlogDump.{ComBinlogDump}
use Rattle.mysql_repl.specs.declared.binlog_dump.InvalidComBinlogDumpHeader.{InvalidComBinlogDumpHeader}

-- ---- the layout

-- 12, the position, the flags and the replica's server id, in eleven bytes
abbrev pub binlog_dump_head : Fields (Unit {0}) ComBinlogDump (ConstU8 InvalidComBinlogDumpHeader COM_BINLOG_DUMP × RawInt LeU32 ℕ × Const BinlogDumpFlags LeU16 × RawInt LeU32 ℕ)
binlog_dump_head = do
  header ← field (λ p. p.header) (const_u8 COM_BINLOG_DUMP)
  pos ← field (λ p. p.pos) u32
  flags ← field (λ p. p.flags) (flags 2)
  server_id ← field (λ p. p.server_id) u32
  give (header, pos, flags, server_id)

-- eleven bytes, and the file name to the end
abbrev pub binlog_dump_fields : Fields (Unit {0}) ComBinlogDump ComBinlogDump
binlog_dump_fields = do
  head ← block 11 binlog_dump_head (λ p. refl)
  filename ← field (λ p. p.filename) string_eof
  give (record { header = head.0; pos = head.1; flags = head.2; server_id = head.3; filename = filename })

unfoldable pub binlog_dump : Codec (Unit {0}) ComBinlogDump
binlog_dump = packet binlog_dump_fields (λ p. refl)

pub size-binlog_dump : (binlog_dump.form tt).size ≡ None
unfolding binlog_dump
size-binlog_dump = refl

-- the request of a replica with this server id, for the first file, from this position on, with these flags
abbrev pub dump_of : (server_id pos flag_bits : ℕ) (filename : List ℕ) → ComBinlogDump
dump_of server_id pos flag_bits filename = record {
  header = record { 0 = record {} };
  pos = raw_int pos;
  flags = record { 0 = record { 0 = flag_bits; 1 = record {} }; 1 = record {} };
  server_id = raw_int server_id;
  filename = filename;
}

abbrev pub with_pos : ℕ → ComBinlogDump → ComBinlogDump
with_pos pos p = record p { pos = raw_int pos }

abbrev pub with_flags : BinlogDumpFlags → ComBinlogDump → ComBinlogDump
with_flags word p = record p { flags = record { 0 = word; 1 = record {} } }

abbrev pub with_filename : List ℕ → ComBinlogDump → ComBinlogDump
with_filename filename p = record p { filename = filename }

-- ---- values

abbrev pub server_id : ComBinlogDump → ℕ
server_id p = p.server_id.0

abbrev pub flags_of : ComBinlogDump → BinlogDumpFlags
flags_of p = p.flags.0

abbrev pub filename : ComBinlogDump → List ℕ
filename p = p.filename

abbrev pub pos : ComBinlogDump → ℕ
pos p = p.pos.0

-- ---- when a request is read back, in plain words

-- numbers within their widths, as they always are; nothing follows the file name
pub record BinlogDumpFits (p : ComBinlogDump) (rest : List ℕ) : Type 0 where
  pub pos : pos p < 2 ^ 32
  pub flags : (flags_of p).0 < 2 ^ 16
  pub server_id : server_id p < 2 ^ 32
  pub filename : rest ≡ []
