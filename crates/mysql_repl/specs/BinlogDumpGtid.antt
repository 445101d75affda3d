-- The request for a binary log without the transactions of a GTID set.
use Rattle.std.specs.Prelude.{◌≡◌, ℕ, ◌<◌, ◌^◌, ◌==◌, ◌≢◌, ◌↔◌, List, [], ◌∷◌, ◌++◌, length, None, Bool, true, not, refl}
use Rattle.std.specs.Int.{bit_at}
use Rattle.mysql_wire.specs.declared.constant.ConstU8.{ConstU8}
use Rattle.mysql_wire.specs.declared.constant_value.Const.{Const}
use Rattle.mysql_wire.specs.declared.int.RawInt.{RawInt}
use Rattle.mysql_wire.specs.declared.little_endian.LeU16.{LeU16}
use Rattle.mysql_wire.specs.declared.little_endian.LeU32.{LeU32}
use Rattle.mysql_wire.specs.Codec.{Codec, Fields}
use Rattle.mysql_wire.specs.Codecs.{◌>>=◌, give, field, block, packet, const_u8, flags, string_u32, u32, u64}
use Rattle.mysql_wire.specs.CommandCodes.{COM_BINLOG_DUMP_GTID}
use Rattle.mysql_wire.specs.FlagMasks.{BINLOG_THROUGH_GTID}
use Rattle.mysql_wire.specs.Flags.{BinlogDumpFlags, switched, has}
use Rattle.mysql_wire.specs.Int.{raw_int}
use Rattle.mysql_repl.specs.declared.binlog_dump_gtid.ComBinlogDumpGtid.{ComBinlogDumpGtid}
use Rattle.mysql_repl.specs.declared.binlog_dump_gtid.InvalidComBinlogDumpGtidHeader.{InvalidComBinlogDumpGtidHeader}
use Rattle.mysql_repl.specs.declared.sid.Sid.{Sid}
use Rattle.mysql_repl.specs.Sid.{AreSids}
use Rattle.mysql_repl.specs.SidBlock.{content}
use Rattle.mysql_repl.specs.SidBlockAgain.{sid_block}

-- ---- values

abbrev pub word_of : ℕ → Const BinlogDumpFlags LeU16
word_of bits = record { 0 = record { 0 = bits; 1 = record {} }; 1 = record {} }

abbrev pub dump_of : (number position bits : ℕ) (name : List ℕ) (list : List Sid) → ComBinlogDumpGtid
dump_of number position bits name list = record {
  header = record { 0 = record {} };
  flags = word_of bits;
  server_id = raw_int number;
  filename = name;
  pos = raw_int position;
  sid_block = list;
}

abbrev pub server_id : ComBinlogDumpGtid → ℕ
server_id p = p.server_id.0

abbrev pub flag_bits : ComBinlogDumpGtid → ℕ
flag_bits p = p.flags.0.0

abbrev pub filename : ComBinlogDumpGtid → List ℕ
filename p = p.filename

abbrev pub pos : ComBinlogDumpGtid → ℕ
pos p = p.pos.0

abbrev pub sids : ComBinlogDumpGtid → List Sid
sids p = p.sid_block

-- the flags, with BINLOG_THROUGH_GTID exactly if there is a sid
abbrev pub through_gtid : List Sid → ℕ → ℕ
through_gtid list bits = switched 16 (not (length list == 0)) BINLOG_THROUGH_GTID bits

abbrev pub with_server_id : ℕ → ComBinlogDumpGtid → ComBinlogDumpGtid
with_server_id number p = record p { server_id = raw_int number }

abbrev pub with_filename : List ℕ → ComBinlogDumpGtid → ComBinlogDumpGtid
with_filename name p = record p { filename = name }

abbrev pub with_pos : ℕ → ComBinlogDumpGtid → ComBinlogDumpGtid
with_pos position p = record p { pos = raw_int position }

abbrev pub with_flags : ℕ → ComBinlogDumpGtid → ComBinlogDumpGtid
with_flags bits p = record p { flags = word_of (through_gtid p.sid_block bits) }

abbrev pub with_sids : List Sid → ComBinlogDumpGtid → ComBinlogDumpGtid
with_sids list p = record p { flags = word_of (through_gtid list p.flags.0.0); sid_block = list }

abbrev pub with_sid : Sid → ComBinlogDumpGtid → ComBinlogDumpGtid
with_sid s p = with_sids (p.sid_block ++ s ∷ []) p

-- BINLOG_THROUGH_GTID is set exactly if there is a sid
abbrev pub TellsSids : ComBinlogDumpGtid → Type 0
TellsSids p = (has (flag_bits p) BINLOG_THROUGH_GTID ≡ true) ↔ (sids p ≢ [])

-- each flag except BINLOG_THROUGH_GTID, the third of sixteen, is as in this word
abbrev pub KeepsOthers : ℕ → ComBinlogDumpGtid → Type 0
KeepsOthers bits p = (i : ℕ) → i < 16 → i ≢ 2 → bit_at (flag_bits p) i ≡ bit_at bits i

-- ---- the layout

-- 1e, the flags and the replica's server id
abbrev pub gtid_dump_front : Fields Bool ComBinlogDumpGtid (ConstU8 InvalidComBinlogDumpGtidHeader COM_BINLOG_DUMP_GTID × Const BinlogDumpFlags LeU16 × RawInt LeU32 ℕ)
gtid_dump_front = do
  header ← field (λ p. p.header) (const_u8 COM_BINLOG_DUMP_GTID)
  word ← field (λ p. p.flags) (flags 2)
  number ← field (λ p. p.server_id) u32
  give (header, word, number)

-- in seven bytes
unfoldable pub gtid_dump_head : Fields Bool ComBinlogDumpGtid (ConstU8 InvalidComBinlogDumpGtidHeader COM_BINLOG_DUMP_GTID × Const BinlogDumpFlags LeU16 × RawInt LeU32 ℕ)
gtid_dump_head = block 7 gtid_dump_front (λ p. refl)

-- seven bytes; the file name; the position; the sids
abbrev pub gtid_dump_fields : Fields Bool ComBinlogDumpGtid ComBinlogDumpGtid
gtid_dump_fields = do
  head ← gtid_dump_head
  name ← field filename string_u32
  position ← field (λ p. p.pos) u64
  list ← field sids sid_block
  give (record { header = head.0; flags = head.1; server_id = head.2; filename = name; pos = position; sid_block = list })

-- the reader gets whether it is strict
unfoldable pub gtid_dump : Codec Bool ComBinlogDumpGtid
unfolding gtid_dump_head
gtid_dump = packet gtid_dump_fields (λ p. refl)

pub size-gtid_dump : (strict : Bool) → (gtid_dump.form strict).size ≡ None
unfolding gtid_dump
size-gtid_dump strict = refl

-- ---- when a request is read back, in plain words

-- numbers within their widths, as they always are; a name and a block of less than 2^32 bytes
pub record GtidDumpFits (p : ComBinlogDumpGtid) : Type 0 where
  pub flags : flag_bits p < 2 ^ 16
  pub server_id : server_id p < 2 ^ 32
  pub filename : length (filename p) < 2 ^ 32
  pub pos : pos p < 2 ^ 64
  pub sids : AreSids p.sid_block
  pub block : length (content p.sid_block) < 2 ^ 32
