-- Flag words.
use Rattle.std.specs.Prelude.{ℕ, ◌^◌, ◌<◌, Bool, Option, Some, ◌==◌, bit_and, bit_or, if◌then◌else◌, refl}
use Rattle.bitflags.specs.Sets.{without}
use Rattle.mysql_wire.specs.declared.constant_value.Const.{Const}
use Rattle.mysql_wire.specs.declared.flags.FlagWord.{FlagWord}
use Rattle.mysql_wire.specs.Form.{Form, number}
use Rattle.mysql_wire.specs.ConstantValue.{coded, coded-again}
use Rattle.mysql_wire.specs.Spelling.{IsSpelling, number-again}
use Rattle.mysql_wire.specs.Writing.{le_bytes}
pub use Rattle.mysql_wire.specs.FlagMasks.{BinlogDumpFlags, CapabilityFlags, ColumnFlags, CursorType, MariadbCapabilities, StatusFlags, StmtBulkExecuteFlags, StmtExecuteParamFlags, StmtExecuteParamsFlags}

-- all bits of the mask are set
abbrev pub has : ℕ → ℕ → Bool
has flags mask = bit_and flags mask == mask

-- the flags with the mask's bits set or cleared, in a word with a given number of bits
abbrev pub switched : ℕ → Bool → ℕ → ℕ → ℕ
switched size on mask flags = if on then bit_or flags mask else without size flags mask

-- the flags with these bits; any bits are valid
abbrev pub flags_of : {N B : Type 0} → B → Option (FlagWord N B)
flags_of bits = Some (record { 0 = bits; 1 = record {} })

-- a flag word with a given number of bytes, little-endian: all bits are kept
abbrev pub flag_word : {N U : Type 0} → ℕ → Form (Const (FlagWord N ℕ) U)
flag_word width = coded flags_of (number width)

-- a flag word is read back
pub flag_word-again : {N U : Type 0} (width : ℕ) (v : Const (FlagWord N ℕ) U) → v.0.0 < 256 ^ width → IsSpelling (flag_word width) v (le_bytes width v.0.0)
flag_word-again width v lt = coded-again flags_of (number width) v.0.0 v (le_bytes width v.0.0) refl (number-again width v.0.0 lt)

pub ruleset flag_word_round_trips = (flag_word-again)
