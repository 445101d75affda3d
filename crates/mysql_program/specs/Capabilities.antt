-- Capability flags as hexadecimal digits.
use Rattle.std.specs.Prelude.{ℕ, ◌&&◌, nat_le, List, length, Option, Some, None, Bool, if◌then◌else◌}
use Rattle.std.specs.Char.{is_ascii_hexdigit}
use Rattle.std.specs.List.{list_all}
use Rattle.std.specs.Str.Parse.{digits_value}
use Rattle.mysql_wire.specs.Flags.{CapabilityFlags}

-- one to eight hexadecimal digits
unfoldable pub is_flag_word : List ℕ → Bool
is_flag_word word = nat_le 1 (length word) && (nat_le (length word) 8 && list_all is_ascii_hexdigit word)

-- the flags with that number's bits
abbrev pub capabilities_of : List ℕ → Option CapabilityFlags
capabilities_of word = if is_flag_word word then Some (record { 0 = digits_value 16 word; 1 = record {} }) else None
