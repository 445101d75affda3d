-- The protocol's floats, given by their bits.
use Rattle.std.specs.Prelude.{◌≡◌, ℕ, ◌%◌, nat_le, List, Option, Some, None, option_map, unwrap_or, codes, Float, from_bits, if◌then◌else◌}
use Rattle.std.specs.Float.{binary32, binary64}
use Rattle.serde_json.specs.Data.{Data, null, number}
use Rattle.serde_json.specs.Find.{of_float}
use Rattle.serde_json.specs.Read.{read}

-- the number with these bits, maybe infinite; none for NaN
abbrev pub float_in : ℕ → Option Float
float_in bits = if nat_le (bits % 0x8000_0000) 0x7f80_0000 then Some (from_bits binary32 bits) else None

abbrev pub double_in : ℕ → Option Float
double_in bits = if nat_le (bits % 0x8000_0000_0000_0000) 0x7ff0_0000_0000_0000 then Some (from_bits binary64 bits) else None

-- a JSON number; JSON has none for infinity
abbrev pub number_data : Float → Data
number_data x = unwrap_or (option_map number (of_float x)) null

abbrev pub float_data : Option Float → Data
float_data None = null
float_data (Some x) = number_data x

-- `none` for NaN; otherwise a text that JSON parses as the number
abbrev pub IsFloatText : Option Float → List ℕ → Type 0
IsFloatText None text = text ≡ codes "none"
IsFloatText (Some x) text = read text ≡ Some (number_data x)
