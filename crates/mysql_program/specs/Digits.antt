-- Bytes as hexadecimal digits.
use Rattle.std.specs.Prelude.{ℕ, ◌%◌, ◌==◌, ◌&&◌, Bool, List, [], length, Option, unwrap_or}
use Rattle.std.specs.Char.{is_ascii_hexdigit}
use Rattle.std.specs.List.{list_all}
use Rattle.std.specs.Result.{result_ok}
use Rattle.hex.specs.Hex.{decode_of}

-- two digits for each byte
unfoldable pub are_pairs : List ℕ → Bool
are_pairs digits = length digits % 2 == 0 && list_all is_ascii_hexdigit digits

-- the bytes; none if a character is no digit or the number of digits is odd
abbrev pub bytes_of : List ℕ → Option (List ℕ)
bytes_of digits = result_ok (decode_of digits)

-- the bytes of digits that were checked
abbrev pub digits_bytes : List ℕ → List ℕ
digits_bytes digits = unwrap_or (bytes_of digits) []
