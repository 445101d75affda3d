-- The program's arguments.
use Rattle.std.specs.Prelude.{ℕ, ◌^◌, ◌&&◌, nat_eq, nat_lt, nat_le, Bool, true, false, List, [], ◌∷◌, length, drop, Option, Some, None, option_map, codes, if◌then◌else◌}
use Rattle.std.specs.Char.{digit_value}
use Rattle.std.specs.List.{list_all, starts_with}
use Rattle.std.specs.Str.{bytes_eq}
use Rattle.std.specs.Str.Parse.{digits_value, without_leading_plus}
use Rattle.mysql_replies.specs.declared.session_capabilities.SessionCapabilities.{SessionCapabilities}
use Rattle.mysql_recorder.specs.declared.entry.Layout.TheVariants as layout
use Rattle.mysql_recorder.specs.declared.program.Call.{Call}

-- ---- numbers

abbrev pub is_digit : ℕ → ℕ → Bool
is_digit radix c = nat_lt (digit_value c) radix

-- one digit or more, and nothing else
abbrev pub is_numeral : ℕ → List ℕ → Bool
is_numeral radix digits = nat_lt 0 (length digits) && list_all (is_digit radix) digits

abbrev pub numeral_below : ℕ → ℕ → List ℕ → Option ℕ
numeral_below radix bound digits = if is_numeral radix digits && nat_lt (digits_value radix digits) bound then Some (digits_value radix digits) else None

-- a number below this bound, in digits of this radix, after an optional plus
unfoldable pub number_in : ℕ → ℕ → List ℕ → Option ℕ
number_in radix bound word = numeral_below radix bound (without_leading_plus word)

-- flags are hexadecimal
abbrev pub flags_in : List ℕ → Option ℕ
flags_in word = number_in 16 (2 ^ 32) word

-- ---- arguments

-- what the arguments so far request
pub record Asked : Type 0 where
  pub call : Call
  pub caps : Option ℕ
  pub mariadb : ℕ

-- the longest payload is 64 MiB unless an argument sets another limit
abbrev pub nothing_asked : Asked
nothing_asked = record { call = record { layout = layout.Lines; longest = 67108864; sums = false; is_deciphered = false; agreed = None }; caps = None; mariadb = 0 }

abbrev pub in_json : Asked → Asked
in_json a = record a { call = record a.call { layout = layout.Json } }

abbrev pub with_sums : Asked → Asked
with_sums a = record a { call = record a.call { sums = true } }

abbrev pub deciphered : Asked → Asked
deciphered a = record a { call = record a.call { is_deciphered = true } }

abbrev pub with_caps : Asked → ℕ → Asked
with_caps a flags = record a { caps = Some flags }

abbrev pub with_mariadb : Asked → ℕ → Asked
with_mariadb a flags = record a { mariadb = flags }

abbrev pub with_longest : Asked → ℕ → Asked
with_longest a longest = record a { call = record a.call { longest = longest } }

abbrev pub begins_with : List ℕ → List ℕ → Bool
begins_with front word = starts_with nat_eq word front

-- caps= and mariadb= are followed by flags; any other argument is the longest payload
unfoldable pub asked_number : List ℕ → Asked → Option Asked
asked_number word a =
    if begins_with (codes "caps=") word then option_map (with_caps a) (flags_in (drop 5 word))
    else (if begins_with (codes "mariadb=") word then option_map (with_mariadb a) (flags_in (drop 8 word))
    else option_map (with_longest a) (number_in 10 (2 ^ 64) word))

unfoldable pub asked_by : List ℕ → Asked → Option Asked
asked_by word a =
    if bytes_eq word (codes "--json") then Some (in_json a)
    else (if bytes_eq word (codes "--sum") then Some (with_sums a)
    else (if bytes_eq word (codes "--deciphered") then Some (deciphered a)
    else asked_number word a))

-- with each of these arguments
abbrev pub asked_after : List (List ℕ) → Option Asked → Option Asked
asked_after words None = None
asked_after [] (Some a) = Some a
asked_after (word ∷ words) (Some a) = asked_after words (asked_by word a)

-- ---- calls

-- what both sides agreed on, if given
abbrev pub agreed_of : Option ℕ → ℕ → Option SessionCapabilities
agreed_of None mariadb = None
agreed_of (Some caps) mariadb = Some (record { mysql = record { 0 = caps; 1 = record {} }; mariadb = record { 0 = mariadb; 1 = record {} } })

abbrev pub called : Asked → Call
called a = record a.call { agreed = agreed_of a.caps a.mariadb }

-- At most six arguments; an unknown argument is a bad call.
unfoldable pub call_of : List (List ℕ) → Option Call
call_of words = if nat_le (length words) 6 then option_map called (asked_after words (Some nothing_asked)) else None
