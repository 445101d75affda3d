-- How a sid's text is read and written.
use Rattle.std.specs.Prelude.{◌≡◌, ℕ, ◌+◌, ◌-◌, ◌^◌, List, [], ◌∷◌, ◌++◌, length, map, Option, Some, None, Result, Ok, Err, Bool, ◌&&◌, ◌==◌, nat_lt, nat_le, codes, if◌then◌else◌}
use Rattle.std.specs.Char.{is_ascii_digit}
use Rattle.std.specs.Fmt.{decimal}
use Rattle.std.specs.List.{slice_split, position_or_len, before_first, after_first, flat_map}
use Rattle.std.specs.Str.{all_ascii_digits}
use Rattle.std.specs.Str.Parse.{digits_value, without_leading_plus}
use Rattle.uuid.specs.Text.{parsed, hyphenated_text, lower}
use Rattle.mysql_repl.specs.declared.gno_interval.GnoInterval.{GnoInterval}
use Rattle.mysql_repl.specs.declared.gno_interval.InvalidGno.TheVariants.{Order, Zero}
use Rattle.mysql_repl.specs.declared.sid.Sid.{Sid}
use Rattle.mysql_repl.specs.declared.sid_text.InvalidSid.{InvalidSid}
use Rattle.mysql_repl.specs.declared.sid_text.InvalidSid.TheVariants as fault
use Rattle.mysql_repl.specs.declared.tag.InvalidTag.{InvalidTag}
use Rattle.mysql_repl.specs.GnoInterval.{interval_of, start, end}
use Rattle.mysql_repl.specs.Tag.{tag_fault}

-- ---- cutting

-- the codes of a colon, of a hyphen and of a comma
abbrev pub colon : ℕ
colon = 58

abbrev pub hyphen : ℕ
hyphen = 45

abbrev pub comma : ℕ
comma = 44

abbrev pub is : ℕ → ℕ → Bool
is separator c = c == separator

abbrev pub has : ℕ → List ℕ → Bool
has separator text = nat_lt (position_or_len (is separator) text) (length text)

-- what precedes the first separator, and what follows it
abbrev pub before : ℕ → List ℕ → List ℕ
before separator text = before_first (is separator) text

abbrev pub after : ℕ → List ℕ → List ℕ
after separator text = after_first (is separator) text

-- ---- intervals

abbrev pub number_in : List ℕ → Option ℕ
number_in digits =
    if nat_lt 0 (length digits) && all_ascii_digits digits
    then (if nat_lt (digits_value 10 digits) (2 ^ 64) then Some (digits_value 10 digits) else None) else None

-- one or more digits after an optional plus, of at most 64 bits
unfoldable pub number_of : List ℕ → Option ℕ
number_of text = number_in (without_leading_plus text)

-- from the first number to the last
abbrev pub checked : (first last : ℕ) → Result GnoInterval InvalidSid
checked first last =
    if last == 18446744073709551615 then Err fault.TooLarge
    else if nat_le (last + 1) first then Err (fault.Gno (Order first (last + 1)))
    else if first == 0 then Err (fault.Gno Zero)
    else Ok (interval_of first (last + 1))

-- from the first number to the last, if both are present
abbrev pub numbers_by : (ℕ → ℕ → Result GnoInterval InvalidSid) → Option ℕ → Option ℕ → Result GnoInterval InvalidSid
numbers_by check None last = Err fault.Number
numbers_by check (Some first) None = Err fault.Number
numbers_by check (Some first) (Some last) = check first last

abbrev pub from_numbers : Option ℕ → Option ℕ → Result GnoInterval InvalidSid
from_numbers first last = numbers_by checked first last

-- a number, or two with a hyphen between them
unfoldable pub read_interval : List ℕ → Result GnoInterval InvalidSid
read_interval text =
    if has hyphen text then
    (if has hyphen (after hyphen text) then Err fault.Parts
    else from_numbers (number_of (before hyphen text)) (number_of (after hyphen text)))
    else from_numbers (number_of text) (number_of text)

abbrev pub onto : Result GnoInterval InvalidSid → Result (List GnoInterval) InvalidSid → Result (List GnoInterval) InvalidSid
onto (Err e) more = Err e
onto (Ok i) (Err e) = Err e
onto (Ok i) (Ok is) = Ok (i ∷ is)

-- all of them, or the first error
abbrev pub all_read : List (Result GnoInterval InvalidSid) → Result (List GnoInterval) InvalidSid
all_read [] = Ok []
all_read (read ∷ more) = onto read (all_read more)

-- the texts between the colons
unfoldable pub parts_of : List ℕ → List (List ℕ)
parts_of text = slice_split (is colon) text

-- the result for each of the parts
abbrev pub read_each : List (List ℕ) → List (Result GnoInterval InvalidSid)
read_each parts = map read_interval parts

unfoldable pub read_intervals : List ℕ → Result (List GnoInterval) InvalidSid
read_intervals text = all_read (read_each (parts_of text))

-- ---- the whole text

-- the uuid, the tag, and the result for each interval
pub record SidParts : Type 0 where
  pub uuid : List ℕ
  pub tag : Option (List ℕ)
  pub intervals : List (Result GnoInterval InvalidSid)

abbrev pub parts_with : (id : List ℕ) → Option (List ℕ) → (text : List ℕ) → SidParts
parts_with id tag text = record { uuid = id; tag = tag; intervals = read_each (parts_of text) }

abbrev pub tagged_parts : (id tag text : List ℕ) → Option InvalidTag → Result SidParts InvalidSid
tagged_parts id tag text (Some e) = Err (fault.Tag e)
tagged_parts id tag text None = Ok (parts_with id (Some tag) text)

-- after the uuid: intervals that begin with a digit; or a tag and intervals
unfoldable pub parts_after : (id text : List ℕ) → Result SidParts InvalidSid
parts_after id [] = Err fault.Empty
parts_after id (c ∷ cs) =
    if is_ascii_digit c then Ok (parts_with id None (c ∷ cs))
    else if has colon (c ∷ cs) then tagged_parts id (before colon (c ∷ cs)) (after colon (c ∷ cs)) (tag_fault (before colon (c ∷ cs)))
    else Err fault.NoIntervals

abbrev pub parts_by : Option (List ℕ) → List ℕ → Result SidParts InvalidSid
parts_by None text = Err fault.Uuid
parts_by (Some id) text = parts_after id text

-- the parts, or the first error before the intervals
unfoldable pub sid_parts : List ℕ → Result SidParts InvalidSid
sid_parts text = if has colon text then parts_by (parsed (before colon text)) (after colon text) else Err fault.NoColon

abbrev pub sid_with : List ℕ → Option (List ℕ) → Result (List GnoInterval) InvalidSid → Result Sid InvalidSid
sid_with id tag (Err e) = Err e
sid_with id tag (Ok is) = Ok (record { uuid = id; tag = tag; intervals = is })

abbrev pub sid_of : Result SidParts InvalidSid → Result Sid InvalidSid
sid_of (Err e) = Err e
sid_of (Ok p) = sid_with p.uuid p.tag (all_read p.intervals)

-- the sid, or the first error
unfoldable pub read_sid : List ℕ → Result Sid InvalidSid
read_sid text = sid_of (sid_parts text)

-- ---- errors before any allocation

abbrev pub refusal_in : Result GnoInterval InvalidSid → Option InvalidSid
refusal_in (Ok i) = None
refusal_in (Err e) = Some e

-- of the first interval
abbrev pub first_refusal : List (Result GnoInterval InvalidSid) → Option InvalidSid
first_refusal [] = None
first_refusal (read ∷ more) = refusal_in read

-- without a tag the first interval may be an error
abbrev pub early_with : Option (List ℕ) → List (Result GnoInterval InvalidSid) → Option InvalidSid
early_with None intervals = first_refusal intervals
early_with (Some tag) intervals = None

abbrev pub early_in : Result SidParts InvalidSid → Option InvalidSid
early_in (Err e) = Some e
early_in (Ok p) = early_with p.tag p.intervals

unfoldable pub early_refusal : List ℕ → Option InvalidSid
early_refusal text = early_in (sid_parts text)

-- the answer is the result of reading, unless memory ran out
abbrev pub Answered : {A : Type 0} → Result A InvalidSid → Result A InvalidSid → Type 0
Answered (Ok x) read = read ≡ Ok x
Answered (Err fault.Memory) read = Unit {0}
Answered (Err e) read = read ≡ Err e

-- ---- writing

-- a colon; the start; and the last number if it differs
abbrev pub interval_text : GnoInterval → List ℕ
interval_text i =
    if end i == start i + 1 then codes ":" ++ decimal (start i)
    else codes ":" ++ (decimal (start i) ++ (codes "-" ++ decimal (end i - 1)))

abbrev pub tag_text : Option (List ℕ) → List ℕ
tag_text None = []
tag_text (Some tag) = codes ":" ++ tag

-- the hyphenated uuid, the tag and the intervals
abbrev pub sid_text : Sid → List ℕ
sid_text s = hyphenated_text lower s.uuid ++ (tag_text s.tag ++ flat_map interval_text s.intervals)
