-- Rows as text: one a line, values separated by one space.
use Rattle.std.specs.Prelude.{ℕ, ◌^◌, ◌==◌, Bool, true, false, List, [], ◌∷◌, length, map, codes, Option, Some, None, option_map, if◌then◌else◌}
use Rattle.std.specs.Global.{Vec}
use Rattle.std.specs.List.{slice_split}
use Rattle.std.specs.Io.BufRead.{strip_last}
use Rattle.mysql_bulk.specs.BulkValue.{Cell, Given, Default, Ignore}
use Rattle.mysql_values.specs.Value.{Content, NULL, Bytes, Int, UInt, Float, Double, Date, Time, content_of}
use Rattle.mysql_program.specs.Decimal.{i64_of, number_below}
use Rattle.mysql_program.specs.Digits.{bytes_of}
use Rattle.mysql_program.specs.Named.{is_named}
use Rattle.mysql_program.specs.Parts.{is_byte}
use Rattle.mysql_program.specs.TimeText.{float_in, double_in, date_in, time_in}
use Rattle.mysql_program.specs.declared.row_text.RowCell.{RowCell}
use Rattle.mysql_program.specs.declared.row_text.RowCell.TheVariants as read

-- N, i and a number with a sign, u and a number, b and hexadecimal digits, f or d and the bits of a float, y and a date, t and a time
abbrev pub value_of : List ℕ → Option Content
value_of [] = None
value_of (kind ∷ digits) =
    if kind == 78 then (if length digits == 0 then Some NULL else None)
    else if kind == 105 then option_map Int (i64_of digits)
    else if kind == 117 then option_map UInt (number_below (2 ^ 64) digits)
    else if kind == 98 then option_map Bytes (bytes_of digits)
    else if kind == 102 then float_in digits
    else if kind == 100 then double_in digits
    else if kind == 121 then date_in digits
    else if kind == 116 then time_in digits
    else None

-- a value, D for DEFAULT, or I for IGNORE
abbrev pub cell_of_word : List ℕ → Option Cell
cell_of_word word =
    if is_named word (codes "D") then Some Default
    else if is_named word (codes "I") then Some Ignore
    else option_map Given (value_of word)

-- what is read from a word
abbrev pub cell_read : RowCell → Cell
cell_read (read.Given value) = Given (content_of value)
cell_read read.Default = Default
cell_read read.Ignore = Ignore

abbrev pub with_first : {B : Type 0} → Option B → Option (List B) → Option (List B)
with_first (Some y) (Some ys) = Some (y ∷ ys)
with_first (Some y) None = None
with_first None ys = None

-- the results of f for each, unless one has none
abbrev pub each : {A B : Type 0} → (A → Option B) → List A → Option (List B)
each f [] = Some []
each f (x ∷ xs) = with_first (f x) (each f xs)

-- the words of a line, separated by one space
unfoldable pub words_of : List ℕ → List (List ℕ)
words_of line = if length line == 0 then [] else slice_split (is_byte 32) line

-- an empty line is an empty row
abbrev pub row_of_line : List ℕ → Option (List Cell)
row_of_line line = each cell_of_word (words_of line)

-- the lines of a text, each with a line feed, which the last one may lack
unfoldable pub lines_of : List ℕ → List (List ℕ)
lines_of text = if length text == 0 then [] else slice_split (is_byte 10) (strip_last 10 text)

-- a row for each line
abbrev pub rows_of : List ℕ → Option (List (List Cell))
rows_of text = each row_of_line (lines_of text)

-- what is read from rows
abbrev pub row_read : Vec RowCell → List Cell
row_read row = map cell_read row.items

abbrev pub rows_read : List (Vec RowCell) → List (List Cell)
rows_read rows = map row_read rows

-- ---- rows without declared types

-- a value that needs no declared type: NULL, bytes or an integer
abbrev pub is_plain : Content → Bool
is_plain (Float bits) = false
is_plain (Double bits) = false
is_plain (Date date) = false
is_plain (Time time) = false
is_plain _ = true

abbrev pub value_in : Cell → Option Content
value_in (Given value) = if is_plain value then Some value else None
value_in Default = None
value_in Ignore = None

abbrev pub values_in : List Cell → Option (List Content)
values_in row = each value_in row

-- unless it contains a float, a date, a time, DEFAULT or IGNORE
abbrev pub value_rows : List (List Cell) → Option (List (List Content))
value_rows rows = each values_in rows
