-- Column types as text: their codes, separated by commas.
use Rattle.std.specs.Prelude.{ℕ, ◌^◌, true, false, List, [], Option, Some, None, option_map, unwrap_or, if◌then◌else◌}
use Rattle.std.specs.List.{slice_split}
use Rattle.std.specs.Io.BufRead.{ends_with_byte, strip_last}
use Rattle.mysql_wire.specs.declared.codes.column_type.ColumnType.{ColumnType}
use Rattle.mysql_wire.specs.ColumnType.{column_type_of}
use Rattle.mysql_values.specs.declared.param_type.ParamType.{ParamType}
use Rattle.mysql_values.specs.ParamType.{typed}
use Rattle.mysql_program.specs.Decimal.{number_below}
use Rattle.mysql_program.specs.Parts.{is_byte}
use Rattle.mysql_program.specs.RowText.{each}

abbrev pub type_at : Option ℕ → Option ColumnType
type_at None = None
type_at (Some code) = column_type_of code

-- the type of a decimal code
abbrev pub column_type_in : List ℕ → Option ColumnType
column_type_in digits = type_at (number_below (2 ^ 8) digits)

-- a code, and u after it if the type is unsigned
abbrev pub type_of : List ℕ → Option ParamType
type_of word =
    if ends_with_byte 117 word then option_map (λ t. typed t true) (column_type_in (strip_last 117 word))
    else option_map (λ t. typed t false) (column_type_in word)

-- types separated by commas, at least one
unfoldable pub types_of : List ℕ → Option (List ParamType)
types_of words = each type_of (slice_split (is_byte 44) words)

-- the types of words that were checked
abbrev pub words_types : List ℕ → List ParamType
words_types words = unwrap_or (types_of words) []
