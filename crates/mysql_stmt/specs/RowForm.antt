-- Rows in the bytes.
use Rattle.std.specs.Prelude.{ℕ, ◌+◌, ◌==◌, ◌&&◌, Bool, is_ok, List, length, Option, Some, Result, Ok, Err}
use Rattle.std.specs.Global.{Vec}
use Rattle.mysql_wire.specs.declared.fault.FaultOf.{FaultOf}
use Rattle.mysql_wire.specs.FlagMasks.{UNSIGNED_FLAG}
use Rattle.mysql_wire.specs.Flags.{has}
use Rattle.mysql_wire.specs.Form.{Form, ◌>>=◌, give, either, map}
use Rattle.mysql_wire.specs.Each.{each}
use Rattle.mysql_wire.specs.Seq.{is_any}
use Rattle.mysql_wire.specs.Skip.{skip}
use Rattle.mysql_replies.specs.declared.column.Column.{Column}
use Rattle.mysql_replies.specs.Column.{column_type, flags}
use Rattle.mysql_values.specs.declared.value.Value.{Value}
use Rattle.mysql_values.specs.Value.{Content, NULL}
use Rattle.mysql_values.specs.ValueDeserializer.{text_value, bin_value}
use Rattle.mysql_stmt.specs.Bitmap.{Bitmap, cell}
use Rattle.mysql_stmt.specs.NullBitmap.{null_bitmap}
use Rattle.mysql_values.specs.Cells.{held}

-- what a row contains: for each column an optional value
pub record RowContent : Type 0 where
  pub cells : List (Option Content)
  pub columns : List Column

-- a value that is present
abbrev pub there : Form Content → Form (Option Content)
there value = map Some value

-- ProtocolText::ResultsetRow: a text value for each column
abbrev pub text_cell : ℕ → Column → Form (Option Content)
text_cell place column = there text_value

abbrev pub text_row : List Column → Form (List (Option Content))
text_row columns = each text_cell 0 columns

-- a value in the binary form of its column's type; no bytes if the bitmap says NULL
abbrev pub bin_value_unless : (is_null : Bool) → Column → Form Content
bin_value_unless is_null column = either is_null (give NULL) (bin_value (column_type column) (has (flags column).0 UNSIGNED_FLAG))

abbrev pub bin_cell : (nulls : List ℕ) (offset : ℕ) → ℕ → Column → Form (Option Content)
bin_cell nulls offset place column = there (bin_value_unless (cell nulls (place + offset) == 1) column)

abbrev pub bin_cells : (nulls : List ℕ) (offset : ℕ) → List Column → Form (List (Option Content))
bin_cells nulls offset columns = each (bin_cell nulls offset) 0 columns

-- ProtocolBinary::ResultsetRow: a byte with any value, the NULL bitmap, and the other values
abbrev pub bin_row : (offset : ℕ) → List Column → Form (List (Option Content))
bin_row offset columns = do
  header ← skip 1
  nulls ← null_bitmap offset (length columns)
  bin_cells nulls.bytes offset columns

-- the byte and the bitmap
abbrev pub bin_row_front : (offset : ℕ) → List Column → Form Bitmap
bin_row_front offset columns = skip 1 >>= (λ header. null_bitmap offset (length columns))

-- Memory is allocated for the values if there are columns: in text at once, in the binary protocol once the bitmap is complete.
abbrev pub text_row_takes_memory : List Column → Bool
text_row_takes_memory columns = is_any (length columns)

abbrev pub bin_row_takes_memory : (offset : ℕ) → List Column → List ℕ → Bool
bin_row_takes_memory offset columns bytes = is_any (length columns) && is_ok ((bin_row_front offset columns).reads bytes)

-- the row with these columns
abbrev pub row_of : (List Column → Form (List (Option Content))) → List Column → Form RowContent
row_of cells columns = do
  values ← cells columns
  give (record { cells = values; columns = columns })

-- what the values that were read contain
abbrev pub cells_in : Result (Vec (Option Value)) FaultOf → Result (List (Option Content)) FaultOf
cells_in (Ok cells) = Ok (held cells.items)
cells_in (Err e) = Err e
