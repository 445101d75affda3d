-- Rows in C.
use Rattle.std.specs.List.{AllZip, list_all}
use Rattle.std.specs.Prelude.{◌≡◌, ◌≤◌, ◌-◌, ◌++◌, ℕ, List, [], length, take, drop, map, Option, Some, Result, Ok, Err, OnOk, OnErr, IfErr, false, None, Bool, if◌then◌else◌, ◌==◌, ◌&&◌, nat_lt}
use Rattle.mysql_stmt.specs.BinaryRow.{IsRowBytes, row_len, takes_row}
use Rattle.mysql_stmt.specs.Bitmap.{Bitmap}
use Rattle.mysql_stmt.specs.RowView.{Gives, RefusesNext, RowLeft, ref_cell, row_front, row_left, text_row_left}
use Rattle.mysql_values.specs.Value.{Content}
use Rattle.mysql_wire.specs.Reading.{Reading, Faults}
use Rattle.mysql_wire.specs.declared.fault.FaultOf.{FaultOf}
use Rattle.mysql_packets_c.specs.Code.{kind_code}
use Rattle.mysql_packets_c.specs.ColumnType.{type_of, unsigned_of}
use Rattle.mysql_packets_c.specs.Input.{used_of}
use Rattle.mysql_packets_c.specs.Output.{PutsSuchUnlessTooLong}
use Rattle.mysql_packets_c.specs.Value.{IsSet, Sets, SetsFirst, value_content, is_value, values_contents}
use Rattle.mysql_packets_c.specs.declared.rows.CColumnType.{CColumnType}
use Rattle.mysql_packets_c.specs.declared.value.CValue.{CValue}

abbrev pub values_held : List CValue → List (Option Content)
values_held values = map Some (map value_content values)

-- the values that were read are in the first elements, and the other elements are unchanged
pub record Fills (old new : RowLeft) (before after : List CValue) : Type 0 where
  pub fewer : new.left ≤ old.left
  pub values : old.values ≡ map value_content (take (old.left - new.left) after) ++ new.values
  pub end : new.end ≡ old.end
  pub set : AllZip IsSet (take (old.left - new.left) before) (take (old.left - new.left) after)
  pub others : drop (old.left - new.left) after ≡ drop (old.left - new.left) before
  pub len : length after ≡ length before

-- the next value of a row is in its place; after an error the row and the place are unchanged
pub record PutsNext (result : Result (Unit {0}) FaultOf) (old new : RowLeft) (before after : CValue) : Type 0 where
  pub value : OnOk result (Gives old (value_content after) new)
  pub set : OnOk result (Sets (value_content after) before after)
  pub refused : IfErr result (λ e. RefusesNext e new)
  pub stays : OnErr result ((new ≡ old) × (after ≡ before))

-- the values of a row before its first fault: all of them without one
abbrev pub good_text : ℕ → List ℕ → List Content
good_text columns packet = (text_row_left columns packet).values

abbrev pub good_after : List CColumnType → Reading Bitmap → List Content
good_after columns (Ok x) = (row_left (ref_cell type_of unsigned_of x.0.bytes 2) 0 columns x.1).values
good_after columns (Err k) = []

abbrev pub good_binary : List CColumnType → List ℕ → List Content
good_binary columns packet = good_after columns ((row_front type_of unsigned_of 2 columns).reads packet)

-- these values are in the first elements, and the other elements are unchanged
pub record FillsGood (good : List Content) (before after : List CValue) : Type 0 where
  pub held : map value_content (take (length good) after) ≡ good
  pub places : SetsFirst (length good) before after

-- the values are those that are read, and a number of bytes are consumed; or reading has the fault
abbrev pub TakesRow : List ℕ → Result ℕ FaultOf → List CValue → Reading (List (Option Content)) → Type 0
TakesRow packet (Ok used) values read = (rest : List ℕ) × (read ≡ Ok (values_held values, rest)) × (used ≡ used_of packet rest)
TakesRow packet (Err e) values read = Faults false e read

-- 0 if the bytes encode a row with these values; otherwise the code of the first fault
abbrev pub RowInto : List ℕ → List CValue → Reading (List (Option Content)) → ℕ → ℕ → ℕ → Type 0
RowInto packet values (Ok x) code old new = (code ≡ 0) × (values_held values ≡ x.0) × (new ≡ used_of packet x.1)
RowInto packet values (Err k) code old new = (code ≡ kind_code k) × (new ≡ old)

-- the value is NULL or bytes
abbrev pub is_cell : CValue → Bool
is_cell v = nat_lt v.kind 2

-- the bytes; none for NULL
abbrev pub cell_of : CValue → Option (List ℕ)
cell_of v = if v.kind == 0 then None else Some v.bytes.now

abbrev pub cells_of : List CValue → List (Option (List ℕ))
cells_of values = map cell_of values

-- each is valid, and there is one for each column, which can contain it
abbrev pub row_fits : List CColumnType → List CValue → Bool
row_fits columns values = list_all is_value values && takes_row type_of unsigned_of columns (values_contents values)

-- the bytes of the row are written
abbrev pub PutsRow : List CColumnType → List CValue → ℕ → (old new : List ℕ) → ℕ → Type 0
PutsRow columns values code old new written =
    PutsSuchUnlessTooLong (IsRowBytes type_of unsigned_of columns (values_contents values)) (row_len type_of unsigned_of columns (values_contents values)) code old new written
