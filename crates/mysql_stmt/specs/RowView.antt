-- Rows that are read value by value.
use Rattle.std.specs.Prelude.{◌≡◌, ℕ, suc, ◌+◌, ◌-◌, ◌*◌, ◌<◌, ◌≤◌, ◌^◌, ◌==◌, ◌++◌, Bool, false, List, [], ◌∷◌, length, map, take, drop, replicate, Option, Some, None, Result, Ok, Err, IsTrue}
use Rattle.std.specs.List.{All}
use Rattle.mysql_wire.specs.declared.fault.FaultOf.{FaultOf}
use Rattle.mysql_wire.specs.declared.fault.FaultKind.{FaultKind}
use Rattle.mysql_wire.specs.declared.codes.column_type.ColumnType.{ColumnType}
use Rattle.mysql_wire.specs.Reading.{Reading, Faults}
use Rattle.mysql_wire.specs.Form.{Form, ◌>>=◌, give, either}
use Rattle.mysql_wire.specs.Each.{each}
use Rattle.mysql_wire.specs.Seq.{counted}
use Rattle.mysql_wire.specs.Skip.{skip}
use Rattle.mysql_values.specs.Value.{Content, NULL}
use Rattle.mysql_values.specs.ValueDeserializer.{text_value, bin_value}
use Rattle.mysql_values.specs.declared.value_ref.ValueRef.{ValueRef}
use Rattle.mysql_values.specs.ValueRef.{ref_content}
use Rattle.mysql_stmt.specs.Bitmap.{Bitmap, cell}
use Rattle.mysql_stmt.specs.NullBitmap.{null_bitmap}
use Rattle.mysql_stmt.specs.OneByOne.{several_in}
use Rattle.mysql_stmt.specs.RowForm.{there}

-- ---- grammars

module _ {C : Type 0} (type_of : C → ColumnType) (unsigned : C → Bool) where
  -- a value in the binary form of its column's type; no bytes if the bitmap says NULL
  abbrev pub ref_unless : (is_null : Bool) → C → Form Content
  ref_unless is_null column = either is_null (give NULL) (bin_value (type_of column) (unsigned column))

  abbrev pub ref_cell : (nulls : List ℕ) (offset : ℕ) → ℕ → C → Form Content
  ref_cell nulls offset place column = ref_unless (cell nulls (place + offset) == 1) column

  -- the byte and the bitmap
  abbrev pub row_front : (offset : ℕ) → List C → Form Bitmap
  row_front offset columns = skip 1 >>= (λ header. null_bitmap offset (length columns))

  -- ProtocolBinary::ResultsetRow: a byte with any value, the NULL bitmap, and the other values
  abbrev pub bin_row_of : (offset : ℕ) → List C → Form (List (Option Content))
  bin_row_of offset columns = do
    header ← skip 1
    nulls ← null_bitmap offset (length columns)
    each (λ place column. there (ref_cell nulls.bytes offset place column)) 0 columns

-- ProtocolText::ResultsetRow: a given number of text values
abbrev pub text_row_of : ℕ → Form (List (Option Content))
text_row_of columns = counted columns (there text_value)

-- ---- value by value

-- The rest of a row: the number of values, those without a fault, and the bytes after the last value, or the fault that follows those.
pub record RowLeft : Type 0 where
  pub left : ℕ
  pub values : List Content
  pub end : Result (List ℕ) FaultKind
  -- the bytes after the values that were read, and after each of those without a fault
  pub rest : List ℕ
  pub tails : List (List ℕ)

abbrev pub row_left : {C : Type 0} → (ℕ → C → Form Content) → ℕ → List C → List ℕ → RowLeft
row_left form place columns bytes = record {
  left = length columns;
  values = (several_in form place columns bytes).read;
  end = (several_in form place columns bytes).end;
  rest = bytes;
  tails = (several_in form place columns bytes).tails;
}

abbrev pub text_row_left : ℕ → List ℕ → RowLeft
text_row_left left bytes = record {
  left = left;
  values = (several_in (λ place (column : Unit {0}). text_value) 0 (replicate left tt) bytes).read;
  end = (several_in (λ place (column : Unit {0}). text_value) 0 (replicate left tt) bytes).end;
  rest = bytes;
  tails = (several_in (λ place (column : Unit {0}). text_value) 0 (replicate left tt) bytes).tails;
}

-- the row follows the byte and the bitmap
abbrev pub IsBinaryRow : {C : Type 0} (type_of : C → ColumnType) (unsigned : C → Bool) (offset : ℕ) → List C → List ℕ → RowLeft → Type 0
IsBinaryRow type_of unsigned offset columns bytes row =
    (nulls : Bitmap) × (after : List ℕ) × ((row_front type_of unsigned offset columns).reads bytes ≡ Ok (nulls, after))
    × (row ≡ row_left (ref_cell type_of unsigned nulls.bytes offset) 0 columns after)

-- the result of reading the whole rest
abbrev pub read_to : List Content → Result (List ℕ) FaultKind → Reading (List (Option Content))
read_to values (Ok rest) = Ok (map Some values, rest)
read_to values (Err e) = Err e

abbrev pub read_of : RowLeft → Reading (List (Option Content))
read_of row = read_to row.values row.end

-- the bitmap has a bit for each remaining column, and their number fits in a usize
pub record HasBits (nulls : List ℕ) (offset : ℕ) (none : Bool) (place left : ℕ) : Type 0 where
  pub bits : (i : ℕ) → i < left → place + i + offset < 8 * length nulls
  pub clear : IsTrue none → All (λ b. b ≡ 0) nulls
  pub counted : place + left < 2 ^ 64

-- ---- reading

-- the value of a form was put into a place; or reading it has a fault, and the place is unchanged
abbrev pub PutsValue : Form Content → Result (Unit {0}) FaultOf → (bytes rest : List ℕ) → (before after : ValueRef) → Type 0
PutsValue form (Ok done) bytes rest before after = form.reads bytes ≡ Ok (ref_content after, rest)
PutsValue form (Err e) bytes rest before after = Faults false e (form.reads bytes) × (after ≡ before)

-- there is no value before this fault
abbrev pub RefusesNext : FaultOf → RowLeft → Type 0
RefusesNext e row = (row.values ≡ []) × Faults false e (read_of row)

-- no value is left
abbrev pub IsDone : RowLeft → Type 0
IsDone row = (row.left ≡ 0) × (row.values ≡ [])

-- this is the first of the values without a fault
abbrev pub Gives : RowLeft → Content → RowLeft → Type 0
Gives old x new = (old.left ≡ suc new.left) × (old.values ≡ x ∷ new.values) × (new.end ≡ old.end) × (old.tails ≡ new.rest ∷ new.tails)

-- the first of the values without a fault; or none is left; or the fault, and all are left
abbrev pub GivesOne : RowLeft → Result (Option ValueRef) FaultOf → RowLeft → Type 0
GivesOne old (Ok (Some v)) new = Gives old (ref_content v) new
GivesOne old (Ok None) new = IsDone old × (new ≡ old)
GivesOne old (Err e) new = RefusesNext e old × (new ≡ old)

-- what the values contain
abbrev pub refs_held : List ValueRef → List Content
refs_held values = map ref_content values

-- the values that were read are in the first places, and the other places are unchanged
pub record Fills (old new : RowLeft) (before after : List ValueRef) : Type 0 where
  pub fewer : new.left ≤ old.left
  pub values : old.values ≡ refs_held (take (old.left - new.left) after) ++ new.values
  pub end : new.end ≡ old.end
  pub rest : drop (old.left - new.left) (old.rest ∷ old.tails) ≡ new.rest ∷ new.tails
  pub others : drop (old.left - new.left) after ≡ drop (old.left - new.left) before
