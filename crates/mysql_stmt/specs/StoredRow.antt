-- Rows that outlive their packets, in one block of bytes: an entry of eight bytes for each value, and then the bytes of the values.
use Rattle.std.specs.Prelude.{◌≡◌, ℕ, zero, suc, ◌+◌, ◌*◌, ◌/◌, ◌%◌, ◌<◌, ◌≤◌, ◌^◌, ◌&&◌, Bool, true, false, List, [], ◌∷◌, length, map, take, drop, slice_get, slice_index_or, nat_lt, Option, Some, None, Result, Ok, Err, if◌then◌else◌}
use Rattle.mysql_wire.specs.declared.fault.FaultOf.{FaultOf}
use Rattle.mysql_wire.specs.declared.fault.FaultKind.TheVariants as fault
use Rattle.mysql_wire.specs.Reading.{Reading, Faults, IsTail}
use Rattle.mysql_wire.specs.Form.{Form, le_value}
use Rattle.mysql_values.specs.Value.{Content, NULL}
use Rattle.mysql_values.specs.ValueDeserializer.{value_of_kind}
use Rattle.mysql_values.specs.declared.value_kind.ValueKind.{ValueKind}
use Rattle.mysql_values.specs.declared.value_kind.ValueKind.TheVariants as value
use Rattle.mysql_stmt.specs.declared.stored_form.StoredForm.{StoredForm}
use Rattle.mysql_stmt.specs.declared.stored_form.StoredForm.TheVariants as stored
use Rattle.mysql_stmt.specs.RowView.{RowLeft, Gives, IsDone, RefusesNext, read_of}

-- ---- how a value is spelled

-- the form of a stored value
abbrev pub form_of : StoredForm → Form Content
form_of stored.Null = value_of_kind value.Null false
form_of stored.String = value_of_kind value.String false
form_of stored.Tiny = value_of_kind value.Tiny false
form_of stored.UnsignedTiny = value_of_kind value.Tiny true
form_of stored.Short = value_of_kind value.Short false
form_of stored.UnsignedShort = value_of_kind value.Short true
form_of stored.Long = value_of_kind value.Long false
form_of stored.UnsignedLong = value_of_kind value.Long true
form_of stored.LongLong = value_of_kind value.LongLong false
form_of stored.UnsignedLongLong = value_of_kind value.LongLong true
form_of stored.Float = value_of_kind value.Float false
form_of stored.Double = value_of_kind value.Double false
form_of stored.Date = value_of_kind value.Date false
form_of stored.Time = value_of_kind value.Time false

-- the forms, by their numbers
abbrev pub stored_forms : List StoredForm
stored_forms =
    stored.Null
    ∷ stored.String
    ∷ stored.Tiny
    ∷ stored.UnsignedTiny
    ∷ stored.Short
    ∷ stored.UnsignedShort
    ∷ stored.Long
    ∷ stored.UnsignedLong
    ∷ stored.LongLong
    ∷ stored.UnsignedLongLong
    ∷ stored.Float
    ∷ stored.Double
    ∷ stored.Date
    ∷ stored.Time
    ∷ []

-- the form that has the number
abbrev pub form_of_code : ℕ → Form Content
form_of_code n = form_of (slice_index_or stored_forms n stored.Null)

-- the form has the number
pub record IsCode (f : StoredForm) (n : ℕ) : Type 0 where
  pub form : slice_index_or stored_forms n stored.Null ≡ f
  pub small : n < 14

-- values of the kind are stored in this form
abbrev pub IsStoredAs : ValueKind → Bool → StoredForm → Type 0
IsStoredAs value.Unsupported is_unsigned f = Unit {0}
IsStoredAs kind is_unsigned f = (bytes : List ℕ) → (form_of f).reads bytes ≡ (value_of_kind kind is_unsigned).reads bytes

-- the form reads that value of these bytes
abbrev pub ReadsAs : StoredForm → List ℕ → Content → Type 0
ReadsAs f bytes x = (rest : List ℕ) × ((form_of f).reads bytes ≡ Ok (x, rest))

-- a value of this form is read, which that one reads too; or the fault of reading it
abbrev pub PassesValue : Form Content → Result StoredForm FaultOf → (bytes rest : List ℕ) → Type 0
PassesValue form (Ok f) bytes rest = (x : Content) × (form.reads bytes ≡ Ok (x, rest)) × ReadsAs f bytes x
PassesValue form (Err e) bytes rest = Faults false e (form.reads bytes)

-- the first of the values that are good was passed, which the form reads; or none is left; or the fault, and all are left
abbrev pub PassesOne : RowLeft → Result (Option StoredForm) FaultOf → RowLeft → Type 0
PassesOne old (Ok (Some f)) new = (x : Content) × Gives old x new × IsTail new.rest old.rest × ReadsAs f old.rest x
PassesOne old (Ok None) new = IsDone old × (new ≡ old)
PassesOne old (Err e) new = RefusesNext e old × (new ≡ old)

-- all values are good, or the first fault
abbrev pub ChecksRow : Result (Unit {0}) FaultOf → RowLeft → Type 0
ChecksRow (Ok done) row = (rest : List ℕ) × (row.end ≡ Ok rest)
ChecksRow (Err e) row = Faults false e (read_of row)

-- ---- the block

-- an entry is a number: the place of the value's bytes in the block, and in the upper half the number of its form
abbrev pub entry_number : (code place : ℕ) → ℕ
entry_number code place = code * 2 ^ 32 + place

abbrev pub IsEntry : StoredForm → (place n : ℕ) → Type 0
IsEntry form place n = (code : ℕ) × IsCode form code × (n ≡ entry_number code place)

abbrev pub first_entry : List ℕ → ℕ
first_entry entries = le_value (take 8 entries)

abbrev pub entry_reading : (entries block : List ℕ) → Reading Content
entry_reading entries block = (form_of_code (first_entry entries / 2 ^ 32)).reads (drop (first_entry entries % 2 ^ 32) block)

abbrev pub value_read : Reading Content → Content
value_read (Ok x) = x.0
value_read (Err e) = NULL

-- the values of the first entries, by their number
unfoldable pub stored_values : ℕ → (entries block : List ℕ) → List Content
stored_values zero entries block = []
stored_values (suc n) entries block = value_read (entry_reading entries block) ∷ stored_values n (drop 8 entries) block

-- the entry is there, and so is its value
pub record IsStored (entries block : List ℕ) : Type 0 where
  pub size : 8 ≤ length entries
  pub place : first_entry entries % 2 ^ 32 ≤ length block
  pub good : (x : Content) × (rest : List ℕ) × (entry_reading entries block ≡ Ok (x, rest))

unfoldable pub AreStored : ℕ → (entries block : List ℕ) → Type 0
AreStored zero entries block = Unit {0}
AreStored (suc n) entries block = IsStored entries block × AreStored n (drop 8 entries) block

-- ---- rows

-- a stored row: its values, and how many bytes its block has
pub record Stored : Type 0 where
  pub values : List Content
  pub capacity : ℕ

-- the bytes that a row takes: eight for each value, and those that are left of the packet
abbrev pub stored_size : RowLeft → ℕ
stored_size row = 8 * row.left + length row.rest

-- the places fit four bytes
abbrev pub is_storable : RowLeft → Bool
is_storable row = nat_lt row.left (2 ^ 28) && nat_lt (length row.rest) (2 ^ 31)

-- what storing a row reads: its values, unless it is too long
abbrev pub reads_to_store : RowLeft → Reading (List (Option Content))
reads_to_store row = if is_storable row then read_of row else Err fault.InvalidData

-- the values are those of the row; or the fault, or memory ran out
abbrev pub StoresRow : (takes_memory : Bool) → Result (Unit {0}) FaultOf → List Content → Reading (List (Option Content)) → Type 0
StoresRow takes_memory (Ok done) values read = (rest : List ℕ) × (read ≡ Ok (map Some values, rest))
StoresRow takes_memory (Err e) values read = Faults takes_memory e read

-- a block that holds the values of a row
pub record HoldsRow (row : RowLeft) (block : List ℕ) : Type 0 where
  pub values : stored_values row.left block block ≡ row.values
  pub stored : AreStored row.left block block
  pub end : (rest : List ℕ) × (row.end ≡ Ok rest)

-- ---- values by an index

-- the content at a place; there is none past the row
abbrev pub content_at : List Content → Option ℕ → Option Content
content_at values None = None
content_at values (Some i) = slice_get values i

-- the content at a place that is found
abbrev pub FindsValue : (Finds : Option ℕ → Type 0) → List Content → Option Content → Type 0
FindsValue Finds values answer = (place : Option ℕ) × Finds place × (answer ≡ content_at values place)
