-- The cells of a row: an optional value for each column.
use Rattle.std.specs.Prelude.{◌≡◌, ℕ, ◌+◌, ◌≤◌, ◌++◌, ◌∷◌, [], Bool, List, map, Option, Some, Result, Ok, Err, OnOk, OnErr, option_map, vec_len, vec_capacity}
use Rattle.std.specs.Global.{Vec}
use Rattle.mysql_wire.specs.declared.fault.FaultOf.{FaultOf}
use Rattle.mysql_wire.specs.Reading.{Reading, Faults, then_read}
use Rattle.mysql_wire.specs.Form as form
use Rattle.mysql_values.specs.declared.value.Value.{Value}
use Rattle.mysql_values.specs.Value.{Content, content_of}
use Rattle.mysql_values.specs.ValueDeserializer.{reads_bytes}

-- what the values contain, borrowed or not
abbrev pub held : List (Option Value) → List (Option Content)
held cells = map (option_map content_of) cells

-- the cells, followed by a value that is read
abbrev pub with_cell : List (Option Content) → form.Form Content → form.Form (List (Option Content))
with_cell cells value = form.map (λ v. cells ++ Some v ∷ []) value

-- the fault is that of reading the value; or memory ran out for its bytes
abbrev pub RefusesValue : FaultOf → Reading Content → Type 0
RefusesValue fault read = Faults (reads_bytes read) fault read

-- what is read follows the cells before it, with these bytes left; or reading has the fault, or memory ran out
abbrev pub PutsOne : {E : Type 0} → (takes_memory : Bool) → Result E FaultOf → (before after : List (Option Content)) → List ℕ → Reading Content → Type 0
PutsOne takes_memory (Ok x) before after rest read = then_read read (λ v left. Ok (before ++ Some v ∷ [], left)) ≡ Ok (after, rest)
PutsOne takes_memory (Err e) before after rest read = Faults takes_memory e read

-- a value of the form follows the cells; or reading it has a fault, or memory ran out, and the cells and the bytes are unchanged
pub record PutsCell {A : Type 0} (form : form.Form Content) (result : Result A FaultOf) (bytes rest : List ℕ) (before after : Vec (Option Value)) : Type 0 where
  pub value : PutsOne (reads_bytes (form.reads bytes)) result (held before.items) (held after.items) rest (form.reads bytes)
  pub len : OnOk result (vec_len after ≡ vec_len before + 1)
  pub capacity : vec_capacity before ≤ vec_capacity after
  pub err : OnErr result (after.items ≡ before.items)
  pub stays : OnErr result (rest ≡ bytes)
