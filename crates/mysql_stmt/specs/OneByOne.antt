-- What is read one after another, up to the first fault.
use Rattle.std.specs.Prelude.{ℕ, ◌+◌, List, [], ◌∷◌, Result, Ok, Err}
use Rattle.mysql_wire.specs.declared.fault.FaultKind.{FaultKind}
use Rattle.mysql_wire.specs.Form.{Form}
use Rattle.mysql_wire.specs.Reading.{Reading}

-- those before the first fault, and the bytes after each; and the bytes after the last, or the fault
pub record Several (A : Type 0) : Type 0 where
  pub read : List A
  pub tails : List (List ℕ)
  pub end : Result (List ℕ) FaultKind

-- the first, followed by those that are read after it
abbrev pub then_several : {A : Type 0} → Reading A → (List ℕ → Several A) → Several A
then_several (Ok x) next = record { read = x.0 ∷ (next x.1).read; tails = x.1 ∷ (next x.1).tails; end = (next x.1).end }
then_several (Err e) next = record { read = []; tails = []; end = Err e }

-- one of each form
unfoldable pub several_in : {A C : Type 0} → (ℕ → C → Form A) → ℕ → List C → List ℕ → Several A
several_in form place [] bytes = record { read = []; tails = []; end = Ok bytes }
several_in form place (c ∷ cs) bytes = then_several ((form place c).reads bytes) (several_in form (place + 1) cs)
