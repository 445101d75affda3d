-- Values up to the end of the bytes.
pub mod Grammar
pub mod Laws
use Rattle.std.specs.Prelude.{◌≡◌, ℕ, List, [], ◌∷◌, Option, Some, None, Ok, Err, refl}
use Rattle.mysql_wire.specs.Form.{Form, any_size}
use Rattle.mysql_wire.specs.Many.Laws as law
use Rattle.mysql_wire.specs.Reading.{Reading}
pub use Rattle.mysql_wire.specs.Many.Grammar.{many_Spells, many_reads, many_asks, value_and_more}

-- each value takes at least one byte, and the last one ends the bytes
unfoldable pub many : {A : Type 0} → Form A → Form (List A)
many f = any_size (many_Spells f) (many_reads f) (law.many-found f) (law.many-only f) (law.many-front f)

pub size-many : {A : Type 0} (f : Form A) → (many f).size ≡ None
unfolding many
size-many f = refl

-- ---- values that the bytes encode up to their end, taken one by one

-- the values that were read
abbrev pub items_read : {A : Type 0} → Reading (List A) → List A
items_read (Ok x) = x.0
items_read (Err kind) = []

-- the values that the bytes encode, if they encode any
abbrev pub items_in : {A : Type 0} → Form A → List ℕ → List A
items_in f bytes = items_read ((many f).reads bytes)

-- the bytes encode values up to their end
abbrev pub AreItems : {A : Type 0} → Form A → List ℕ → Type 0
AreItems f bytes = (many f).reads bytes ≡ Ok (items_in f bytes, [])

-- the first value and the others, or none
abbrev pub NextItem : {A : Type 0} → List A → Option A → List A → Type 0
NextItem items None others = (items ≡ []) × (others ≡ [])
NextItem items (Some item) others = items ≡ item ∷ others
