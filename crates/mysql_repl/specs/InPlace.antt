-- Borrowed values after their count.
use Rattle.std.specs.Prelude.{◌≡◌, ℕ, ◌≤◌, List, [], ◌∷◌, ◌++◌, length, drop, Option, Some, None, Ok, Err}
use Rattle.mysql_wire.specs.Form.{Form}
use Rattle.mysql_wire.specs.Reading.{Reading, then_read}
use Rattle.mysql_wire.specs.Seq.{counted}

-- the values that were read
abbrev pub items_read : {A : Type 0} → Reading (List A) → List A
items_read (Ok x) = x.0
items_read (Err kind) = []

-- a given number of values, from the front of the bytes
abbrev pub items_in : {A : Type 0} → Form A → (count : ℕ) (bytes : List ℕ) → List A
items_in f count bytes = items_read ((counted count f).reads bytes)

-- a given number of values are a given number of bytes at the front
abbrev pub AreThere : {A : Type 0} → Form A → (count len : ℕ) (bytes : List ℕ) → Type 0
AreThere f count len bytes = (len ≤ length bytes) × ((counted count f).reads bytes ≡ Ok (items_in f count bytes, drop len bytes))

-- a given number of values are at a place: they are read with what follows, which is left
abbrev pub StandIn : {A : Type 0} → Form A → (count : ℕ) (place : List ℕ) (items : List A) → Type 0
StandIn f count place items = (after : List ℕ) × ((counted count f).reads (place ++ after) ≡ Ok (items, after))

-- the same reading, which only tells whether the values are present
abbrev pub passed : {A : Type 0} → Reading A → Reading (Unit {0})
passed r = then_read r (λ x rest. Ok (tt, rest))

-- the first value and the others
abbrev pub joined : {A : Type 0} → Option (A × List A) → List A
joined None = []
joined (Some parts) = parts.0 ∷ parts.1

-- the first one and the others, or none
abbrev pub NextItem : {A : Type 0} → List A → Option A → List A → Type 0
NextItem items None others = (items ≡ []) × (others ≡ [])
NextItem items (Some item) others = items ≡ item ∷ others
