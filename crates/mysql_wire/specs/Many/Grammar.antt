-- Values up to the end of the bytes: their encodings, and the result of reading them.
use Rattle.std.specs.Prelude.{◌≡◌, ℕ, zero, suc, ◌<◌, List, [], ◌∷◌, length, Ok, Err, Bool, false, nat_lt, if◌then◌else◌}
use Rattle.mysql_wire.specs.declared.fault.FaultKind.TheVariants as kind
use Rattle.mysql_wire.specs.Reading.{Reading, then_read}
use Rattle.mysql_wire.specs.Form.{Form}
use Rattle.mysql_wire.specs.Seq.{asks_memory}

-- the value, and what is read after it; it took at least one of a given number of bytes
abbrev pub value_and_more : {A : Type 0} → ℕ → (List ℕ → Reading (List A)) → A → List ℕ → Reading (List A)
value_and_more before next x mid = if nat_lt (length mid) before then then_read (next mid) (λ xs rest. Ok (x ∷ xs, rest)) else Err kind.InvalidData

-- whether the reader of the values may allocate: if the first one is read and takes a byte, or may allocate itself
abbrev pub many_asks : {A : Type 0} → (List ℕ → Bool) → Form A → List ℕ → Bool
many_asks takes_memory f [] = false
many_asks takes_memory f (b ∷ bs) = asks_memory (takes_memory (b ∷ bs)) (then_read (f.reads (b ∷ bs)) (value_and_more (length (b ∷ bs)) (λ mid. Ok ([], mid))))

module _ {A : Type 0} (f : Form A) where
  -- each value takes at least one byte, and the last one ends the bytes
  abbrev pub many_Spells : List A → List ℕ → List ℕ → Type 0
  many_Spells [] bytes rest = (bytes ≡ []) × (rest ≡ [])
  many_Spells (x ∷ xs) bytes rest = (mid : List ℕ) × (length mid < length bytes) × f.Spells x bytes mid × many_Spells xs mid rest

  -- at most a given number of values
  abbrev pub many_within : ℕ → List ℕ → Reading (List A)
  many_within steps [] = Ok ([], [])
  many_within zero (b ∷ bs) = Err kind.InvalidData
  many_within (suc steps) (b ∷ bs) = then_read (f.reads (b ∷ bs)) (value_and_more (length (b ∷ bs)) (many_within steps))

  -- as many values as possible, each of at least one byte
  abbrev pub many_reads : List ℕ → Reading (List A)
  many_reads bytes = many_within (length bytes) bytes
