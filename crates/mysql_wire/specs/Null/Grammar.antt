-- Byte strings terminated by a zero: their encodings, and the result of reading them.
use Rattle.std.specs.Prelude.{◌≡◌, ℕ, zero, suc, List, [], ◌∷◌, ◌++◌, Ok, Err}
use Rattle.mysql_wire.specs.declared.fault.FaultKind.TheVariants as kind
use Rattle.mysql_wire.specs.Reading.{Reading, then_read}

-- the bytes contain no zero
abbrev pub HasNoZero : List ℕ → Type 0
HasNoZero [] = Unit {0}
HasNoZero (zero ∷ bytes) = ⊥
HasNoZero (suc b ∷ bytes) = HasNoZero bytes

-- the content contains no zero, and a zero follows it
abbrev pub null_Spells : List ℕ → List ℕ → List ℕ → Type 0
null_Spells content bytes rest = HasNoZero content × (bytes ≡ content ++ 0 ∷ rest)

-- the bytes before the first zero, which is consumed
abbrev pub null_reads : List ℕ → Reading (List ℕ)
null_reads [] = Err kind.UnexpectedEof
null_reads (zero ∷ bytes) = Ok ([], bytes)
null_reads (suc b ∷ bytes) = then_read (null_reads bytes) (λ content rest. Ok (suc b ∷ content, rest))
