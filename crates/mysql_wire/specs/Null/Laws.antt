-- The encodings of byte strings terminated by a zero, and the result of reading them, agree.
use Rattle.std.specs.Prelude.{◌≡◌, ℕ, zero, suc, List, [], ◌∷◌, ◌++◌, Ok, refl}
use Rattle.std.proofs.Common.{ap, sym, ◌∙◌, append_assoc}
use Rattle.mysql_wire.specs.Reading.{IsTail, then_read-ok, done-along}
use Rattle.mysql_wire.specs.Null.Grammar.{null_Spells, null_reads}

pub null-found : (content bytes rest : List ℕ) → null_reads bytes ≡ Ok (content, rest) → null_Spells content bytes rest
null-found content [] rest e = absurd cc
null-found content (zero ∷ bytes) rest e = done-along (λ c r. null_Spells c (0 ∷ bytes) r) [] content bytes rest e (tt, refl)
null-found content (suc b ∷ bytes) rest e =
    let a = then_read-ok (null_reads bytes) (λ c r. Ok (suc b ∷ c, r)) (content, rest) e in
    let s = null-found a.0 bytes a.1 a.2 in
    done-along (λ c r. null_Spells c (suc b ∷ bytes) r) (suc b ∷ a.0) content a.1 rest a.3 (s.0, ap (λ (t : List ℕ). suc b ∷ t) s.1)

pub null-only : (content bytes rest : List ℕ) → null_Spells content bytes rest → null_reads bytes ≡ Ok (content, rest)
null-only [] bytes rest s = rw s.1 refl
null-only (zero ∷ content) bytes rest s = absurd s.0
null-only (suc b ∷ content) bytes rest s = rw (s.1, null-only content (content ++ 0 ∷ rest) rest (s.0, refl)) refl

pub null-front : (content bytes rest : List ℕ) → null_reads bytes ≡ Ok (content, rest) → IsTail rest bytes
null-front content bytes rest e = record { front = content ++ 0 ∷ []; parts = (null-found content bytes rest e).1 ∙ sym (append_assoc content (0 ∷ []) rest) }
