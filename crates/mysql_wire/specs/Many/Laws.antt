-- The encodings of values up to the end of the bytes, and the result of reading them, agree.
use Rattle.std.specs.Prelude.{◌≡◌, ℕ, zero, suc, ◌<◌, ◌≤◌, List, [], ◌∷◌, length, Ok, Err, refl}
use Rattle.std.proofs.Common.{sym, ◌∙◌, arith, inl, inr}
use Rattle.std.proofs.lemmas.Bool.{cases_lt, lt-ltb, le-ltb}
use Rattle.std.proofs.lemmas.List.{append-nil}
use Rattle.mysql_wire.specs.declared.fault.FaultKind.TheVariants as kind
use Rattle.mysql_wire.specs.Reading.{Reading, IsTail, then_read, then_read-ok, done-value, done-rest, done-both, done-along}
use Rattle.mysql_wire.specs.Form.{Form}
use Rattle.mysql_wire.specs.Many.Grammar.{value_and_more, many_Spells, many_within, many_reads}

more-ok : {A : Type 0} (before : ℕ) (next : List ℕ → Reading (List A)) (x : A) (mid : List ℕ) (v : List A) (rest : List ℕ) → value_and_more before next x mid ≡ Ok (v, rest)
    → (length mid < before) × (xs : List A) × (next mid ≡ Ok (xs, rest)) × (x ∷ xs ≡ v)
more-ok {A} before next x mid v rest e =
    elim (cases_lt (length mid) before) [
      | inl lt ↦
          let e2 : then_read (next mid) (λ xs rest. Ok (x ∷ xs, rest)) ≡ Ok (v, rest) = rw (lt-ltb _ _ lt) at e in
          let a = then_read-ok (next mid) (λ xs rest. Ok (x ∷ xs, rest)) (v, rest) e2 in
          (lt, a.0, a.2 ∙ done-both a.0 a.0 a.1 rest refl (done-rest (x ∷ a.0) v a.1 rest a.3), done-value (x ∷ a.0) v a.1 rest a.3)
      | inr le ↦
          let e2 : ◌≡◌ {A = Reading (List A)} (Err kind.InvalidData) (Ok (v, rest)) = rw (le-ltb _ _ le) at e in
          absurd cc
    ]

more-same : {A : Type 0} (before : ℕ) (next other : List ℕ → Reading (List A)) → ((mid : List ℕ) → length mid < before → next mid ≡ other mid)
    → (r : Reading A) → then_read r (value_and_more before next) ≡ then_read r (value_and_more before other)
more-same before next other same (Err e) = refl
more-same before next other same (Ok y) =
    elim (cases_lt (length y.1) before) [
      | inl lt ↦ rw (lt-ltb _ _ lt, same y.1 lt) refl
      | inr le ↦ rw (le-ltb _ _ le) refl
    ]

module _ {A : Type 0} (f : Form A) where
  within-found : (steps : ℕ) (v : List A) (bytes rest : List ℕ) → many_within f steps bytes ≡ Ok (v, rest) → many_Spells f v bytes rest
  within-found zero v [] rest e = done-along (λ w r. many_Spells f w [] r) [] v [] rest e (refl, refl)
  within-found (suc steps) v [] rest e = done-along (λ w r. many_Spells f w [] r) [] v [] rest e (refl, refl)
  within-found zero v (b ∷ bs) rest e = absurd cc
  within-found (suc steps) v (b ∷ bs) rest e =
      let a = then_read-ok (f.reads (b ∷ bs)) (value_and_more (length (b ∷ bs)) (many_within f steps)) (v, rest) e in
      let m = more-ok (length (b ∷ bs)) (many_within f steps) a.0 a.1 v rest a.3 in
      rw (← m.3) (a.1, m.0, f.found a.0 (b ∷ bs) a.1 a.2, within-found steps m.1 a.1 rest m.2)

  within-only : (steps : ℕ) (v : List A) (bytes rest : List ℕ) → length bytes ≤ steps → many_Spells f v bytes rest → many_within f steps bytes ≡ Ok (v, rest)
  within-only zero [] bytes rest le s = rw (s.0, s.1) refl
  within-only (suc steps) [] bytes rest le s = rw (s.0, s.1) refl
  within-only steps (x ∷ xs) [] rest le s = absurd (omega (arith, s.1))
  within-only zero (x ∷ xs) (b ∷ bs) rest le s = absurd (omega (arith, le))
  within-only (suc steps) (x ∷ xs) (b ∷ bs) rest le s =
      let fewer : length s.0 ≤ steps = omega (arith, le, s.1) in
      rw (f.only x (b ∷ bs) s.0 s.2, lt-ltb _ _ s.1, within-only steps xs s.0 rest fewer s.3) refl

  rest-none : (v : List A) (bytes rest : List ℕ) → many_Spells f v bytes rest → rest ≡ []
  rest-none [] bytes rest s = s.1
  rest-none (x ∷ xs) bytes rest s = rest-none xs s.0 rest s.3

  pub many-found : (v : List A) (bytes rest : List ℕ) → many_reads f bytes ≡ Ok (v, rest) → many_Spells f v bytes rest
  many-found v bytes rest e = within-found (length bytes) v bytes rest e

  pub many-only : (v : List A) (bytes rest : List ℕ) → many_Spells f v bytes rest → many_reads f bytes ≡ Ok (v, rest)
  many-only v bytes rest s = within-only (length bytes) v bytes rest (omega arith) s

  pub many-front : (v : List A) (bytes rest : List ℕ) → many_reads f bytes ≡ Ok (v, rest) → IsTail rest bytes
  many-front v bytes rest e = record { front = bytes; parts = rw (rest-none v bytes rest (many-found v bytes rest e)) (sym (append-nil bytes)) }

  -- the number of steps doesn't matter, as long as it is enough
  steps-same : (n m : ℕ) (bytes : List ℕ) → length bytes ≤ n → length bytes ≤ m → many_within f n bytes ≡ many_within f m bytes
  steps-same zero zero [] p q = refl
  steps-same zero (suc m) [] p q = refl
  steps-same (suc n) zero [] p q = refl
  steps-same (suc n) (suc m) [] p q = refl
  steps-same zero m (b ∷ bs) p q = absurd (omega (arith, p))
  steps-same (suc n) zero (b ∷ bs) p q = absurd (omega (arith, q))
  steps-same (suc n) (suc m) (b ∷ bs) p q =
      more-same (length (b ∷ bs)) (many_within f n) (many_within f m) (λ mid lt. steps-same n m mid (omega (arith, p, lt)) (omega (arith, q, lt))) (f.reads (b ∷ bs))

  -- one value, and then the others
  pub many-next : (b : ℕ) (bs : List ℕ) → many_reads f (b ∷ bs) ≡ then_read (f.reads (b ∷ bs)) (value_and_more (length (b ∷ bs)) (many_reads f))
  many-next b bs =
      more-same (length (b ∷ bs)) (many_within f (length bs)) (many_reads f) (λ mid lt. steps-same (length bs) (length mid) mid (omega (arith, lt)) (omega arith)) (f.reads (b ∷ bs))
