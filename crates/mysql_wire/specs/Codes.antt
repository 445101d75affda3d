-- Values with a code of one byte.
use Rattle.std.specs.Prelude.{◌≡◌, ◌==◌, ◌<◌, ◌^◌, ℕ, List, [], ◌∷◌, Option, Some, None, Result, Ok, Err, Bool, true, false, ◌&&◌, nat_lt, if◌then◌else◌, refl}
use Rattle.std.proofs.Common.{subst, ltb-true, eqb-true, ◌⊎◌, inl, inr}
use Rattle.std.proofs.lemmas.Bool.{and_parts}
use Rattle.mysql_wire.specs.declared.constant_value.Const.{Const}
use Rattle.mysql_wire.specs.ConstantValue.{coded, coded-again}
use Rattle.mysql_wire.specs.Form.{number}
use Rattle.mysql_wire.specs.Spelling.{IsSpelling, number-again}
use Rattle.mysql_wire.specs.Writing.{le_bytes}

-- the value, or the error
abbrev pub known_or : {X E : Type 0} → E → Option X → Result X E
known_or error None = Err error
known_or error (Some value) = Ok value

first_or : {X : Type 0} (b : Bool) (x v : X) (rest : Option X) → (if b then Some x else rest) ≡ Some v → ((b ≡ true) × (x ≡ v)) ⊎ (rest ≡ Some v)
first_or true x v rest e = inl (refl, cc)
first_or false x v rest e = inr e

module _ {X : Type 0} (code : X → ℕ) where
  -- the first value with this code
  abbrev pub with_code : List X → ℕ → Option X
  with_code [] n = None
  with_code (x ∷ xs) n = if code x == n then Some x else with_code xs n

  -- the value of a code has that code
  pub with_code-code : (xs : List X) (n : ℕ) (v : X) → with_code xs n ≡ Some v → code v ≡ n
  with_code-code [] n v e = absurd cc
  with_code-code (x ∷ xs) n v e =
      elim (first_or (code x == n) x v (with_code xs n) e) [
        | inl here ↦ subst (λ (w : X). code w ≡ n) here.1 (eqb-true _ _ here.0)
        | inr later ↦ with_code-code xs n v later
      ]

  -- every code fits in a byte
  abbrev pub are_bytes : List X → Bool
  are_bytes [] = true
  are_bytes (x ∷ xs) = nat_lt (code x) (2 ^ 8) && are_bytes xs

  pub with_code-byte : (xs : List X) (n : ℕ) (v : X) → are_bytes xs ≡ true → with_code xs n ≡ Some v → code v < 2 ^ 8
  with_code-byte [] n v small e = absurd cc
  with_code-byte (x ∷ xs) n v small e =
      let s = and_parts (nat_lt (code x) (2 ^ 8)) (are_bytes xs) small in
      elim (first_or (code x == n) x v (with_code xs n) e) [
        | inl here ↦ subst (λ (w : X). code w < 2 ^ 8) here.1 (ltb-true _ _ s.0)
        | inr later ↦ with_code-byte xs n v s.1 later
      ]

  -- a value is read back
  pub code-again : {U : Type 0} (xs : List X) → are_bytes xs ≡ true → ((x : X) → with_code xs (code x) ≡ Some x) → (v : Const X U) → IsSpelling (coded (with_code xs) (number 1)) v (le_bytes 1 (code v.0))
  code-again xs small back v =
      coded-again (with_code xs) (number 1) (code v.0) v (le_bytes 1 (code v.0)) (back v.0) (number-again 1 (code v.0) (with_code-byte xs (code v.0) v.0 small (back v.0)))
