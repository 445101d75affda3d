-- Whether bytes contain a zero.
use Rattle.std.proofs.Common.{◌≡◌, ℕ, zero, suc, List, [], ◌∷◌, length, refl, arith, sym, ◌∙◌, inl, inr}
use Rattle.std.specs.Prelude.{nat_lt}
use Rattle.std.proofs.lemmas.Bool.{cases_lt, lt-ltb, le-ltb}
use Rattle.mysql_wire.specs.Null.{before_zero}
use Rattle.mysql_auth.specs.PluginName.{has_zero}

one-more : (a b : ℕ) → nat_lt (suc a) (suc b) ≡ nat_lt a b
one-more a b =
    elim (cases_lt a b) [
      | inl lt ↦ lt-ltb (suc a) (suc b) (omega (arith, lt)) ∙ sym (lt-ltb a b lt)
      | inr le ↦ le-ltb (suc a) (suc b) (omega (arith, le)) ∙ sym (le-ltb a b le)
    ]

-- the bytes before the first zero, if there is one, are fewer
pub shorter-has_zero : (bytes : List ℕ) → nat_lt (length (before_zero bytes)) (length bytes) ≡ has_zero bytes
unfolding before_zero
shorter-has_zero [] = refl
shorter-has_zero (zero ∷ bytes) = lt-ltb 0 (length (0 ∷ bytes)) (omega arith)
shorter-has_zero (suc b ∷ bytes) = one-more (length (before_zero bytes)) (length bytes) ∙ shorter-has_zero bytes

pub ruleset zeros = (shorter-has_zero)
