-- What is read one after another: the first, and those after it.
use Rattle.std.proofs.Common.{◌≡◌, ℕ, ◌+◌, List, [], ◌∷◌, Ok, Err, length, refl, arith}
use Rattle.mysql_wire.specs.Form.{Form}
use Rattle.mysql_stmt.specs.OneByOne.{several_in}

module _ {A C : Type 0} (f : ℕ → C → Form A) (place : ℕ) (c : C) (cs : List C) (bytes : List ℕ) where
  pub one-more : (x : A) (after : List ℕ) → (f place c).reads bytes ≡ Ok (x, after) → (several_in f place (c ∷ cs) bytes).read ≡ x ∷ (several_in f (place + 1) cs after).read
  unfolding several_in
  one-more x after h = rw h refl

  pub same-end : (x : A) (after : List ℕ) → (f place c).reads bytes ≡ Ok (x, after) → (several_in f (place + 1) cs after).end ≡ (several_in f place (c ∷ cs) bytes).end
  unfolding several_in
  same-end x after h = rw h refl

  pub same-tails : (x : A) (after : List ℕ) → (f place c).reads bytes ≡ Ok (x, after) → (several_in f place (c ∷ cs) bytes).tails ≡ after ∷ (several_in f (place + 1) cs after).tails
  unfolding several_in
  same-tails x after h = rw h refl

  pub none-before : (e : _) → (f place c).reads bytes ≡ Err e → ((several_in f place (c ∷ cs) bytes).read ≡ []) × ((several_in f place (c ∷ cs) bytes).end ≡ Err e)
  unfolding several_in
  none-before e h = (rw h refl, rw h refl)

-- none is left
pub none-left : {A C : Type 0} (f : ℕ → C → Form A) (place : ℕ) (cs : List C) (bytes : List ℕ) → length cs ≡ 0 → ((several_in f place cs bytes).read ≡ []) × ((several_in f place cs bytes).end ≡ Ok bytes)
unfolding several_in
none-left f place [] bytes e = (refl, refl)
none-left f place (c ∷ cs) bytes e = absurd (omega (arith, e))
