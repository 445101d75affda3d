-- One value of each form, in order.
use Rattle.std.specs.Prelude.{◌≡◌, ℕ, ◌+◌, List, [], ◌∷◌, None, refl}
use Rattle.mysql_wire.specs.Form.{Form, ◌>>=◌, give}

-- a value of each form; the function gets the index
unfoldable pub each : {A C : Type 0} → (ℕ → C → Form A) → ℕ → List C → Form (List A)
each form place [] = give []
each form place (c ∷ cs) = do
  x ← form place c
  xs ← each form (place + 1) cs
  give (x ∷ xs)

pub size-each : {A C : Type 0} (form : ℕ → C → Form A) (place : ℕ) (cs : List C) → (each form place cs).size ≡ None
unfolding each
size-each form place [] = refl
size-each form place (c ∷ cs) = refl
