-- Numbers of text rows.
use Rattle.std.specs.Char.{is_ascii_digit}
use Rattle.std.specs.Float.{Float, float_is_finite}
use Rattle.std.specs.List.{list_all, list_any}
use Rattle.std.specs.Prelude.{◌≡◌, ℕ, ◌==◌, ◌&&◌, ◌||◌, Bool, true, false, List, [], ◌∷◌, Option, Some, None, if◌then◌else◌}

-- without a leading plus or minus
unfoldable pub after_sign : List ℕ → List ℕ
after_sign [] = []
after_sign (b ∷ text) = if b == 43 || b == 45 then text else b ∷ text

-- one or more digits
abbrev pub is_numeral : List ℕ → Bool
is_numeral [] = false
is_numeral (b ∷ text) = is_ascii_digit b && list_all is_ascii_digit text

-- after an optional sign
abbrev pub is_integer : List ℕ → Bool
is_integer text = is_numeral (after_sign text)

abbrev pub has_digit : List ℕ → Bool
has_digit text = list_any is_ascii_digit text

-- the code for a text that the type can't contain: an integer is out of range
abbrev pub integer_code : List ℕ → ℕ
integer_code text = if is_integer text then 8 else 2

-- 0 and the number if the text fits the type; or this code, and the output is unchanged
pub record Converts {T : Type 0} (Fits : Type 0) (number : T) (error : ℕ) (code : ℕ) (old new : T) : Type 0 where
  pub fits : Fits → (code ≡ 0) × (new ≡ number)
  pub error_is : (Fits → ⊥) → (code ≡ error) × (new ≡ old)

-- 0 and a finite float; for infinity or NaN, 8 if the text has a digit, otherwise 2, and the output is unchanged
abbrev pub ConvertsTo : (is_finite : Bool) → Float → (digit : Bool) → ℕ → (old new : Float) → Type 0
ConvertsTo true x digit code old new = (code ≡ 0) × (new ≡ x)
ConvertsTo false x digit code old new = (code ≡ (if digit then 8 else 2)) × (new ≡ old)

-- how the text is parsed, if it is a float
abbrev pub ConvertsFloat : Option Float → (digit : Bool) → ℕ → (old new : Float) → Type 0
ConvertsFloat None digit code old new = (code ≡ 2) × (new ≡ old)
ConvertsFloat (Some x) digit code old new = ConvertsTo (float_is_finite x) x digit code old new
