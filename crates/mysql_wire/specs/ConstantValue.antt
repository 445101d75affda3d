-- The wire forms of flag words and of values with codes.
use Rattle.std.specs.Prelude.{◌≡◌, ℕ, List, Option, Some, option_map, refl}
use Rattle.mysql_wire.specs.declared.constant_value.Const.{Const}
use Rattle.mysql_wire.specs.Form.{Form, decode}
use Rattle.mysql_wire.specs.Spelling.{IsSpelling}

abbrev pub const_of : {T U : Type 0} → T → Const T U
const_of value = record { 0 = value; 1 = record {} }

-- an integer in this form, for the value that `of_code` gives it; without one, the data is invalid
unfoldable pub coded : {P T U : Type 0} → (P → Option T) → Form P → Form (Const T U)
coded of_code form = decode (λ n. option_map const_of (of_code n)) form

pub size-coded : {P : Type 0} (T U : Type 0) (of_code : P → Option T) (form : Form P) (size : Option ℕ) → form.size ≡ size → (coded {T = T} {U = U} of_code form).size ≡ size
unfolding coded
size-coded T U of_code form size e = e

-- an integer that is read back stands for its value
pub coded-again : {P T U : Type 0} (of_code : P → Option T) (form : Form P) (n : P) (v : Const T U) (text : List ℕ) → of_code n ≡ Some v.0 → IsSpelling form n text → IsSpelling (coded of_code form) v text
unfolding coded
coded-again of_code form n v text known again rest = (n, rw known refl, again rest)
