-- The output of a program.
use Rattle.std.specs.Prelude.{◌≡◌, ◌≤◌, ◌⊎◌, ℕ, List, ◌++◌, length, take, Option, Some, None, Bool, true, false}
use Rattle.std.specs.Io.KnownBytes.{Appends, Keeps}

-- the text to write, and the exit status
pub record Answer : Type 0 where
  pub text : List ℕ
  pub status : ℕ

-- a prefix of the text follows what the writer contained, and this rest is not written
pub record IsCut (text rest : List ℕ) (old new : Option (List ℕ)) : Type 0 where
  pub front : List ℕ
  pub parts : text ≡ front ++ rest
  pub written : Appends old new front

-- the whole text, or a prefix of it, follows what the writer contained
abbrev pub IsFront : (is_all : Bool) → List ℕ → Option (List ℕ) → Option (List ℕ) → Type 0
IsFront true text old new = Appends old new text
IsFront false text old new = (rest : List ℕ) × IsCut text rest old new

-- one write took a given number of bytes of the text, or failed and took none
abbrev pub IsTaken : Option ℕ → List ℕ → Option (List ℕ) → Option (List ℕ) → Type 0
IsTaken None text old new = Keeps old new
IsTaken (Some count) text old new = (count ≤ length text) × Appends old new (take count text)

-- The whole text follows what the writer contained, and the status is returned; or a write failed, the status is 3, and a prefix of the
-- text follows.
abbrev pub IsWritten : Answer → Option (List ℕ) → Option (List ℕ) → ℕ → Type 0
IsWritten answer old new status = (IsFront true answer.text old new × (status ≡ answer.status)) ⊎ (IsFront false answer.text old new × (status ≡ 3))
