-- The number of an attribute's kind.
use Rattle.std.proofs.Common.{◌≡◌, ℕ, zero, suc, refl}
use Rattle.mysql_replies.specs.ColumnAttribute.{kind_code, kind_of}

pub kind-code : (code : ℕ) → kind_code (kind_of code) ≡ code
kind-code zero = refl
kind-code (suc zero) = refl
kind-code (suc (suc n)) = refl

pub ruleset kinds = (kind-code)
