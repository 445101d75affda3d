-- A row allocates if it has columns.
use Rattle.std.proofs.Common.{◌≡◌, ℕ, ◌<◌, zero, suc, true, refl, arith}
use Rattle.mysql_wire.specs.Seq.{is_any}

-- a count above another one isn't 0
pub some_any : (i n : ℕ) → i < n → is_any n ≡ true
some_any i zero lt = absurd (omega (arith, lt))
some_any i (suc n) lt = refl

-- a count other than 0 counts something
pub not-none_any : (n : ℕ) → (n ≡ 0 → ⊥) → is_any n ≡ true
not-none_any zero some = absurd (some refl)
not-none_any (suc n) some = refl

pub ruleset row_memory = (some_any, not-none_any)
