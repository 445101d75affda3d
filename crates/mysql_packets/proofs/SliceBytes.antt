-- The items of a slice of bytes are bytes.
use Rattle.std.proofs.Common.{ℕ, suc, List, [], ◌∷◌, get_or, Fits, w8}
use Rattle.mysql_commands.specs.AsRead.{AreBytes}

pub are_bytes : (bytes : List ℕ) → ((i : ℕ) → Fits w8 (get_or bytes i 0)) → AreBytes bytes
are_bytes [] fit = tt
are_bytes (b ∷ bytes) fit = ((fit 0).fits, are_bytes bytes (λ i. fit (suc i)))
