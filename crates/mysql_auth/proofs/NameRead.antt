-- A name ends before a zero byte or at the end of the packet.
use Rattle.std.proofs.Common.{◌≡◌, ℕ, zero, suc, List, [], ◌∷◌, ◌++◌, Ok, true, false, refl}
use Rattle.mysql_wire.specs.Null.{HasNoZero, null_Spells, null_string}
use Rattle.mysql_auth.specs.PluginName.{has_zero, name_to_zero_or_end}
use Rattle.mysql_auth.proofs.ReadParts.{name-told}

zero-after : (content rest : List ℕ) → has_zero (content ++ 0 ∷ rest) ≡ true
zero-after [] rest = refl
zero-after (zero ∷ content) rest = refl
zero-after (suc b ∷ content) rest = zero-after content rest

no-zero : (bytes : List ℕ) → HasNoZero bytes → has_zero bytes ≡ false
no-zero [] h = refl
no-zero (zero ∷ bytes) h = absurd h
no-zero (suc b ∷ bytes) h = no-zero bytes h

-- a name with a zero after it
pub read-to-zero : (content bytes rest : List ℕ) → null_Spells content bytes rest → name_to_zero_or_end.reads bytes ≡ Ok (content, rest)
unfolding null_string
read-to-zero content bytes rest s =
    let there : has_zero bytes ≡ true = rw s.1 (zero-after content rest) in
    rw there (null_string.only content bytes rest s)

-- a name to the end
pub read-to-end : (bytes : List ℕ) → HasNoZero bytes → name_to_zero_or_end.reads bytes ≡ Ok (bytes, [])
read-to-end bytes h = rw (no-zero bytes h) refl

pub null-read : (content bytes rest : List ℕ) → null_Spells content bytes rest → null_string.reads bytes ≡ Ok (content, rest)
unfolding null_string
null-read content bytes rest s = null_string.only content bytes rest s

pub no_zero-read : (content bytes rest : List ℕ) → null_string.reads bytes ≡ Ok (content, rest) → HasNoZero content
unfolding null_string
no_zero-read content bytes rest e = (null_string.found content bytes rest e).0

pub no_zero-spelled : (content bytes rest : List ℕ) → null_Spells content bytes rest → HasNoZero content
no_zero-spelled content bytes rest s = s.0

pub ruleset names_read = (read-to-zero, read-to-end, null-read, no_zero-read, no_zero-spelled, name-told)
