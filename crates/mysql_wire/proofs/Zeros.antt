-- The first zero of some bytes.
use Rattle.std.proofs.Common.{◌≡◌, ℕ, zero, suc, List, [], ◌∷◌, ◌++◌, take, drop, slice_index_or, nat_eq, false, Some, None, Ok, Err, refl, ap, arith}
use Rattle.std.proofs.lemmas.Bool.{eqb-false, eqb-true}
use Rattle.memchr.specs.Find.{IsFirstByte, is_byte}
use Rattle.mysql_wire.specs.declared.fault.FaultKind.TheVariants as kind
use Rattle.mysql_wire.specs.Null.{HasNoZero, null_Spells, null_reads, null_string, before_zero}
use Rattle.mysql_wire.specs.Null.Laws.{null-only}

-- the search in the rest, if the first byte is no zero
rest-no-zero : (b : ℕ) (bytes : List ℕ) → IsFirstByte (is_byte 0) (suc b ∷ bytes) None → IsFirstByte (is_byte 0) bytes None
rest-no-zero b bytes h k low high at = h (suc k) (omega arith) (omega arith) at

pub no-zero : (bytes : List ℕ) → IsFirstByte (is_byte 0) bytes None → HasNoZero bytes
no-zero [] h = tt
no-zero (zero ∷ bytes) h = absurd (h 0 (omega arith) (omega arith) refl)
no-zero (suc b ∷ bytes) h = no-zero bytes (rest-no-zero b bytes h)

rest-zero : (b : ℕ) (bytes : List ℕ) (k : ℕ) → IsFirstByte (is_byte 0) (suc b ∷ bytes) (Some (suc k)) → IsFirstByte (is_byte 0) bytes (Some k)
rest-zero b bytes k h = (
  record {
    low = omega arith;
    high = omega (arith, h.0.high);
    before = λ j low high at. h.0.before (suc j) (omega arith) (omega arith) at;
  },
  h.1,
)

pub zero-at : (bytes : List ℕ) (k : ℕ) → IsFirstByte (is_byte 0) bytes (Some k) → null_Spells (take k bytes) bytes (drop 1 (drop k bytes))
zero-at [] k h = absurd (omega (arith, h.0.high))
zero-at (zero ∷ bytes) zero h = (tt, refl)
zero-at (zero ∷ bytes) (suc k) h = absurd (h.0.before 0 (omega arith) (omega arith) refl)
zero-at (suc b ∷ bytes) zero h = absurd (omega (arith, eqb-true (suc b) 0 h.1))
zero-at (suc b ∷ bytes) (suc k) h = let s = zero-at bytes k (rest-zero b bytes k h) in (s.0, ap (λ (t : List ℕ). suc b ∷ t) s.1)

-- without a zero, the content is all of the bytes
pub before_zero-none : (bytes : List ℕ) → HasNoZero bytes → before_zero bytes ≡ bytes
unfolding before_zero
before_zero-none [] h = refl
before_zero-none (zero ∷ bytes) h = absurd h
before_zero-none (suc b ∷ bytes) h = ap (λ (t : List ℕ). suc b ∷ t) (before_zero-none bytes h)

pub before_zero-some : (content bytes rest : List ℕ) → null_Spells content bytes rest → before_zero bytes ≡ content
unfolding before_zero
before_zero-some [] bytes rest s = rw s.1 refl
before_zero-some (zero ∷ content) bytes rest s = absurd s.0
before_zero-some (suc b ∷ content) bytes rest s = rw s.1 (ap (λ (t : List ℕ). suc b ∷ t) (before_zero-some content (content ++ 0 ∷ rest) rest (s.0, refl)))

pub null_string-there : (content bytes rest : List ℕ) → null_Spells content bytes rest → null_string.reads bytes ≡ Ok (content, rest)
unfolding null_string
null_string-there = null-only

no-zero-reads : (bytes : List ℕ) → HasNoZero bytes → null_reads bytes ≡ Err kind.UnexpectedEof
no-zero-reads [] h = refl
no-zero-reads (zero ∷ bytes) h = absurd h
no-zero-reads (suc b ∷ bytes) h = rw (no-zero-reads bytes h) refl

pub null_string-missing : (bytes : List ℕ) → HasNoZero bytes → null_string.reads bytes ≡ Err kind.UnexpectedEof
unfolding null_string
null_string-missing = no-zero-reads

-- the bytes before the zero that a search found
pub before_zero-found : (bytes : List ℕ) (k : ℕ) → IsFirstByte (is_byte 0) bytes (Some k) → before_zero bytes ≡ take k bytes
before_zero-found bytes k h = before_zero-some (take k bytes) bytes (drop 1 (drop k bytes)) (zero-at bytes k h)

pub before_zero-all : (bytes : List ℕ) → IsFirstByte (is_byte 0) bytes None → before_zero bytes ≡ bytes
before_zero-all bytes h = before_zero-none bytes (no-zero bytes h)

-- the parts before and after a place determine the whole
pub no-zero-parts : (k : ℕ) (bytes : List ℕ) → HasNoZero (take k bytes) → HasNoZero (drop k bytes) → HasNoZero bytes
no-zero-parts zero bytes front after = after
no-zero-parts (suc k) [] front after = tt
no-zero-parts (suc k) (zero ∷ bytes) front after = absurd front
no-zero-parts (suc k) (suc b ∷ bytes) front after = no-zero-parts k bytes front after

-- one more byte
pub no-zero-next : (k : ℕ) (bytes : List ℕ) → HasNoZero (take k bytes) → nat_eq (slice_index_or bytes k 0) 0 ≡ false → HasNoZero (take (suc k) bytes)
no-zero-next k [] front at = tt
no-zero-next zero (zero ∷ bytes) front at = absurd (eqb-false 0 0 at refl)
no-zero-next zero (suc b ∷ bytes) front at = tt
no-zero-next (suc k) (zero ∷ bytes) front at = absurd front
no-zero-next (suc k) (suc b ∷ bytes) front at = no-zero-next k bytes front at

pub ruleset null_strings = (null_string-there, null_string-missing)

pub ruleset befores = (before_zero-found, before_zero-all, before_zero-none)

pub ruleset zeros = (no-zero, zero-at)
