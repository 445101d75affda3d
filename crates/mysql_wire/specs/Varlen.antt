-- Numbers of variable length: the low ones of the first byte are the number of bytes that follow. And strings after such a length.
pub mod Grammar
pub mod Laws
pub mod Again
use Rattle.std.specs.Prelude.{◌≡◌, ℕ, zero, suc, ◌+◌, ◌-◌, ◌*◌, ◌^◌, List, ◌∷◌, ◌++◌, length, None, nat_lt, ◌==◌, if◌then◌else◌, refl}
use Rattle.mysql_wire.specs.Form.{Form, any_size, ◌>>=◌, bytes}
use Rattle.mysql_wire.specs.Varlen.Laws as law
use Rattle.mysql_wire.specs.Writing.{le_bytes}
pub use Rattle.mysql_wire.specs.Varlen.Grammar.{varlen_Spells, low_ones, above_ones, varlen_reads}

-- in k + 1 bytes, the number above a zero and k ones; or the byte ff, and the number in eight bytes
unfoldable pub varlen : Form ℕ
varlen = any_size varlen_Spells varlen_reads law.varlen-found law.varlen-only law.varlen-front

pub size-varlen : varlen.size ≡ None
unfolding varlen
size-varlen = refl

-- the length, and that many bytes
unfoldable pub varlen_string : Form (List ℕ)
varlen_string = do
  n ← varlen
  bytes n

pub size-varlen_string : varlen_string.size ≡ None
unfolding varlen_string
size-varlen_string = refl

-- ---- writing

-- the fewest bytes that hold the number at seven bits each, from k + 1 on; or nine
abbrev pub fewest_from : ℕ → ℕ → ℕ → ℕ
fewest_from zero k n = 9
fewest_from (suc left) k n = if nat_lt n (2 ^ (7 * suc k)) then suc k else fewest_from left (suc k) n

unfoldable pub varlen_size : ℕ → ℕ
varlen_size n = fewest_from 8 0 n

-- the shortest encoding of a number
unfoldable pub varlen_bytes : ℕ → List ℕ
varlen_bytes n =
    if varlen_size n == 9 then 255 ∷ le_bytes 8 n
    else le_bytes (varlen_size n) (n * 2 ^ varlen_size n + (2 ^ (varlen_size n - 1) - 1))

-- the content after the shortest encoding of its length
abbrev pub varlen_string_bytes : List ℕ → List ℕ
varlen_string_bytes content = varlen_bytes (length content) ++ content
