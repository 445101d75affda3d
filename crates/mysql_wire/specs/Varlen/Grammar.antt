-- Numbers of variable length: their encodings, and the result of reading them.
use Rattle.std.specs.Prelude.{◌≡◌, ℕ, zero, suc, ◌+◌, ◌-◌, ◌*◌, ◌/◌, ◌%◌, ◌^◌, ◌<◌, ◌⊎◌, List, [], ◌∷◌, Ok, Err, nat_lt, ◌==◌, if◌then◌else◌}
use Rattle.mysql_wire.specs.declared.fault.FaultKind.TheVariants as kind
use Rattle.mysql_wire.specs.Reading.{Reading, then_read}
use Rattle.mysql_wire.specs.Form.{number}

-- in k + 1 bytes, the number above a zero and k ones; or the byte ff, and the number in eight bytes
abbrev pub varlen_Spells : ℕ → List ℕ → List ℕ → Type 0
varlen_Spells n bytes rest =
    ((k : ℕ) × (k < 8) × (number (suc k)).Spells (n * 2 ^ suc k + (2 ^ k - 1)) bytes rest)
    ⊎ ((mid : List ℕ) × (bytes ≡ 255 ∷ mid) × (number 8).Spells n mid rest)

-- the number of low bits that are ones, at most this many
abbrev pub low_ones : ℕ → ℕ → ℕ
low_ones zero n = 0
low_ones (suc most) n = if n % 2 == 0 then 0 else suc (low_ones most (n / 2))

-- a number in k + 1 bytes, without its k + 1 low bits
abbrev pub above_ones : ℕ → List ℕ → Reading ℕ
above_ones k bytes = then_read ((number (suc k)).reads bytes) (λ n rest. Ok (n / 2 ^ suc k, rest))

-- the low ones of the first byte are the number of bytes that follow
abbrev pub varlen_reads : List ℕ → Reading ℕ
varlen_reads [] = Err kind.UnexpectedEof
varlen_reads (first ∷ more) =
    if first == 255 then (number 8).reads more
    else if nat_lt (low_ones 8 first) 8 then above_ones (low_ones 8 first) (first ∷ more)
    else Err kind.InvalidData
