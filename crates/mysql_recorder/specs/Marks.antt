-- Marks for bytes that a capture lacks.
use Rattle.std.specs.Prelude.{◌≡◌, ℕ, zero, suc, ◌+◌, ◌-◌, ◌*◌, ◌<◌, ◌≤◌, List, [], ◌∷◌, ◌++◌, drop, length, codes, slice_index}

abbrev pub IsDecimalDigit : ℕ → Type 0
IsDecimalDigit c = (48 ≤ c) × (c ≤ 57)

-- a number of digits at the front of a text
abbrev pub BeginsWithDigits : ℕ → List ℕ → Type 0
BeginsWithDigits n text = (k : ℕ) → k < n → IsDecimalDigit (slice_index text k)

-- their number
abbrev pub number_at : ℕ → List ℕ → ℕ
number_at zero text = 0
number_at (suc n) text = number_at n text * 10 + (slice_index text n - 48)

-- no digit follows
abbrev pub EndsDigits : ℕ → List ℕ → Type 0
EndsDigits n text = n < length text → IsDecimalDigit (slice_index text n) → ⊥

-- what follows the number
abbrev pub mark_end : List ℕ
mark_end = codes " bytes missing in capture file]" ++ 0 ∷ []

-- [, a number of 1 to 19 digits, and what follows it
abbrev pub IsMarkOf : List ℕ → ℕ → Type 0
IsMarkOf bytes count = (text : List ℕ) × (n : ℕ) × (bytes ≡ 91 ∷ text) × (1 ≤ n) × (n ≤ 19) × BeginsWithDigits n text × (drop n text ≡ mark_end) × (count ≡ number_at n text)

-- of some number
abbrev pub IsMark : List ℕ → Type 0
IsMark bytes = (count : ℕ) × IsMarkOf bytes count
