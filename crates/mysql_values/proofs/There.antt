-- Reading with all bytes present, and with some missing.
use Rattle.std.proofs.Common.{◌≡◌, ℕ, ◌+◌, ◌*◌, ◌<◌, ◌≤◌, List, [], ◌∷◌, length, take, drop, slice_index, Ok, Err, refl, sym, ◌∙◌, arith, inl, inr}
use Rattle.std.specs.Int.{byte_worth, sum_through}
use Rattle.std.proofs.lemmas.Bool.{cases_lt, le-ltb, lt-ltb}
use Rattle.std.proofs.lemmas.List.{length-drop}
use Rattle.mysql_wire.specs.declared.fault.FaultKind.TheVariants as kind
use Rattle.mysql_wire.specs.Form.{bytes, number, le_value}
use Rattle.mysql_wire.specs.Int.{raw, byte, le_u32}
use Rattle.mysql_wire.specs.LittleEndian.{sum-value}
use Rattle.mysql_wire.proofs.There.{integer-there, byte-there}
use Rattle.mysql_values.specs.Temporal.{day, clock, date_only, date_and_clock, date_clock_and_micros, span_without_micros, span_with_micros}

one-byte : (b : ℕ) → le_value (b ∷ []) ≡ b
one-byte b = omega arith

-- a day with its four bytes present
pub day-there : (old : List ℕ) (year : ℕ) → 4 ≤ length old → year ≡ sum_through (λ i. byte_worth i (slice_index (take 4 old) i)) 1 → day.reads old ≡ Ok (record { year = year; month = slice_index (take 4 old) 2; day = slice_index (take 4 old) 3 }, drop 4 old)
unfolding day bytes number raw
day-there (a ∷ b ∷ c ∷ d ∷ rest) year there e =
    let value : year ≡ le_value (a ∷ b ∷ []) = e ∙ sum-value (a ∷ b ∷ []) 1 refl in
    let month : le_value (c ∷ []) ≡ c = one-byte c in
    let date : le_value (d ∷ []) ≡ d = one-byte d in
    rw (le-ltb _ _ there) cc
day-there _ year there e = absurd (omega arith)

-- a time of day with its three bytes present
pub clock-there : (old : List ℕ) → 3 ≤ length old → clock.reads old ≡ Ok (record { hour = slice_index (take 3 old) 0; minute = slice_index (take 3 old) 1; second = slice_index (take 3 old) 2 }, drop 3 old)
unfolding clock bytes number raw
clock-there (a ∷ b ∷ c ∷ rest) there =
    let hour : le_value (a ∷ []) ≡ a = one-byte a in
    let minute : le_value (b ∷ []) ≡ b = one-byte b in
    let second : le_value (c ∷ []) ≡ c = one-byte c in
    rw (le-ltb _ _ there) cc
clock-there _ there = absurd (omega arith)

pub ruleset there = (day-there, clock-there, integer-there, byte-there, length-drop)

-- ---- fewer bytes than a length requires

few_bytes : (old : List ℕ) → length old < 1 → byte.reads old ≡ Err kind.UnexpectedEof
unfolding raw number bytes
few_bytes old few = rw (lt-ltb _ _ few) refl

few_for_a_number : (old : List ℕ) → length old < 4 → le_u32.reads old ≡ Err kind.UnexpectedEof
unfolding raw number bytes
few_for_a_number old few = rw (lt-ltb _ _ few) refl

few_for_a_day : (old : List ℕ) → length old < 4 → day.reads old ≡ Err kind.UnexpectedEof
unfolding day bytes
few_for_a_day old few = rw (lt-ltb _ _ few) refl

few_for_a_clock : (old : List ℕ) → length old < 3 → clock.reads old ≡ Err kind.UnexpectedEof
unfolding clock bytes
few_for_a_clock old few = rw (lt-ltb _ _ few) refl

pub short-date_only : (old : List ℕ) → length old < 4 → date_only.reads old ≡ Err kind.UnexpectedEof
short-date_only old few = rw (few_for_a_day old few) refl

pub short-date_and_clock : (old : List ℕ) → length old < 7 → date_and_clock.reads old ≡ Err kind.UnexpectedEof
short-date_and_clock old few = elim (cases_lt (length old) 4) [
  | inl no_day ↦ rw (few_for_a_day old no_day) refl
  | inr there ↦ rw (day-there old _ there refl, few_for_a_clock (drop 4 old) (omega (arith, length-drop 4 old))) refl
]

pub short-date_clock_and_micros : (old : List ℕ) → length old < 11 → date_clock_and_micros.reads old ≡ Err kind.UnexpectedEof
short-date_clock_and_micros old few = elim (cases_lt (length old) 4) [
  | inl no_day ↦ rw (few_for_a_day old no_day) refl
  | inr there ↦ elim (cases_lt (length (drop 4 old)) 3) [
    | inl no_clock ↦ rw (day-there old _ there refl, few_for_a_clock (drop 4 old) no_clock) refl
    | inr then_there ↦ rw (day-there old _ there refl, clock-there (drop 4 old) then_there, few_for_a_number (drop 3 (drop 4 old)) (omega (arith, length-drop 4 old, length-drop 3 (drop 4 old)))) refl
  ]
]

short_after_sign : (old : List ℕ) → length old < 5 → 1 ≤ length old → le_u32.reads (drop 1 old) ≡ Err kind.UnexpectedEof
short_after_sign old few there = few_for_a_number (drop 1 old) (omega (arith, length-drop 1 old))

pub short-span_without_micros : (old : List ℕ) → length old < 8 → span_without_micros.reads old ≡ Err kind.UnexpectedEof
short-span_without_micros old few = elim (cases_lt (length old) 1) [
  | inl no_sign ↦ rw (few_bytes old no_sign) refl
  | inr there ↦ elim (cases_lt (length old) 5) [
    | inl no_days ↦ rw (byte-there old there, short_after_sign old no_days there) refl
    | inr then_there ↦ rw (byte-there old there, integer-there 3 (drop 1 old) _ (omega (arith, length-drop 1 old)) refl, few_for_a_clock (drop 4 (drop 1 old)) (omega (arith, length-drop 1 old, length-drop 4 (drop 1 old)))) refl
  ]
]

pub short-span_with_micros : (old : List ℕ) → length old < 12 → span_with_micros.reads old ≡ Err kind.UnexpectedEof
short-span_with_micros old few = elim (cases_lt (length old) 1) [
  | inl no_sign ↦ rw (few_bytes old no_sign) refl
  | inr there ↦ elim (cases_lt (length old) 5) [
    | inl no_days ↦ rw (byte-there old there, short_after_sign old no_days there) refl
    | inr then_there ↦ elim (cases_lt (length (drop 4 (drop 1 old))) 3) [
      | inl no_clock ↦ rw (byte-there old there, integer-there 3 (drop 1 old) _ (omega (arith, length-drop 1 old)) refl, few_for_a_clock (drop 4 (drop 1 old)) no_clock) refl
      | inr clock_there ↦ rw (byte-there old there, integer-there 3 (drop 1 old) _ (omega (arith, length-drop 1 old)) refl, clock-there (drop 4 (drop 1 old)) clock_there, few_for_a_number (drop 3 (drop 4 (drop 1 old))) (omega (arith, length-drop 1 old, length-drop 4 (drop 1 old), length-drop 3 (drop 4 (drop 1 old))))) refl
    ]
  ]
]

pub ruleset short = (short-date_only, short-date_and_clock, short-date_clock_and_micros, short-span_without_micros, short-span_with_micros)
