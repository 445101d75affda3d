-- One more byte of a line.
use Rattle.std.proofs.Common.{zero, suc, length, take, get_or, ◌<◌, Result, Ok, Err, OnOk, ◌≡◌, inl, inr, ℕ, ◌+◌, ◌*◌, ◌≤◌, List, [], ◌∷◌, ◌++◌, refl, sym, ap, ◌∙◌, subst, append_assoc, append-nil, ◌%◌, Option, Some, None, IfSome, arith}
use Rattle.mysql_conversation.specs.declared.packet_kind.Side.{Side}
use Rattle.mysql_conversation.specs.declared.packet_kind.Side.TheVariants.{Client}
use Rattle.mysql_recorder.specs.Lines.{Heard, heard, IsLowerDigit, IsDigit, IsSpace, Spells, nothing, space, byte, IsSign, SaysBytes, IsHalf, Stands, Passes, next_place, place_from}
use Rattle.mysql_recorder.specs.Refusals.{IfLine}
use Rattle.mysql_recorder.specs.declared.error.RecordingError.{RecordingError}
use Rattle.mysql_recorder.specs.declared.error.RecordingError.TheVariants as error
use Rattle.mysql_recorder.specs.declared.line.Place.{Place}
use Rattle.mysql_recorder.specs.declared.line.Place.TheVariants as place

pub heard-append : (side : Side) (a b : List ℕ) → heard side (a ++ b) ≡ heard side a ++ heard side b
heard-append side [] b = refl
heard-append side (x ∷ a) b = ap (λ xs. record { from = side; byte = x } ∷ xs) (heard-append side a b)

pub spells_more : {a x : List ℕ} (b y : List ℕ) → Spells a x → Spells b y → Spells (a ++ b) (x ++ y)
spells_more b y nothing h = h
spells_more b y (space c s r) h = space c s (spells_more b y r h)
spells_more b y (byte c d high low p q r) h = byte c d high low p q (spells_more b y r h)

-- a line with more text after it
pub says_more : (side : Side) (line bytes text more : List ℕ) → SaysBytes side line bytes → Spells text more → SaysBytes side (line ++ text) (bytes ++ more)
says_more side line bytes text more (inl h) s =
    inl (h.0, h.1 ++ text, ap (λ xs. xs ++ text) h.2, h.3, spells_more text more h.4 s)
says_more side line bytes text more (inr h) s =
    inr (h.0, (h.1.0, h.1.1, h.1.2, h.1.3, h.1.4 ++ text, h.1.5 ++ more, ap (λ xs. xs ++ text) h.1.6, h.1.7, h.1.8, spells_more text more h.1.9 s, ap (λ xs. xs ++ more) h.1.10))

pub says_space : (side : Side) (line bytes : List ℕ) (c : ℕ) → SaysBytes side line bytes → IsSpace c → SaysBytes side (line ++ c ∷ []) bytes
says_space side line bytes c h s =
    subst (λ xs. SaysBytes side (line ++ c ∷ []) xs) (append-nil bytes) (says_more side line bytes (c ∷ []) [] h (space c s nothing))

pub stands_space : (side : Side) (line : List ℕ) (before : List Heard) (c : ℕ) → Stands (place.Between side) line before → IsSpace c → Stands (place.Between side) (line ++ c ∷ []) before
stands_space side line before c h s = (h.0, says_space side line h.0 c h.1 s, h.2)

pub stands_half : (side : Side) (line : List ℕ) (before : List Heard) (c high : ℕ) → Stands (place.Between side) line before → IsDigit c high → high ≤ 15
    → Stands (place.Half side high) (line ++ c ∷ []) before
stands_half side line before c high h d small = (h.0, (line, c, refl, small, inl (h.1, d)), h.2)

half_says : (side : Side) (line bytes : List ℕ) (high d low : ℕ) → IsHalf side high line bytes → IsDigit d low → SaysBytes side (line ++ d ∷ []) (bytes ++ (16 * high + low) ∷ [])
half_says side line bytes high d low (front, c, line_is, small, inl k) q =
    let whole : line ++ d ∷ [] ≡ front ++ c ∷ d ∷ [] = ap (λ xs. xs ++ d ∷ []) line_is ∙ append_assoc front (c ∷ []) (d ∷ []) in
    subst (λ xs. SaysBytes side xs (bytes ++ (16 * high + low) ∷ [])) (sym whole)
    (says_more side front bytes (c ∷ d ∷ []) ((16 * high + low) ∷ []) k.0 (byte c d high low k.1 q nothing))
half_says side line bytes high d low (front, c, line_is, small, inr k) q =
    inr (k.1, (c, d, high, low, [], [], ap (λ xs. xs ++ d ∷ []) line_is ∙ ap (λ xs. (xs ++ c ∷ []) ++ d ∷ []) k.0, k.3, q, nothing, ap (λ xs. xs ++ (16 * high + low) ∷ []) k.2))

pub stands_byte : (side : Side) (line : List ℕ) (before : List Heard) (high d low : ℕ) → Stands (place.Half side high) line before → IsDigit d low
    → Stands (place.Between side) (line ++ d ∷ []) (before ++ record { from = side; byte = 16 * high + low } ∷ [])
stands_byte side line before high d low h q = (
  h.0 ++ (16 * high + low) ∷ [],
  half_says side line h.0 high d low h.1 q,
  ap (λ xs. xs ++ record { from = side; byte = 16 * high + low } ∷ []) h.2 ∙ sym (heard-append side h.0 ((16 * high + low) ∷ [])),
)

pub half_small : (side : Side) (line : List ℕ) (before : List Heard) (high : ℕ) → Stands (place.Half side high) line before → high ≤ 15
half_small side line before high h = h.1.3

-- a digit in lower case is a digit
pub lower_is_digit : (c : ℕ) (found : Option ℕ) → IfSome found (λ value. IsLowerDigit c value × (value ≤ 15)) → IfSome found (λ value. IsDigit c value × (value ≤ 15))
lower_is_digit c None h = h
lower_is_digit c (Some value) h = (inl h.0, h.1)

-- the first byte of a line
pub begins_signed : (side : Side) (c : ℕ) (line : List ℕ) (before : List Heard) → IsSign side c → Stands place.Start line before → Passes None c line before (place.Between side)
begins_signed side c line before s h = inl ([], inl (c, [], ap (λ xs. xs ++ c ∷ []) h.0, s, nothing), h.1)

pub begins_bare : (c high : ℕ) (line : List ℕ) (before : List Heard) → IsLowerDigit c high → high ≤ 15 → Stands place.Start line before → Passes None c line before (place.Half Client high)
begins_bare c high line before d small h = inl ([], (line, c, refl, small, inr (h.0, refl, refl, d)), h.1)

pub stands_value : (side : Side) (line : List ℕ) (before : List Heard) (high d low : ℕ) → Stands (place.Half side high) line before → IsDigit d low → low ≤ 15
    → Stands (place.Between side) (line ++ d ∷ []) (before ++ record { from = side; byte = (high * 16 % 256 + low) % 256 } ∷ [])
stands_value side line before high d low h q small =
    let high_small : high ≤ 15 = half_small side line before high h in
    let value : (high * 16 % 256 + low) % 256 ≡ 16 * high + low = omega arith in
    subst (λ v. Stands (place.Between side) (line ++ d ∷ []) (before ++ record { from = side; byte = v } ∷ [])) (sym value) (stands_byte side line before high d low h q)

-- ---- places

-- one more byte of an input
pub place_more : (o : Option Place) (input : List ℕ) (i : ℕ) (mid new : Place) → i < length input → place_from o (take i input) ≡ Some mid → next_place mid (get_or input i 0) ≡ Some new
    → place_from o (take (i + 1) input) ≡ Some new
place_more None input i mid new less h e = absurd (let no : None ≡ Some mid = h in cc)
place_more (Some at) [] i mid new less h e = absurd (omega (arith, less))
place_more (Some at) (c ∷ input) zero mid new less h e = let same : at ≡ mid = cc h in ap (λ p. place_from p []) (subst (λ p. next_place p c ≡ Some new) (sym same) e)
place_more (Some at) (c ∷ input) (suc i) mid new less h e =
    let next : suc (i + 1) ≡ suc i + 1 = omega arith in
    subst (λ n. place_from (Some at) (take n (c ∷ input)) ≡ Some new) next (place_more (next_place at c) input i mid new (omega (arith, less)) h e)

-- there the byte is in no line
pub place_stops : (o : Option Place) (input : List ℕ) (i : ℕ) (mid : Place) → i < length input → place_from o (take i input) ≡ Some mid → next_place mid (get_or input i 0) ≡ None → place_from o input ≡ None
place_stops None input i mid less h e = refl
place_stops (Some at) [] i mid less h e = absurd (omega (arith, less))
place_stops (Some at) (c ∷ input) zero mid less h e = let same : at ≡ mid = cc h in ap (λ p. place_from p input) (subst (λ p. next_place p c ≡ None) (sym same) e)
place_stops (Some at) (c ∷ input) (suc i) mid less h e = place_stops (next_place at c) input i mid (omega (arith, less)) h e

pub if_line : (e : RecordingError) (P Q : Type 0) → (P → Q) → IfLine e P → IfLine e Q
if_line error.Line P Q f h = f h
if_line _ _ _ f h = tt

pub on_ok_of : {E : Type 0} (r : Result (Unit {0}) E) (P : Type 0) → P → OnOk r P
on_ok_of (Ok u) P h = h
on_ok_of (Err e) P h = tt
