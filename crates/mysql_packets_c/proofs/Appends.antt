-- Bytes that are appended piece by piece.
use Rattle.std.proofs.Common.{◌≡◌, ◌≤◌, ◌+◌, ◌++◌, ℕ, List, [], length, drop, sym, ap, subst, ◌∙◌, arith, append_assoc, length-append}
use Rattle.std.proofs.lemmas.List.{append-nil, drop-drop}
use Rattle.mysql_packets_c.specs.Appends.{Appends}

pub as-bytes : {B K : Type 0} {held following : B → List ℕ} {capacity_of : B → ℕ} {same : B → K} {first second : List ℕ} {old new : B} → first ≡ second
    → Appends held following capacity_of same first old new → Appends held following capacity_of same second old new
as-bytes {held = held} {following = following} {capacity_of = capacity_of} {same = same} {old = old} {new = new} is = subst (λ (l : List ℕ). Appends held following capacity_of same l old new) is

-- bytes, and then more of them
pub both-appended : {B K : Type 0} {held following : B → List ℕ} {capacity_of : B → ℕ} {same : B → K} {first second : List ℕ} {old now new : B} → Appends held following capacity_of same first old now
    → Appends held following capacity_of same second now new → Appends held following capacity_of same (first ++ second) old new
both-appended {held = held} {following = following} {first = first} {second = second} {old = old} before more =
    let long : length first + length second ≡ length (first ++ second) = omega (arith, length-append first second) in
    record {
      items = more.items ∙ ap (λ (l : List ℕ). l ++ second) before.items ∙ append_assoc (held old) first second;
      after = more.after ∙ ap (drop (length second)) before.after ∙ drop-drop (length second) (length first) (following old) ∙ ap (λ (n : ℕ). drop n (following old)) long;
      capacity = omega (arith, before.capacity, more.capacity);
      kept = more.kept ∙ before.kept;
    }

-- of the whole, these bytes are left to write
pub record IsLeft {B K : Type 0} (held following : B → List ℕ) (capacity_of : B → ℕ) (same : B → K) (whole left : List ℕ) (old now : B) : Type 0 where
  pub items : held now ++ left ≡ held old ++ whole
  pub after : drop (length left) (following now) ≡ drop (length whole) (following old)
  pub capacity : capacity_of old ≤ capacity_of now
  pub kept : same now ≡ same old

-- there is capacity for the next piece
pub piece-fits : {B K : Type 0} {held following : B → List ℕ} {capacity_of : B → ℕ} {same : B → K} {whole left : List ℕ} {old now : B} (piece rest : List ℕ)
    → IsLeft held following capacity_of same whole left old now → left ≡ piece ++ rest → length (held old) + length whole ≤ capacity_of old → length (held now) + length piece ≤ capacity_of now
piece-fits {held = held} {whole = whole} {left = left} {old = old} {now = now} piece rest so_far parts enough =
    omega (arith, ap length so_far.items, ap length parts, length-append (held now) left, length-append piece rest, length-append (held old) whole, so_far.capacity, enough)

-- once it is written, the rest is left
pub one-written : {B K : Type 0} {held following : B → List ℕ} {capacity_of : B → ℕ} {same : B → K} {whole left piece rest : List ℕ} {old now new : B} → IsLeft held following capacity_of same whole left old now
    → left ≡ piece ++ rest → Appends held following capacity_of same piece now new → IsLeft held following capacity_of same whole rest old new
one-written {held = held} {following = following} {left = left} {piece = piece} {rest = rest} {now = now} so_far parts more =
    let long : length piece + length rest ≡ length left = omega (arith, ap length parts, length-append piece rest) in
    record {
      items = ap (λ (l : List ℕ). l ++ rest) more.items ∙ append_assoc (held now) piece rest ∙ ap (λ (l : List ℕ). held now ++ l) (sym parts) ∙ so_far.items;
      after = ap (drop (length rest)) more.after ∙ drop-drop (length rest) (length piece) (following now) ∙ ap (λ (n : ℕ). drop n (following now)) long ∙ so_far.after;
      capacity = omega (arith, so_far.capacity, more.capacity);
      kept = more.kept ∙ so_far.kept;
    }

pub same-left : {B K : Type 0} {held following : B → List ℕ} {capacity_of : B → ℕ} {same : B → K} {whole left rest : List ℕ} {old now : B} → IsLeft held following capacity_of same whole left old now
    → left ≡ rest → IsLeft held following capacity_of same whole rest old now
same-left {held = held} {following = following} {capacity_of = capacity_of} {same = same} {whole = whole} {old = old} {now = now} so_far is = subst (λ (l : List ℕ). IsLeft held following capacity_of same whole l old now) is so_far

-- once none is left, the whole is written
pub all-written : {B K : Type 0} {held following : B → List ℕ} {capacity_of : B → ℕ} {same : B → K} {whole left : List ℕ} {old now : B} → IsLeft held following capacity_of same whole left old now
    → left ≡ [] → Appends held following capacity_of same whole old now
all-written {held = held} {following = following} {now = now} so_far none = record {
  items = sym (append-nil (held now)) ∙ ap (λ (l : List ℕ). held now ++ l) (sym none) ∙ so_far.items;
  after = ap (λ (l : List ℕ). drop (length l) (following now)) (sym none) ∙ so_far.after;
  capacity = so_far.capacity;
  kept = so_far.kept;
}
