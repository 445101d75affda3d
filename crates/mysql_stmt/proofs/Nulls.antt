-- A bitmap of NULLs, filled value by value after other bits.
use Rattle.std.specs.List.{All}
use Rattle.std.proofs.Common.{◌≡◌, ◌≢◌, inl, inr, ◌+◌, ◌<◌, ℕ, zero, suc, List, [], ◌∷◌, ◌++◌, length, map, take, replicate, get_or, append_assoc, refl, sym, ◌∙◌, ap, arith}
use Rattle.std.specs.Int.{bit_at}
use Rattle.std.proofs.lemmas.Nat.Bits.{bit_at-zero}
use Rattle.std.proofs.lemmas.Bool.Decides.{eqb_tells}
use Rattle.std.proofs.lemmas.List.Elements.{All-head, All-tail}
use Rattle.std.proofs.lemmas.List.{take_more, length-take-le, length-append, length-map, map-append}
use Rattle.mysql_wire.specs.Form.{le_value}
use Rattle.mysql_stmt.specs.Bitmap.{cell}

value-zeros : (n : ℕ) → le_value (replicate n 0) ≡ 0
value-zeros zero = refl
value-zeros (suc n) = omega (arith, value-zeros n)

-- a new bitmap has no bit set
pub cell-zeros : (n k : ℕ) → cell (replicate n 0) k ≡ 0
cell-zeros n k = ap (λ (m : ℕ). bit_at m k) (value-zeros n) ∙ bit_at-zero k

value-clear : (bytes : List ℕ) → All (λ b. b ≡ 0) bytes → le_value bytes ≡ 0
value-clear [] h = refl
value-clear (b ∷ bytes) h =
    omega (arith, All-head (λ b. b ≡ 0) b bytes h, value-clear bytes (All-tail (λ b. b ≡ 0) b bytes h))

-- bytes of zeros have no bit set
pub cell-clear : (bytes : List ℕ) → All (λ b. b ≡ 0) bytes → (k : ℕ) → cell bytes k ≡ 0
cell-clear bytes h k = ap (λ (m : ℕ). bit_at m k) (value-clear bytes h) ∙ bit_at-zero k

-- the bits of a list, and one more

bit-pushed : (bits : List ℕ) (b : ℕ) → get_or (bits ++ b ∷ []) (length bits) 0 ≡ b
bit-pushed [] b = refl
bit-pushed (first ∷ bits) b = bit-pushed bits b

bit-other : (bits : List ℕ) (b k : ℕ) → k ≢ length bits → get_or (bits ++ b ∷ []) k 0 ≡ get_or bits k 0
bit-other [] b zero other = absurd (other refl)
bit-other [] b (suc k) other = refl
bit-other (first ∷ bits) b zero other = refl
bit-other (first ∷ bits) b (suc k) other = bit-other bits b k (λ e. other (ap suc e))

bit-past : (bits : List ℕ) → get_or bits (length bits) 0 ≡ 0
bit-past [] = refl
bit-past (first ∷ bits) = bit-past bits

-- bits of zeros are clear
pub bit-zeros : (n k : ℕ) → get_or (replicate {A = ℕ} n 0) k 0 ≡ 0
bit-zeros zero k = refl
bit-zeros (suc n) zero = refl
bit-zeros (suc n) (suc k) = bit-zeros n k

marked_at : (front : List ℕ) (b : ℕ) (old new : List ℕ)
    → ((k : ℕ) → cell old k ≡ get_or front k 0)
    → cell new (length front) ≡ b
    → ((k : ℕ) → k ≢ length front → cell new k ≡ cell old k)
    → (k : ℕ) → cell new k ≡ get_or (front ++ b ∷ []) k 0
marked_at front b old new so_far this others k =
    elim (eqb_tells k (length front)) [
      | inl same ↦ rw (same.1) (this ∙ sym (bit-pushed front b))
      | inr other ↦ others k other.1 ∙ so_far k ∙ sym (bit-other front b k other.1)
    ]

-- the bits of items, after others
module _ {A : Type 0} (bit : A → ℕ) (front : List ℕ) (items : List A) (i : ℕ) (item : A) where
  abbrev so_far : List ℕ
  so_far = front ++ map bit (take i items)

  long : i < length items → length so_far ≡ length front + i
  long within =
      omega (arith, length-append front (map bit (take i items)), length-map (take i items) bit, length-take-le i items (omega (arith, within)))

  one_more : i < length items → item ≡ get_or items i item → front ++ map bit (take (i + 1) items) ≡ so_far ++ bit item ∷ []
  one_more within is =
      let next : take (i + 1) items ≡ take i items ++ item ∷ [] = take_more items i item within ∙ ap (λ (x : A). take i items ++ x ∷ []) (sym is) in
      ap (λ (l : List A). front ++ map bit l) next
      ∙ ap (λ (l : List ℕ). front ++ l) (map-append bit (take i items) (item ∷ []))
      ∙ sym (append_assoc front (map bit (take i items)) (bit item ∷ []))

  -- the next bit is that of the next item
  pub next_marked : (old new : List ℕ)
      → i < length items
      → item ≡ get_or items i item
      → ((k : ℕ) → cell old k ≡ get_or so_far k 0)
      → cell new (length front + i) ≡ bit item
      → ((k : ℕ) → k ≢ length front + i → cell new k ≡ cell old k)
      → (k : ℕ) → cell new k ≡ get_or (front ++ map bit (take (i + 1) items)) k 0
  next_marked old new within is cells this others k =
      marked_at so_far (bit item) old new cells (ap (cell new) (long within) ∙ this) (λ k other. others k (λ e. other (e ∙ sym (long within)))) k
      ∙ ap (λ (l : List ℕ). get_or l k 0) (sym (one_more within is))

  -- an item that isn't NULL leaves its bit clear
  pub next_unmarked : (bytes : List ℕ)
      → i < length items
      → item ≡ get_or items i item
      → ((k : ℕ) → cell bytes k ≡ get_or so_far k 0)
      → bit item ≡ 0
      → (k : ℕ) → cell bytes k ≡ get_or (front ++ map bit (take (i + 1) items)) k 0
  next_unmarked bytes within is cells not k =
      marked_at so_far (bit item) bytes bytes cells (cells (length so_far) ∙ bit-past so_far ∙ sym not) (λ k other. refl) k
      ∙ ap (λ (l : List ℕ). get_or l k 0) (sym (one_more within is))
