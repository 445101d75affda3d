-- The encodings of numbers of variable length, and the result of reading them, agree.
use Rattle.std.specs.Prelude.{◌≡◌, ℕ, zero, suc, ◌+◌, ◌-◌, ◌*◌, ◌/◌, ◌%◌, ◌^◌, ◌<◌, ◌⊎◌, List, [], ◌∷◌, Ok, Err, Bool, true, false, ◌==◌, refl}
use Rattle.std.proofs.Common.{sym, ap, subst, ◌∙◌, arith, inl, inr, get_or}
use Rattle.std.proofs.lemmas.Bool.{cases_lt, lt-ltb, le-ltb, eq-eqb, ne_eqb, eqb-true}
use Rattle.std.proofs.lemmas.Nat.{pow_pos, div-add-mod', div-mul-add, mod-mul-add}
use Rattle.std.proofs.Math.Arith.{mod-mul}
use Rattle.std.proofs.Math.Nat.{pow-suc}
use Rattle.mysql_wire.specs.declared.fault.FaultKind.TheVariants as kind
use Rattle.mysql_wire.specs.Reading.{Reading, IsTail, then_read-ok, done-value, done-rest, done-both}
use Rattle.mysql_wire.specs.Form.{number, le_value, bytes}
use Rattle.mysql_wire.specs.Varlen.Grammar.{varlen_Spells, low_ones, above_ones, varlen_reads}

-- ---- the low ones of a number

split_low : (n k : ℕ) → n % 2 ^ suc (suc k) ≡ n % 2 + 2 * (n / 2 % 2 ^ suc k)
split_low n k =
    let both : n % (2 ^ suc k * 2) ≡ (n / 2 % 2 ^ suc k) * 2 + n % 2 = mod-mul n (pow_pos (suc k)) (omega arith) in
    rw (pow-suc 2 (suc k), both) (omega arith)

ones-found : (most n : ℕ) → low_ones most n < most → n % 2 ^ suc (low_ones most n) + 1 ≡ 2 ^ low_ones most n
ones-found zero n lt = absurd (omega (arith, lt))
ones-found (suc most) n lt =
    elim (cases_lt (n % 2) 1) [
      | inl even ↦ let e : n % 2 ≡ 0 = omega (arith, even) in rw (eq-eqb (n % 2) 0 e) (omega (arith, e))
      | inr odd ↦
          let ne : n % 2 ≡ 0 → ⊥ = λ e. omega (arith, odd, e) in
          let fewer : low_ones most (n / 2) < most = let h = rw (ne_eqb (n % 2) 0 ne) at lt in omega (arith, h) in
          let h = ones-found most (n / 2) fewer in
          let s = split_low n (low_ones most (n / 2)) in
          let p = pow-suc 2 (low_ones most (n / 2)) in
          rw (ne_eqb (n % 2) 0 ne) (omega (arith, h, s, p, odd))
    ]

ones-only : (most k n : ℕ) → k < most → n % 2 ^ suc k + 1 ≡ 2 ^ k → low_ones most n ≡ k
ones-only zero k n lt e = absurd (omega (arith, lt))
ones-only (suc most) zero n lt e = rw (eq-eqb (n % 2) 0 (omega (arith, e))) refl
ones-only (suc most) (suc k) n lt e =
    let s = split_low n k in
    let p = pow-suc 2 k in
    let odd : n % 2 ≡ 0 → ⊥ = λ z. omega (arith, e, s, p, z) in
    let half : n / 2 % 2 ^ suc k + 1 ≡ 2 ^ k = omega (arith, e, s, p) in
    rw (ne_eqb (n % 2) 0 odd, ones-only most k (n / 2) (omega (arith, lt)) half) refl

-- ---- the first byte of a number of some bytes

low_bits : (k first x : ℕ) → k < 8 → (first + 256 * x) % 2 ^ suc k ≡ first % 2 ^ suc k
low_bits zero first x lt = omega arith
low_bits (suc zero) first x lt = omega arith
low_bits (suc (suc zero)) first x lt = omega arith
low_bits (suc (suc (suc zero))) first x lt = omega arith
low_bits (suc (suc (suc (suc zero)))) first x lt = omega arith
low_bits (suc (suc (suc (suc (suc zero))))) first x lt = omega arith
low_bits (suc (suc (suc (suc (suc (suc zero)))))) first x lt = omega arith
low_bits (suc (suc (suc (suc (suc (suc (suc zero))))))) first x lt = omega arith
low_bits (suc (suc (suc (suc (suc (suc (suc (suc k)))))))) first x lt = absurd (omega (arith, lt))

begins : (v first width : ℕ) (more rest : List ℕ) → (number (suc width)).Spells v (first ∷ more) rest → (x : ℕ) × (v ≡ first + 256 * x)
unfolding number bytes
begins v first width more rest ([], value, (len, split)) = absurd (omega (arith, len))
begins v first width more rest (b ∷ c, value, (len, split)) =
    let e : first ≡ b = ap (λ (bytes : List ℕ). get_or bytes 0 0) split in
    (le_value c, rw e (sym value))

some_bytes : (v width : ℕ) (rest : List ℕ) → (number (suc width)).Spells v [] rest → ⊥
unfolding number bytes
some_bytes v width rest ([], value, (len, split)) = omega (arith, len)
some_bytes v width rest (b ∷ c, value, (len, split)) = absurd cc

-- the low bits of a number of k + 1 bytes are those of its first byte
first_tells : (v k first : ℕ) (more rest : List ℕ) → k < 8 → (number (suc k)).Spells v (first ∷ more) rest → v % 2 ^ suc k ≡ first % 2 ^ suc k
first_tells v k first more rest lt s =
    let x = begins v first k more rest s in
    rw x.1 (low_bits k first x.0 lt)

-- ff has too many ones
not_ff : (k first : ℕ) → k < 8 → first % 2 ^ suc k + 1 ≡ 2 ^ k → first ≡ 255 → ⊥
not_ff k first lt e z = let h : 8 ≡ k = ap (low_ones 8) (sym z) ∙ ones-only 8 k first lt e in omega (arith, h, lt)

which : (b : Bool) → (b ≡ true) ⊎ (b ≡ false)
which true = inl refl
which false = inr refl

-- a number above a zero and k ones
parts : (v k n : ℕ) → v % 2 ^ suc k + 1 ≡ 2 ^ k → v / 2 ^ suc k ≡ n → v ≡ n * 2 ^ suc k + (2 ^ k - 1)
parts v k n low high = let whole = div-add-mod' v (2 ^ suc k) in rw (← high) (omega (arith, whole, low))

parts-low : (k n : ℕ) → (n * 2 ^ suc k + (2 ^ k - 1)) % 2 ^ suc k + 1 ≡ 2 ^ k
parts-low k n =
    let pos = pow_pos k in
    let p = pow-suc 2 k in
    rw (mod-mul-add n (2 ^ suc k) (2 ^ k - 1) (omega (arith, pos, p))) (omega (arith, pos))

parts-high : (k n : ℕ) → (n * 2 ^ suc k + (2 ^ k - 1)) / 2 ^ suc k ≡ n
parts-high k n =
    let pos = pow_pos k in
    let p = pow-suc 2 k in
    div-mul-add n (2 ^ suc k) (2 ^ k - 1) (omega (arith, pos, p))

above-found : (k n first : ℕ) (more rest : List ℕ) → k < 8 → first % 2 ^ suc k + 1 ≡ 2 ^ k → above_ones k (first ∷ more) ≡ Ok (n, rest)
    → (number (suc k)).Spells (n * 2 ^ suc k + (2 ^ k - 1)) (first ∷ more) rest
above-found k n first more rest lt low e =
    let a = then_read-ok ((number (suc k)).reads (first ∷ more)) (λ n rest. Ok (n / 2 ^ suc k, rest)) (n, rest) e in
    let read : (number (suc k)).reads (first ∷ more) ≡ Ok (a.0, rest) = a.2 ∙ done-both a.0 a.0 a.1 rest refl (done-rest (a.0 / 2 ^ suc k) n a.1 rest a.3) in
    let s = (number (suc k)).found a.0 (first ∷ more) rest read in
    let is : a.0 ≡ n * 2 ^ suc k + (2 ^ k - 1) = parts a.0 k n (ap (λ x. x + 1) (first_tells a.0 k first more rest lt s) ∙ low) (done-value (a.0 / 2 ^ suc k) n a.1 rest a.3) in
    subst (λ (v : ℕ). (number (suc k)).Spells v (first ∷ more) rest) is s

pub varlen-found : (n : ℕ) (bytes rest : List ℕ) → varlen_reads bytes ≡ Ok (n, rest) → varlen_Spells n bytes rest
varlen-found n [] rest e = absurd cc
varlen-found n (first ∷ more) rest e =
    elim (which (first == 255)) [
      | inl ff ↦
          let long : (number 8).reads more ≡ Ok (n, rest) = rw ff at e in
          inr (more, ap (λ b. b ∷ more) (eqb-true first 255 ff), (number 8).found n more rest long)
      | inr other ↦ elim (cases_lt (low_ones 8 first) 8) [
        | inl lt ↦
            let short : above_ones (low_ones 8 first) (first ∷ more) ≡ Ok (n, rest) = rw (other, lt-ltb _ _ lt) at e in
            inl (low_ones 8 first, lt, above-found (low_ones 8 first) n first more rest lt (ones-found 8 first lt) short)
        | inr le ↦
            let none : ◌≡◌ {A = Reading ℕ} (Err kind.InvalidData) (Ok (n, rest)) = rw (other, le-ltb _ _ le) at e in
            absurd cc
      ]
    ]

pub varlen-only : (n : ℕ) (bytes rest : List ℕ) → varlen_Spells n bytes rest → varlen_reads bytes ≡ Ok (n, rest)
varlen-only n bytes rest (inr s) = rw (s.1, (number 8).only n s.0 rest s.2) refl
varlen-only n [] rest (inl s) = absurd (some_bytes _ s.0 rest s.2)
varlen-only n (first ∷ more) rest (inl s) =
    let k = s.0 in
    let v = n * 2 ^ suc k + (2 ^ k - 1) in
    let low : first % 2 ^ suc k + 1 ≡ 2 ^ k = ap (λ x. x + 1) (sym (first_tells v k first more rest s.1 s.2)) ∙ parts-low k n in
    rw (ne_eqb first 255 (not_ff k first s.1 low), ones-only 8 k first s.1 low, lt-ltb k 8 s.1, (number (suc k)).only v (first ∷ more) rest s.2, parts-high k n) refl

Spells-front : (n : ℕ) (bytes rest : List ℕ) → varlen_Spells n bytes rest → IsTail rest bytes
Spells-front n bytes rest (inl s) = (number (suc s.0)).front _ bytes rest ((number (suc s.0)).only _ bytes rest s.2)
Spells-front n bytes rest (inr s) =
    let t = (number 8).front n s.0 rest ((number 8).only n s.0 rest s.2) in
    record { front = 255 ∷ t.front; parts = s.1 ∙ ap (λ (b : List ℕ). 255 ∷ b) t.parts }

pub varlen-front : (n : ℕ) (bytes rest : List ℕ) → varlen_reads bytes ≡ Ok (n, rest) → IsTail rest bytes
varlen-front n bytes rest e = Spells-front n bytes rest (varlen-found n bytes rest e)
