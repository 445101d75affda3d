-- Loops over each number of intervals, and of sids.
use Rattle.std.proofs.Common.{◌≡◌, ◌⊎◌, inl, inr, ℕ, suc, ◌+◌, ◌<◌, ◌^◌, List, [], ◌∷◌, length, get_or, sym, subst, arith}
use Rattle.mysql_repl.specs.declared.gno_interval.GnoInterval.{GnoInterval}
use Rattle.mysql_repl.specs.declared.sid.Sid.{Sid}
use Rattle.mysql_repl.specs.GnoInterval.{start, end}
use Rattle.mysql_repl.specs.Sid.{AreIntervals, AreSids, IsSid}

abbrev pub IsInRange : GnoInterval → Type 0
IsInRange i = (start i < 2 ^ 64) × (end i < 2 ^ 64)

-- a property of each value before a place and of the value there
pub one-more : {A : Type 0} (P : A → Type 0) (list : List A) (n : ℕ) (x : A) → n < length list → ((d : A) → get_or list n d ≡ x) → P x
    → ((k : ℕ) (d : A) → k < n → P (get_or list k d)) → (k : ℕ) (d : A) → k < n + 1 → P (get_or list k d)
one-more P list n x below is here so_far k d lt =
    elim (before k n lt) [ inl less ↦ so_far k d less | inr same ↦ subst (λ (i : ℕ). P (get_or list i d)) (sym same) (subst P (sym (is d)) here) ]
  where
    before : (k n : ℕ) → k < n + 1 → (k < n) ⊎ (k ≡ n)
    before k n lt = grind arith

pub all-in-range : (is : List GnoInterval) → ((k : ℕ) (d : GnoInterval) → k < length is → IsInRange (get_or is k d)) → AreIntervals is
all-in-range [] h = tt
all-in-range (i ∷ is) h = let first = h 0 i (omega arith) in (first.0, first.1, all-in-range is (λ k d lt. h (suc k) d (omega (arith, lt))))

pub all-sids : (sids : List Sid) → ((k : ℕ) (d : Sid) → k < length sids → IsSid (get_or sids k d)) → AreSids sids
all-sids [] h = tt
all-sids (s ∷ sids) h = (h 0 s (omega arith), all-sids sids (λ k d lt. h (suc k) d (omega (arith, lt))))
