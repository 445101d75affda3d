-- The bytes of a request to which rows are written one after another.
use Rattle.std.proofs.Common.{◌≡◌, ◌≢◌, ℕ, List, [], ◌∷◌, ◌++◌, length, refl, sym, ◌∙◌, ap, append_assoc}
use Rattle.std.proofs.lemmas.Grind.{flat_map-append}
use Rattle.std.proofs.lemmas.List.{append-nil, nil_from_length}
use Rattle.std.specs.List.{flat_map}

module _ {R : Type 0} where
  -- no row is waiting exactly if none was counted
  pub none_counted : {n : ℕ} (rows : List R) → n ≡ length rows → n ≡ 0 → rows ≡ []
  none_counted rows count e = nil_from_length rows (sym count ∙ e)

  pub some_counted : {n : ℕ} (rows : List R) → n ≡ length rows → n ≢ 0 → rows ≢ []
  some_counted rows count n e = n (count ∙ ap length e)

  module _ (head : List ℕ) (bytes : R → List ℕ) where
    -- nothing before the first row
    abbrev pub written : List R → List ℕ
    written [] = []
    written (row ∷ rows) = head ++ flat_map bytes (row ∷ rows)

    pub first_written : (rows : List R) (row : R) (b : List ℕ) → rows ≡ [] → b ≡ written rows → written (rows ++ row ∷ []) ≡ (b ++ head) ++ bytes row
    first_written [] row b e is = rw is (ap (λ (l : List ℕ). head ++ l) (append-nil (bytes row)))
    first_written (r ∷ rows) row b e is = cc

    pub further_written : (rows : List R) (row : R) (b : List ℕ) → rows ≢ [] → b ≡ written rows → written (rows ++ row ∷ []) ≡ b ++ bytes row
    further_written [] row b some is = absurd (some refl)
    further_written (r ∷ rows) row b some is =
        ap (λ (l : List ℕ). head ++ l) (flat_map-append bytes (r ∷ rows) (row ∷ []) ∙ ap (λ (l : List ℕ). flat_map bytes (r ∷ rows) ++ l) (append-nil (bytes row)))
        ∙ sym (append_assoc head (flat_map bytes (r ∷ rows)) (bytes row)) ∙ ap (λ (l : List ℕ). l ++ bytes row) (sym is)
