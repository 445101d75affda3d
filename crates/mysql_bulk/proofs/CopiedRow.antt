-- The values of a row are copied, and one copy is refused.
use Rattle.std.proofs.Common.{◌≡◌, ℕ, ◌+◌, ◌<◌, List, length, map, get_or, take, sym, ap, ◌∙◌, arith, inl, inr}
use Rattle.std.proofs.lemmas.List.{get_or-map, length-map}
use Rattle.std.proofs.lemmas.List.Folds.{list_any_at}
use Rattle.std.proofs.lemmas.List.Sums.{sum_by_more_le}
use Rattle.mysql_values.specs.Value.{Content, bin_size}
use Rattle.mysql_values.specs.ValueDeserializer.{has_bytes}
use Rattle.mysql_bulk.specs.Row.{RefusesValue, RefusesRow, values_size}
use Rattle.mysql_bulk.proofs.RequestBytes.{size_of_contents}

-- a row is refused for the reason of its refused value
pub row_refused : {V : Type 0} (content : V → Content) (row : List V) (i : ℕ) (value : V) (left most : ℕ) → i < length row → value ≡ get_or row i value
    → left + values_size content (take i row) ≡ most → RefusesValue left (content value) → RefusesRow most (map content row)
row_refused {V} content row i value left most within is total refused = elim refused [
  | inl long ↦
      let size : V → ℕ = λ v. 1 + bin_size (content v) in
      inl (omega (arith, long, total, sum_by_more_le size row i value within, ap size is, size_of_contents content row))
  | inr bytes ↦
      let at : get_or (map content row) i (content value) ≡ content value = get_or-map content row i value (content value) within ∙ ap content (sym is) in
      inr (list_any_at has_bytes (map content row) i (content value) (omega (arith, within, length-map row content)) (ap has_bytes at ∙ bytes))
]
