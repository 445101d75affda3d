-- A value converts if a copy of it was converted.
use Rattle.std.proofs.Common.{◌≡◌, ℕ, List, Option, Some, Result, Ok, Err, IfOk, IfErr, ap, ◌∙◌, sym, subst}
use Rattle.std.specs.Result.{result_ok}
use Rattle.mysql_values.specs.ByContent.{GoesByContent, IsConvertible}
use Rattle.mysql_values.specs.declared.from_value.FromValueError.{FromValueError}
use Rattle.mysql_values.specs.declared.value.Value.{Value}
use Rattle.mysql_values.specs.Value.{content_of}
use Rattle.mysql_stmt.specs.Row.{Answered, AnswersFound, CopyConvertsTo, FoundConverts, IsCopyAs, value_at}

module _ {X : Type 0} (Converts : Value → X → Type 0) (by_content : GoesByContent Converts) where
  pub copied-converts : (value : Value) (x : X) → CopyConvertsTo Converts value (Ok x) → IsConvertible Converts value
  copied-converts value x h = by_content h.0 value h.1 (x, h.2)

  -- if only one place can be found, the value there converts
  pub found-converts : (Finds : Option ℕ → Type 0) → ((p q : Option ℕ) → Finds p → Finds q → p ≡ q) → (cells : List (Option Value)) (x : X)
      → AnswersFound Finds cells (CopyConvertsTo Converts) (Some (Ok x)) → FoundConverts Finds cells Converts
  found-converts Finds one cells x h place value finds is =
      let same : value_at cells h.0 ≡ Some value = ap (value_at cells) (one h.0 place h.1 finds) ∙ is in
      copied-converts value x (subst (λ (found : Option Value). Answered (CopyConvertsTo Converts) found (Some (Ok x))) same h.2)

  -- converting a copy isn't refused if the value converts
  pub copy-made : (value copy : Value) → content_of copy ≡ content_of value → IsConvertible Converts value → (made : Result X FromValueError)
      → IfOk made (λ x. Converts copy x) → IfErr made (λ refusal. (refusal.0 ≡ copy) × ((x : X) → Converts copy x → ⊥)) → Answered (IsCopyAs Converts) (Some value) (result_ok made)
  copy-made value copy same converts (Ok x) ok err = (copy, same, ok)
  copy-made value copy same converts (Err refusal) ok err = let of : IsConvertible Converts copy = by_content value copy (sym same) converts in absurd (err.1 of.0 of.1)
