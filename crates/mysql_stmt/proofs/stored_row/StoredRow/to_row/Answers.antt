use Rattle.std.proofs.Common.{◌≡◌, ◌+◌, ◌∙◌, ◌++◌, ◌∷◌, [], sym, ap, subst, List, Some, Option, arith}
use Rattle.std.specs.Prelude.{option_map, slice_get}
use Rattle.std.proofs.lemmas.List.{map_push}
use Rattle.mysql_values.specs.Cells.{held}
use Rattle.mysql_values.specs.Value.{Content, content_of}
use Rattle.mysql_values.specs.ValueRef.{ref_content}
use Rattle.mysql_values.specs.declared.value_ref.ValueRef.{ValueRef}
use Rattle.mysql_stmt.proofs.StoredRows.{cells-more}
use Rattle.mysql_stmt.proofs.stored_row.StoredRow.to_row.Goals as goal

pub loop-place-preserved : goal.loop-place-preserved
loop-place-preserved c =
    let k = c.loop-place.invariant in
    let found : slice_get c.args.self.now.values c.loop-place.place ≡ Some (ref_content c.unwrap-value.result) =
    sym (subst (λ (v : Option ValueRef). option_map ref_content v ≡ slice_get c.args.self.now.values c.loop-place.place) c.unwrap-value.ensures c.value.ensures.value) in
    record {
      held =
          ap held c.push_reserved.ensures.items ∙ map_push (option_map content_of) c.loop-place.cells.items (Some c.in_ok-to_owned.field-0)
          ∙ ap (λ (x : Content). held c.loop-place.cells.items ++ Some x ∷ []) c.in_ok-to_owned.ensures.value
          ∙ ap (λ (cells : List (Option Content)). cells ++ Some (ref_content c.unwrap-value.result) ∷ []) k.held
          ∙ sym (cells-more c.args.self.now.values c.loop-place.place (ref_content c.unwrap-value.result) found);
      len = c.push_reserved.ensures.len ∙ ap (λ n. n + 1) k.len;
      capacity = omega (arith, k.capacity, c.push_reserved.ensures.capacity);
    }
