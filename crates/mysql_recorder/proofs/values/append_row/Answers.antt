use Rattle.std.proofs.Common.{◌≡◌, ◌∷◌, ap, sym, ◌∙◌}
use Rattle.mysql_values.specs.ValueRef.{ref_content}
use Rattle.mysql_recorder.specs.ValueFields.{row_fields, value_said}
use Rattle.mysql_recorder.proofs.ValuesShown.{appended_one, row_step}
use Rattle.mysql_recorder.proofs.values.append_row.Goals as goal

pub values-preserved : goal.values-preserved
values-preserved g c =
    let is : value_said (ref_content c.in-Ok-Some.value) ≡ c.value.result = ap (λ v. value_said (ref_content v)) (sym c.in-Ok-Some.value-is) ∙ sym c.value.ensures.value in record {
      shown = appended_one c.args.fields.now.items c.values.fields.items c.push.new.self.items c.value.result (row_fields c.values.row) (row_fields c.next_value.new.self) (row_fields c.args.row.now)
          c.in_ok-push-in-Ok-Some.ensures.items
          (row_step c.values.row (ref_content c.in-Ok-Some.value) c.next_value.new.self (rw c.in-Ok-Some.field-0-is at c.in-Ok-Some.ensures.value) ∙ ap (λ x. x ∷ row_fields c.next_value.new.self) is)
          c.values.invariant.shown;
    }
