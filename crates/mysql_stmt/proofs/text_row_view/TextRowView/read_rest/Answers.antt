use Rattle.std.proofs.Common.{◌∷◌, ◌∙◌, arith}
use Rattle.std.proofs.lemmas.Grind.{common_steps}
use Rattle.mysql_values.specs.ValueRef.{ref_content}
use Rattle.mysql_stmt.specs.RowView.{Gives}
use Rattle.mysql_stmt.proofs.RowViews.{rest_next}
use Rattle.mysql_stmt.proofs.text_row_view.TextRowView.read_rest.Goals as goal

pub loop-value-preserved : goal.loop-value-preserved
loop-value-preserved c =
    let k = c.loop-value.invariant in
    let row = c.args.self.now in
    let step : Gives c.loop-value.self (ref_content c.in-Some.value) c.next_value.new.self = rw c.in-Some.is at c.in_ok-value.ensures.value in
    record {
      count = omega (arith, k.count, step.0);
      good = grind (arith, common_steps);
      end = step.2 ∙ k.end;
      rest = rest_next (row.rest ∷ row.tails) c.loop-value.place c.loop-value.self.rest c.loop-value.self.tails k.rest ∙ step.3;
      others = grind (arith, common_steps);
      len = grind (arith, common_steps);
    }
