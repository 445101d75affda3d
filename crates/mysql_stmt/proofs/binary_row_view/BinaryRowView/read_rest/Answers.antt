use Rattle.std.proofs.Common.{◌∷◌, ◌∙◌, arith}
use Rattle.std.proofs.lemmas.Grind.{common_steps}
use Rattle.mysql_stmt.proofs.RowViews.{rest_next}
use Rattle.mysql_stmt.proofs.binary_row_view.BinaryRowView.read_rest.Goals as goal

pub loop-self-preserved : goal.loop-self-preserved
loop-self-preserved g c =
    let k = c.loop-self.invariant in
    let row = c.args.self.now in
    let step = c.in_ok-put_next.ensures.value in
    record {
      count = omega (arith, k.count, step.0);
      good = grind (arith, common_steps);
      end = step.2 ∙ k.end;
      rest = rest_next (row.rest ∷ row.tails) c.loop-self.place c.loop-self.self.rest c.loop-self.self.tails k.rest ∙ step.3;
      others = grind (arith, common_steps);
      len = grind (arith, common_steps);
    }
