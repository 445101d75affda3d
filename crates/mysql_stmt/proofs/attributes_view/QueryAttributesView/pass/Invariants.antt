use Rattle.std.proofs.Common.{◌≡◌, ◌+◌}
use Rattle.mysql_stmt.proofs.AttributeViews.{passed}
use Rattle.mysql_stmt.proofs.attributes_view.QueryAttributesView.pass.Given as goal

abbrev pub invariant-loop : goal.invariant-loop
invariant-loop l = record {
  passed : passed l.self.all ≡ passed l.view.all;
  left : l.view.left + l.counter ≡ l.self.left;
}
