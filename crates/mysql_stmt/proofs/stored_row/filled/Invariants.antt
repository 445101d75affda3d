use Rattle.std.proofs.Common.{◌≤◌, vec_capacity}
use Rattle.mysql_stmt.proofs.FilledBlocks.{Filling}
use Rattle.mysql_stmt.proofs.stored_row.filled.Given as goal

abbrev pub invariant-values : goal.invariant-values
invariant-values g l = record {
  filling : Filling (g.V.RowView.remains l.fn.view) (g.V.RowView.remains l.view) l.block.items;
  capacity : vec_capacity l.fn.block ≤ vec_capacity l.block;
}

abbrev pub decreases-values : goal.decreases-values
decreases-values g l = (g.V.RowView.remains l.view).left
