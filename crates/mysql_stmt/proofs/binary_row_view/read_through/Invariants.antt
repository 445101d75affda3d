use Rattle.std.proofs.Common.{◌≡◌}
use Rattle.mysql_stmt.proofs.binary_row_view.read_through.Given as goal

abbrev pub invariant-values : goal.invariant-values
invariant-values g l = l.row.end ≡ l.fn.row.end

abbrev pub decreases-values : goal.decreases-values
decreases-values g l = l.row.left
