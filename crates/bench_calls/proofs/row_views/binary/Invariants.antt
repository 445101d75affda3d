use Rattle.std.proofs.Common.{◌≡◌}
use Rattle.bench_calls.proofs.row_views.binary.Given as goal

abbrev pub decreases-loop-row : goal.decreases-loop-row
decreases-loop-row l = l.row.left
