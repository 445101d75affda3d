use Rattle.std.proofs.Common.{◌≡◌}
use Rattle.bench_calls.proofs.row_views.sum_of_text.Given as goal

abbrev pub decreases-loop-value : goal.decreases-loop-value
decreases-loop-value l = l.row.left
