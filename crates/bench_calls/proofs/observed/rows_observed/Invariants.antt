use Rattle.std.proofs.Common.{◌≡◌}
use Rattle.bench_calls.proofs.observed.rows_observed.Given as goal

abbrev pub decreases-payloads : goal.decreases-payloads
decreases-payloads l = l.left
