use Rattle.std.proofs.Common.{◌≡◌, length}
use Rattle.bench_calls.proofs.streams.bench_payloads_joined.Given as goal

abbrev pub decreases-pieces : goal.decreases-pieces
decreases-pieces l = length l.rest
