use Rattle.std.proofs.Common.{ℕ, ◌<◌, get_or}
use Rattle.mysql_repl.proofs.laws.values.has_bytes.Given as goal

abbrev pub invariant-loop-byte : goal.invariant-loop-byte
invariant-loop-byte l = (k d : ℕ) → k < l.byte-index → get_or l.byte-items k d < 256
