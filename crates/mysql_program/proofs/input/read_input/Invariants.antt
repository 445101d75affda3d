use Rattle.std.proofs.Common.{◌≤◌, length}
use Rattle.std.specs.Io.KnownBytes.{Consumes}
use Rattle.mysql_program.proofs.input.read_input.Given as goal

-- the input so far is what the reader returned, at least one byte by each read
abbrev pub invariant-loop : goal.invariant-loop
invariant-loop g l = Consumes (g.R.Read.remaining l.initial.reader) (g.R.Read.remaining l.reader) l.input.items × (l.counter ≤ length l.input.items)
