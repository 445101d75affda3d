use Rattle.std.proofs.Common.{drop}
use Rattle.examples_proved.specs.Stream.{bytes_of}
use Rattle.examples_proved.proofs.Steps.{SoFar}
use Rattle.examples_proved.proofs.load.stream.Given as goal

abbrev pub invariant-loop-row : goal.invariant-loop-row
invariant-loop-row l = SoFar l.fn.writer l.fn.rows l.writer (drop l.row-index l.rows) (bytes_of l.requests.items)
