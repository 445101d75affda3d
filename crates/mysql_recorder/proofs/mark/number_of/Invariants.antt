use Rattle.std.proofs.Common.{◌≡◌}
use Rattle.mysql_recorder.specs.Marks.{BeginsWithDigits, number_at}
use Rattle.mysql_recorder.proofs.mark.number_of.Given as goal

abbrev pub invariant-loop-place : goal.invariant-loop-place
invariant-loop-place l = record { digits : BeginsWithDigits l.place l.text; number : l.number ≡ number_at l.place l.text }
