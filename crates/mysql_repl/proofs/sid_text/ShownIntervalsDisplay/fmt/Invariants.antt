use Rattle.std.proofs.Common.{take}
use Rattle.std.specs.List.{flat_map}
use Rattle.std.specs.Fmt.{HasWritten, IsPlainFormatter}
use Rattle.mysql_repl.specs.SidText.{interval_text}
use Rattle.mysql_repl.proofs.sid_text.ShownIntervalsDisplay.fmt.Given as goal

abbrev pub invariant-loop-interval : goal.invariant-loop-interval
invariant-loop-interval g l =
    IsPlainFormatter l.initial.f → HasWritten g.W.Write.write_str_gives l.initial.f (flat_map interval_text (take l.interval-index l.interval-items)) l.f
