use Rattle.std.proofs.Common.{string_bytes}
use Rattle.mysql_show.specs.Appended.{Stays}
use Rattle.mysql_recorder.proofs.sums.Sums.append_counts.Given as goal

abbrev pub invariant-loop-code : goal.invariant-loop-code
invariant-loop-code l = Stays (string_bytes l.fn.out) (string_bytes l.out)

abbrev pub invariant-loop-tally : goal.invariant-loop-tally
invariant-loop-tally l = Stays (string_bytes l.fn.out) (string_bytes l.out)

abbrev pub invariant-loop-error : goal.invariant-loop-error
invariant-loop-error l = Stays (string_bytes l.fn.out) (string_bytes l.out)

abbrev pub invariant-loop-large : goal.invariant-loop-large
invariant-loop-large l = Stays (string_bytes l.fn.out) (string_bytes l.out)

abbrev pub invariant-loop-id : goal.invariant-loop-id
invariant-loop-id l = Stays (string_bytes l.fn.out) (string_bytes l.out)
