use Rattle.std.proofs.Common.{◌≡◌, ◌∙◌, get_or, sym, true}
use Rattle.mysql_repl.specs.GnoInterval.{interval_of}
use Rattle.mysql_repl.specs.MergedIntervals.{has_any}
use Rattle.mysql_repl.proofs.Merging.{some-left}
use Rattle.mysql_repl.proofs.merged_intervals.some_of.Goals as goal

pub returns-in_err-push-clause-no_memory : goal.returns-in_err-push-clause-no_memory
returns-in_err-push-clause-no_memory c none =
    let is = c.args.intervals.now in
    let k = c.loop-interval.interval-index in
    let test : has_any (get_or is k (interval_of 0 0)) ≡ true = sym c.has_any.ensures.value ∙ c.if-has_any.true in
    absurd (some-left k is (interval_of 0 0) c.loop-interval-test.true test none)
