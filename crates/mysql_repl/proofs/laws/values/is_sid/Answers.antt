use Rattle.std.proofs.Common.{rules, ◌≡◌, ◌<◌, ◌^◌, length, subst, arith}
use Rattle.mysql_repl.specs.Sid.{AreIntervals, uuid, intervals}
use Rattle.mysql_repl.proofs.Ranges.{all-in-range}
use Rattle.mysql_repl.proofs.laws.values.is_sid.Goals as goal

pub returns : goal.returns
returns c =
    let sid = c.args.sid.now in
    let items = c.intervals-interval-items.result.now in
    let size : length (uuid sid) ≡ 16 = search rules in
    let count : length (intervals sid) < 2 ^ 64 = search rules in
    let numbers : AreIntervals items = all-in-range items (λ k d lt. c.loop-interval.invariant k d (omega (arith, lt, c.loop-interval-test.false))) in
    record {
      value = record { uuid = size; tag = c.tag-tag.ensures.tag; count = count; numbers = subst AreIntervals c.intervals-interval-items.ensures.value numbers };
    }
