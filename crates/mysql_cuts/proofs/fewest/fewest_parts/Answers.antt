use Rattle.std.proofs.Common.{◌+◌, ◌<◌, ℕ, Option, get_or, refl, subst, arith}
use Rattle.std.specs.Prelude.{IfSome}
use Rattle.mysql_cuts.specs.Cut.{WithinRows}
use Rattle.mysql_cuts.specs.Fewest.{weights}
use Rattle.mysql_cuts.proofs.Names.{Counts, counts_bound, counts_more, counts_close, counts_stuck, counts_done, counts_last}
use Rattle.mysql_cuts.proofs.fewest.fewest_parts.Goals as goal
use Rattle.mysql_cuts.proofs.fewest.fewest_parts.Goals.{in-Some, in-None+else-rows-eq0+in_ok-capacity_after-in-None}

pub returns-then-rows-eq0 : goal.returns-then-rows-eq0
returns-then-rows-eq0 c =
    let k = weights c.args.rule c.args.limit c.args.arity in
    let P : ℕ → Type 0 = λ inside. Counts k c.args.sizes.now c.loop-size.size-index c.loop-size.closed inside c.loop-size.capacity in
    let L : ℕ → Type 0 = λ inside. WithinRows c.args.rule.max_rows (inside + 1) → IfSome c.loop-size.capacity (λ had. had < get_or c.args.sizes.now c.loop-size.size-index 0) in
    counts_stuck k c.args.sizes.now c.loop-size.size-index c.loop-size.closed c.loop-size.capacity c.loop-size-test.true (subst P c.if-rows-eq0.true c.loop-size.invariant.counts)
    (subst L c.if-rows-eq0.true c.in-None.ensures) (λ n. refl)

pub overflow_add-closed : goal.overflow_add-closed
overflow_add-closed c =
    let k = weights c.args.rule c.args.limit c.args.arity in
    let bound = counts_bound k c.args.sizes.now c.loop-size.size-index c.loop-size.closed c.loop-size.rows c.loop-size.capacity (omega arith) c.loop-size.invariant.counts in
    omega (arith, bound)

pub returns-in_err-capacity_after-in-None : goal.returns-in_err-capacity_after-in-None
returns-in_err-capacity_after-in-None c =
    let k = weights c.args.rule c.args.limit c.args.arity in
    rw c.from_residual.ensures
    (counts_stuck k c.args.sizes.now c.loop-size.size-index (c.loop-size.closed + 1) c.capacity_for_rows-later.result c.loop-size-test.true
    (counts_close k c.args.sizes.now c.loop-size.size-index c.loop-size.closed c.loop-size.rows c.loop-size.capacity c.capacity_for_rows-later.result c.loop-size-test.true c.loop-size.invariant.counts
    (omega arith) c.in-None.ensures (λ n. refl) c.loop-size.invariant.later)
    c.in_err-capacity_after-in-None.ensures (λ n. refl))

pub loop-size-preserved : goal.loop-size-preserved
loop-size-preserved c =
    let k = weights c.args.rule c.args.limit c.args.arity in
    let P : ℕ → ℕ → Option ℕ → Type 0 = λ closed inside capacity. Counts k c.args.sizes.now (c.loop-size.size-index + 1) closed (inside + 1) capacity in
    record {
      later = c.loop-size.invariant.later;
      counts = elim c.match-capacity_after.branch [
        | in-Some w ↦ rw (w.closed-is, w.rows-is, w.capacity-is)
            (counts_more k c.args.sizes.now c.loop-size.size-index c.loop-size.closed c.loop-size.rows w.in-Some.left c.loop-size.capacity c.loop-size-test.true c.loop-size.invariant.counts
            w.in-Some.ensures.0 w.in-Some.ensures.1 (λ n. refl))
        | in-None+else-rows-eq0+in_ok-capacity_after-in-None w ↦ rw (w.closed-is, w.rows-is, w.capacity-is)
            (counts_more k c.args.sizes.now c.loop-size.size-index (c.loop-size.closed + 1) 0 w.in_ok-capacity_after-in-None.field-0 c.capacity_for_rows-later.result c.loop-size-test.true
            (counts_close k c.args.sizes.now c.loop-size.size-index c.loop-size.closed c.loop-size.rows c.loop-size.capacity c.capacity_for_rows-later.result c.loop-size-test.true c.loop-size.invariant.counts
            (let h = w.if-rows-eq0.false in omega arith) w.in-None.ensures (λ n. refl) c.loop-size.invariant.later)
            w.in_ok-capacity_after-in-None.ensures.0 w.in_ok-capacity_after-in-None.ensures.1 (λ n. refl))
      ];
    }

pub overflow_add-result : goal.overflow_add-result
overflow_add-result c =
    let k = weights c.args.rule c.args.limit c.args.arity in
    let bound = counts_bound k c.args.sizes.now c.loop-size.size-index c.loop-size.closed c.loop-size.rows c.loop-size.capacity (omega arith) c.loop-size.invariant.counts in
    omega (arith, bound)

pub returns-then-rows-eq0-2 : goal.returns-then-rows-eq0-2
returns-then-rows-eq0-2 c =
    let k = weights c.args.rule c.args.limit c.args.arity in
    let P : ℕ → Type 0 = λ inside. Counts k c.args.sizes.now c.loop-size.size-index c.loop-size.closed inside c.loop-size.capacity in
    counts_done k c.args.sizes.now c.loop-size.size-index c.loop-size.closed c.loop-size.capacity c.loop-size-test.false (subst P c.if-rows-eq0-2.true c.loop-size.invariant.counts)

pub returns-else-rows-eq0-2 : goal.returns-else-rows-eq0-2
returns-else-rows-eq0-2 c =
    let k = weights c.args.rule c.args.limit c.args.arity in
    counts_last k c.args.sizes.now c.loop-size.size-index c.loop-size.closed c.loop-size.rows c.loop-size.capacity c.loop-size-test.false c.loop-size.invariant.counts (omega arith)
