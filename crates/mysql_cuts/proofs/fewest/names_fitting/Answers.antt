use Rattle.std.proofs.Common.{length, arith}
use Rattle.std.proofs.lemmas.Bool.{eqb-true, eq-eqb}
use Rattle.std.proofs.lemmas.List.{length-drop}
use Rattle.mysql_cuts.specs.Fewest.{weights}
use Rattle.mysql_cuts.proofs.Names.{begins_at, goes_on_at, others_at, names_last, last_names}
use Rattle.mysql_cuts.proofs.fewest.names_fitting.Goals as goal
use Rattle.mysql_cuts.proofs.fewest.names_fitting.Goals.{then-end-start-via-then-end-start, then-end-start-via-else-end-start+then-sizes-end}

pub returns-then-end-start : goal.returns-then-end-start
returns-then-end-start c =
    let k = weights c.args.rule c.args.limit c.args.arity in (
      λ h. cc,
      λ n.
          let b = begins_at k c.loop-end.types c.loop-end.start c.args.sizes.now c.args.ends.now c.loop-end.end-index (omega arith) c.loop-end.invariant.within (c.loop-end.invariant.rest.0 n) in
          let after = b.after in
          let within = b.within in
          let len = length-drop c.loop-end.start c.args.sizes.now in
          elim c.then-end-start.branch [ then-end-start-via-then-end-start w ↦ absurd (omega arith) | then-end-start-via-else-end-start+then-sizes-end w ↦ absurd (omega arith) ],
    )

pub returns-then-not-part_fits : goal.returns-then-not-part_fits
returns-then-not-part_fits c =
    let k = weights c.args.rule c.args.limit c.args.arity in (
      λ h. cc,
      λ n.
          let b = begins_at k c.loop-end.types c.loop-end.start c.args.sizes.now c.args.ends.now c.loop-end.end-index (omega arith) c.loop-end.invariant.within (c.loop-end.invariant.rest.0 n) in
          let fits = c.part_fits.ensures.1 b.first_fits in cc,
    )

pub loop-end-preserved : goal.loop-end-preserved
loop-end-preserved c =
    let k = weights c.args.rule c.args.limit c.args.arity in
    record {
      within = omega arith;
      rest = (
        λ n. others_at k c.loop-end.types c.loop-end.start c.args.sizes.now c.args.ends.now c.loop-end.end-index c.loop-end.invariant.within
            (begins_at k c.loop-end.types c.loop-end.start c.args.sizes.now c.args.ends.now c.loop-end.end-index (omega arith) c.loop-end.invariant.within (c.loop-end.invariant.rest.0 n)),
        λ n. c.loop-end.invariant.rest.1
            (goes_on_at k c.loop-end.types c.loop-end.start c.args.sizes.now c.args.ends.now c.loop-end.end-index (omega arith) c.loop-end.invariant.within (omega arith) (omega arith) (c.part_fits.ensures.0 c.if-not-part_fits.false) n),
      );
    }

pub returns : goal.returns
returns c =
    let k = weights c.args.rule c.args.limit c.args.arity in (
      λ h. c.loop-end.invariant.rest.1 (last_names k c.loop-end.types c.loop-end.start c.args.sizes.now c.args.ends.now c.loop-end.end-index c.loop-end-test.false (eqb-true c.loop-end.start (length c.args.sizes.now) h)),
      λ n. eq-eqb c.loop-end.start (length c.args.sizes.now)
          (names_last k c.loop-end.types c.loop-end.start c.args.sizes.now c.args.ends.now c.loop-end.end-index c.loop-end-test.false c.loop-end.invariant.within (c.loop-end.invariant.rest.0 n)),
    )
