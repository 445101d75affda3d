use Rattle.std.proofs.Common.{length}
use Rattle.std.proofs.lemmas.Bool.{eqb-true, eq-eqb}
use Rattle.mysql_cuts.specs.Fewest.{weights}
use Rattle.mysql_cuts.proofs.Names.{as_few, fewest_count}
use Rattle.mysql_cuts.proofs.fewest.cut_is_fewest.Goals as goal

pub returns-then-ends-least : goal.returns-then-ends-least
returns-then-ends-least c =
    let k = weights c.args.rule c.args.limit c.args.arity in
    record { exact = (λ h. as_few k c.args.sizes.now c.args.ends.now c.in-Some.least c.in-Some.ensures c.if-ends-least.true (c.names_fitting.ensures.0 h), λ n. c.names_fitting.ensures.1 (n.0, n.1, n.2.0)) }

pub returns-else-ends-least : goal.returns-else-ends-least
returns-else-ends-least c =
    let k = weights c.args.rule c.args.limit c.args.arity in
    record { exact = (λ h. absurd (c.if-ends-least.false (eqb-true (length c.args.ends.now) c.in-Some.least h)), λ n. eq-eqb (length c.args.ends.now) c.in-Some.least (fewest_count k c.args.sizes.now c.args.ends.now c.in-Some.least c.in-Some.ensures n)) }
