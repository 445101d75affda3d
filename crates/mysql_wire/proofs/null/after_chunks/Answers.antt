use Rattle.std.proofs.Common.{rules}
use Rattle.mysql_wire.specs.Null.{HasNoZero}
use Rattle.mysql_wire.proofs.Zeros.{no-zero-parts}
use Rattle.mysql_wire.proofs.null.after_chunks.Goals as goal

pub loop-front-preserved : goal.loop-front-preserved
loop-front-preserved g c = λ none.
    let parts = c.in-Some.ensures.cases in
    let front : HasNoZero c.in-Some.front.now = search rules in
    c.loop-front.invariant (no-zero-parts g.row.N c.loop-front.rest.now (rw (← parts.0) front) (rw (← parts.1) none))
