use Rattle.std.proofs.Common.{rules}
use Rattle.mysql_program.proofs.Inputs.{none_more, gave_some}
use Rattle.mysql_program.proofs.input.read_input.Goals as goal

pub returns-then-count-eq0-clause-all : goal.returns-then-count-eq0-clause-all
returns-then-count-eq0-clause-all g c =
    let bytes = c.in-Ok.ensures.bytes in (
      none_more _ _ _ c.loop.input.items _ c.in-Ok.count c.loop.invariant.0 bytes.0 c.if-count-eq0.true,
      bytes.1 c.if-count-eq0.true (search rules),
    )

pub returns-then-is_err-clause-memory : goal.returns-then-is_err-clause-memory
returns-then-is_err-clause-memory g c = λ _.
    gave_some _ _ _ c.loop.input.items _ c.in-Ok.count c.loop.invariant.0 c.in-Ok.ensures.bytes.0 c.in-Ok.ensures.bound.1 c.if-count-eq0.false
