use Rattle.std.proofs.Common.{refl}
use Rattle.mysql_bulk.proofs.RunSteps.{is_none_from, next_refuses, next_builds}
use Rattle.mysql_bulk.proofs.run.BulkRequestsIterator.next.Goals as goal

pub returns-in-Err-clause-steps : goal.returns-in-Err-clause-steps
returns-in-Err-clause-steps g c = (
  refl,
  next_refuses g.I.Iterator.next_gives c.args.self.now.builder.now.state c.fill.new.builder.state c.args.self.now.carried _ _ c.args.self.now.rows c.fill.new.rows c.args.self.now.ended c.in-Err.e c.if-self.false c.take.ensures.value c.take.ensures.after
      c.in-Err.ensures.accepts,
)

pub returns-in-Ok-clause-steps : goal.returns-in-Ok-clause-steps
returns-in-Ok-clause-steps g c =
    let waiting = c.answer_waiting.ensures in (
      refl,
      rw (waiting.1) (next_builds g.I.Iterator.next_gives c.args.self.now.builder.now.state c.fill.new.builder.state c.answer_waiting.new.builder.state c.args.self.now.carried c.in-Ok.last c.args.self.now.rows c.fill.new.rows c.args.self.now.ended
          c.is_none-self.result waiting.0 c.if-self.false (rw c.take.ensures.value at c.in-Ok.ensures.accepts)
          (is_none_from c.in-Ok.last c.is_none-self.result c.is_none-self.ensures) waiting.2),
    )
