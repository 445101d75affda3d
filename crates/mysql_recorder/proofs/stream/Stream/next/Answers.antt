use Rattle.std.proofs.Common.{◌≡◌, ◌++◌, Err, ap, subst}
use Rattle.mysql_frames.specs.FrameReader.{AllLonger, NoneWhole}
use Rattle.mysql_frames.specs.declared.error.FrameError.TheVariants as frame
use Rattle.mysql_recorder.proofs.stream.Stream.next.Goals as goal

pub returns-in-Err-clause-order : goal.returns-in-Err-clause-order
returns-in-Err-clause-order c = λ e more. subst (λ r. NoneWhole r.number (r.held ++ c.args.input.now.now ++ more)) c.expect_sent.ensures (c.in-Err.ensures.order (let is : c.in-Err.error ≡ frame.OutOfOrder = cc in ap Err is) more)

pub returns-in-Err-clause-long : goal.returns-in-Err-clause-long
returns-in-Err-clause-long c = λ e more. subst (λ r. AllLonger r.limit r.number (r.held ++ c.args.input.now.now ++ more)) c.expect_sent.ensures (c.in-Err.ensures.long (let is : c.in-Err.error ≡ frame.TooLong = cc in ap Err is) more)
