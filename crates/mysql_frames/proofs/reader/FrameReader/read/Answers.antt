use Rattle.std.proofs.Common.{rules, ◌++◌, subst}
use Rattle.mysql_frames.specs.FrameReader.{AllLonger, Keeps, NoneWhole, ReaderState, Refuses}
use Rattle.mysql_frames.specs.Unfinished.{state_of}
use Rattle.mysql_frames.specs.declared.error.FrameError.TheVariants.{OutOfOrder, TooLong}
use Rattle.mysql_frames.proofs.Shown.{longer_before, none_before}
use Rattle.mysql_frames.proofs.reader.FrameReader.read.Goals as goal

pub returns-clause-order : goal.returns-clause-order
returns-clause-order c e more =
    let input = c.args.input.now.now in
    let old = state_of c.self.inside.unfinished in
    let new = state_of c.read.new.self in
    let kept : Keeps old input new c.read.new.input.now = search rules in
    let refused : Refuses new c.read.new.input.now OutOfOrder = search rules in
    subst (λ (s : ReaderState). NoneWhole s.number (s.held ++ input ++ more)) c.self.view_is (none_before old new input c.read.new.input.now kept refused.1 more)

pub returns-clause-long : goal.returns-clause-long
returns-clause-long c e more =
    let input = c.args.input.now.now in
    let old = state_of c.self.inside.unfinished in
    let new = state_of c.read.new.self in
    let kept : Keeps old input new c.read.new.input.now = search rules in
    let refused : Refuses new c.read.new.input.now TooLong = search rules in
    subst (λ (s : ReaderState). AllLonger s.limit s.number (s.held ++ input ++ more)) c.self.view_is (longer_before old new input c.read.new.input.now kept refused.1 more)
