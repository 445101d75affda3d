use Rattle.mysql_frames.specs.Frames.{most}
use Rattle.mysql_frames.proofs.Held.{moved_body}
use Rattle.mysql_frames.proofs.unfinished.Unfinished.fill_body.Goals as goal

pub returns-clause-kept : goal.returns-clause-kept
returns-clause-kept c =
    let r = c.args.self.now in
    moved_body most r.full r.first r.payload.items r.head.items c.fill.new.into.items c.fill.ensures.moved.0 c.args.input.now.now c.fill.new.input.now
    c.requires.reading.start c.fill.ensures.moved.1 c.fill.ensures.moved.2
