use Rattle.std.proofs.Common.{arith, length, ◌<◌}
use Rattle.mysql_frames.specs.Frames.{most}
use Rattle.mysql_frames.proofs.Held.{moved_head}
use Rattle.mysql_frames.proofs.unfinished.Unfinished.fill_head.Goals as goal

pub returns-clause-kept : goal.returns-clause-kept
returns-clause-kept c =
    let r = c.args.self.now in
    let part : length r.head.items < 4 = omega arith in
    moved_head most r.full r.first r.payload.items r.head.items c.fill_header.new.into.items c.fill_header.ensures.moved.0 c.args.input.now.now c.fill_header.new.input.now
    (c.requires.nothing_yet part) c.fill_header.ensures.moved.1 c.fill_header.ensures.moved.2
