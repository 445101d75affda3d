use Rattle.std.proofs.Common.{◌≡◌, ◌+◌, suc, [], ap, sym, ◌∙◌, arith}
use Rattle.mysql_frames.specs.Frames.{most}
use Rattle.mysql_frames.specs.Unfinished.{raw}
use Rattle.mysql_frames.proofs.Raw.{raw_next}
use Rattle.mysql_frames.proofs.unfinished.Unfinished.next_frame.Goals as goal

pub returns-clause-kept : goal.returns-clause-kept
returns-clause-kept c =
    let r = c.args.self.now in
    let one : r.full + 1 ≡ suc r.full = omega arith in
    ap (λ h. raw most (r.full + 1) r.first r.payload.items h) c.clear.ensures
    ∙ ap (λ n. raw most n r.first r.payload.items []) one
    ∙ raw_next most r.full r.first r.payload.items c.requires.reading.first c.requires.full.body
    ∙ ap (raw most r.full r.first r.payload.items) (sym c.requires.full.header.head)
