use Rattle.std.proofs.Common.{◌≡◌, subst, sym, ◌++◌}
use Rattle.mysql_frames.specs.Frames.{most, next, FramedIn}
use Rattle.mysql_frames.specs.Unfinished.{raw, held, number_of}
use Rattle.mysql_frames.proofs.Raw.{raw_done}
use Rattle.mysql_frames.proofs.unfinished.Unfinished.finish.Goals as goal

pub returns-clause-framed : goal.returns-clause-framed
returns-clause-framed c rest =
    let r = c.args.self.now in
    let payload : c.replace.result.items ≡ r.payload.items = cc in (
      r.full,
      subst (λ p. FramedIn most r.full r.first p (next c.number.result) (held r ++ rest) rest) (sym payload)
          (subst (λ n. FramedIn most r.full r.first r.payload.items (next n) (held r ++ rest) rest) (sym c.number.ensures)
          (subst (λ h. FramedIn most r.full r.first r.payload.items (next (number_of r.full r.first)) (raw most r.full r.first r.payload.items h ++ rest) rest) (sym c.requires.last.header.head)
          (raw_done most r.full r.first c.args.len r.payload.items rest c.requires.reading.first c.requires.last.body c.requires.short))),
    )
