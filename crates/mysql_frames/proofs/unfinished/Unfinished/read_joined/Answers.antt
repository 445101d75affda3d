use Rattle.std.proofs.lemmas.Result.{err_from_is_err_and}
use Rattle.mysql_frames.specs.declared.error.FrameError.TheVariants.{Memory}
use Rattle.std.proofs.Common.{◌≡◌, ap, Err}
use Rattle.mysql_frames.proofs.unfinished.Unfinished.read_joined.Goals as goal

pub returns-in_err-payload-clause-lacks : goal.returns-in_err-payload-clause-lacks
returns-in_err-payload-clause-lacks c e =
    let p = err_from_is_err_and c.from_residual.result c.from_residual.ensures.1 in
    let same : c.in_err-payload.field-0.0 ≡ Memory = cc in
    let lacks = c.in_err-payload.ensures.lacks (ap Err same) in
    let header = lacks.1 in (
      lacks.0,
      record { head = header.head; below = header.below; no_longer = header.no_longer },
      record { frame = lacks.2.frame; comes = lacks.2.comes },
    )
