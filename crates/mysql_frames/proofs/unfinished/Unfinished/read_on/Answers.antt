use Rattle.std.proofs.lemmas.Result.{err_from_is_err_and}
use Rattle.mysql_frames.specs.declared.error.FrameError.TheVariants.{Memory}
use Rattle.std.proofs.Common.{◌≡◌, ◌≤◌, ◌++◌, length, ap, subst, ◌∙◌, arith, Err}
use Rattle.mysql_frames.specs.Frames.{most, FramedIn}
use Rattle.mysql_frames.specs.Unfinished.{held}
use Rattle.mysql_frames.proofs.unfinished.Unfinished.read_on.Goals as goal

pub returns-in-Some-2-clause-payload : goal.returns-in-Some-2-clause-payload
returns-in-Some-2-clause-payload c =
    let first : c.frame.new.self.first ≡ c.args.self.now.first = c.frame.ensures.same.0 ∙ c.frames.invariant.first in
    let limit : c.frame.new.self.limit ≡ c.args.self.now.limit = c.frame.ensures.same.2 ∙ c.frames.invariant.limit in
    let kept : held c.frame.new.self ++ c.frame.new.input.now ≡ held c.args.self.now ++ c.args.input.now.now = c.frame.ensures.kept ∙ c.frames.invariant.kept in
    let f = c.finish.ensures.framed c.frame.new.input.now in record {
      framed = (
        f.0,
        subst (λ bytes. FramedIn most f.0 c.args.self.now.first c.finish.result.items c.finish.new.self.first bytes c.frame.new.input.now) kept
            (subst (λ n. FramedIn most f.0 n c.finish.result.items c.finish.new.self.first (held c.frame.new.self ++ c.frame.new.input.now) c.frame.new.input.now) first f.1),
      );
      within = subst (λ l. length c.finish.result.items ≤ l) limit c.finish.ensures.within;
      none_held = c.finish.ensures.held;
      limit = c.finish.ensures.limit ∙ limit;
    }

pub returns-in_err-frame-clause-lacks : goal.returns-in_err-frame-clause-lacks
returns-in_err-frame-clause-lacks c e =
    let p = err_from_is_err_and c.from_residual.result c.from_residual.ensures.1 in
    let same : c.in_err-frame.field-0.0 ≡ Memory = cc in
    let lacks = c.in_err-frame.ensures.lacks (ap Err same) in
    let grown = c.frames.invariant.capacity in
    (lacks.0, lacks.1, record { frame = omega (arith, lacks.2.frame, grown); comes = omega (arith, lacks.2.comes, grown) })
