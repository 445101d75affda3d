use Rattle.std.proofs.lemmas.Result.{err_from_is_err_and}
use Rattle.std.proofs.Common.{rules, ◌≡◌, Err}
use Rattle.mysql_frames.specs.declared.error.FrameError.TheVariants.{Memory}
use Rattle.mysql_frames.specs.Frames.{most}
use Rattle.mysql_frames.proofs.Held.{begins_in_order, none_head, none_body}
use Rattle.mysql_frames.proofs.Shown.{head_right, body_right, fault_refuses, none_shown, part_lacks}
use Rattle.mysql_frames.specs.Unfinished.{state_of}
use Rattle.mysql_frames.proofs.unfinished.Unfinished.frame.Goals as goal

pub returns-then-not-fill_head-clause-part : goal.returns-then-not-fill_head-clause-part
returns-then-not-fill_head-clause-part c =
    let r = c.fill_head.new.self in
    let part = c.fill_head.ensures.done.1 c.if-not-fill_head.true in
    (part.1, λ payload after rest h. none_head most r.full h.0 r.first payload after r.head.items r.payload.items rest c.fill_head.ensures.reading.first (c.fill_head.ensures.reading.nothing_yet part.0) part.0 h.1)

pub returns-then-not-branch-clause-part : goal.returns-then-not-branch-clause-part
returns-then-not-branch-clause-part c =
    let r = c.fill_body.new.self in
    let part = c.in_ok-fill_body.ensures.done.1 c.if-not-branch.true in
    (part.1, λ payload after rest h. none_body most r.full h.0 r.first c.in_ok-len.len payload after r.head.items r.payload.items rest c.fill_body.ensures.reading.first c.fill_body.ensures.reading.start c.fill_body.ensures.header.head part.0 h.1)

pub returns-then-not-fill_head-clause-no_fault : goal.returns-then-not-fill_head-clause-no_fault
returns-then-not-fill_head-clause-no_fault c =
    let r = c.fill_head.new.self in
    let part = c.fill_head.ensures.done.1 c.if-not-fill_head.true in
    none_shown (state_of r)
    (λ full after len number others h. head_right r.full full r.first after len number r.limit r.head.items r.payload.items others c.fill_head.ensures.reading.first
    (c.fill_head.ensures.reading.nothing_yet part.0) part.0 c.fill_head.ensures.reading.bounded h)

pub returns-then-not-branch-clause-no_fault : goal.returns-then-not-branch-clause-no_fault
returns-then-not-branch-clause-no_fault c =
    let r = c.fill_body.new.self in
    let part = c.in_ok-fill_body.ensures.done.1 c.if-not-branch.true in
    let header = c.fill_body.ensures.header in
    none_shown (state_of r)
    (λ full after len number others h. body_right r.full full r.first after len number r.limit c.in_ok-len.len r.head.items r.payload.items others c.fill_body.ensures.reading.first
    c.fill_body.ensures.reading.start header.head part.0 header.below h)

pub returns-in_err-len-clause-refused : goal.returns-in_err-len-clause-refused
returns-in_err-len-clause-refused c =
    let p = err_from_is_err_and c.from_residual.result c.from_residual.ensures.1 in
    let fault = c.in_err-len.field-0.0 in
    rw (p.1, p.2) (fault_refuses (state_of c.fill_head.new.self) c.fill_head.new.input.now fault c.in_err-len.ensures.refused)

pub returns-in_err-fill_body-clause-refused : goal.returns-in_err-fill_body-clause-refused
returns-in_err-fill_body-clause-refused c =
    let r = c.fill_body.new.self in
    let reading = c.fill_body.ensures.reading in
    let header = c.fill_body.ensures.header in
    let memory : c.from_residual-in_err-fill_body.result ≡ Err Memory = search rules in
    rw memory (
      part_lacks r.full r.first r.limit c.in_ok-len.len r.head.items r.payload.items reading.first reading.start header.head header.below c.in_err-fill_body.ensures.lacks.0,
      begins_in_order r.full r.first c.in_ok-len.len r.limit r.payload.items r.head.items c.fill_body.new.input.now reading.first header.head header.below,
    )
