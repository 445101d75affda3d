use Rattle.std.proofs.Common.{[], ◌∷◌, ◌++◌, ap, codes, sym, ◌∙◌}
use Rattle.mysql_replies.specs.OkPacket.{state_bytes}
use Rattle.mysql_show.specs.Fields.{Word, said}
use Rattle.mysql_recorder.specs.ChangeFields.{change_fields, read_fields}
use Rattle.mysql_recorder.proofs.Changes.{changes_step}
use Rattle.mysql_recorder.proofs.change_fields.append_changes.Goals as goal

pub loop-change-preserved-in-Continue-1 : goal.loop-change-preserved-in-Continue-1
loop-change-preserved-in-Continue-1 c =
    changes_step (state_bytes c.args.ok.now) c.loop-change.change-iterator c.next.new.self c.in-Some.change c.args.fields.now.items c.loop-change.fields.items c.append_change.new.fields.items
    c.loop-change.invariant c.in-Some.ensures.steps
    (c.in_ok-append_change-in-Ok.ensures.ok ∙ ap (λ change. c.loop-change.fields.items ++ change_fields change) c.into_change.ensures.value ∙ ap (λ r. c.loop-change.fields.items ++ read_fields r) (sym c.in-Ok.is))

pub loop-change-preserved : goal.loop-change-preserved
loop-change-preserved c =
    changes_step (state_bytes c.args.ok.now) c.loop-change.change-iterator c.next.new.self c.in-Some.change c.args.fields.now.items c.loop-change.fields.items c.push.new.self.items
    c.loop-change.invariant c.in-Some.ensures.steps
    (c.in_ok-push-in-Err.ensures.items ∙ ap (λ field. c.loop-change.fields.items ++ field ∷ []) (c.word.ensures.value ∙ ap (λ t. said (codes "refused") (Word t)) c.fault_name.ensures)
    ∙ ap (λ r. c.loop-change.fields.items ++ read_fields r) (sym c.in-Err.is))
