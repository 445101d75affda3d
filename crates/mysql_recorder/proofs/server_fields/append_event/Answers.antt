use Rattle.std.proofs.Common.{[], ◌∷◌, ap, codes, length, ◌∙◌}
use Rattle.mysql_show.specs.Fields.{Number, said}
use Rattle.mysql_recorder.specs.ServerFields.{event_fields}
use Rattle.mysql_recorder.proofs.Appended.{appended_as}
use Rattle.mysql_recorder.proofs.server_fields.append_event.Goals as goal

pub returns : goal.returns
returns c = record {
  ok = appended_as c.append.result c.args.fields.now.items c.append.new.fields.items (event_fields c.args.event.now) (c.number.result ∷ [])
      (ap (λ x. x ∷ []) (c.number.ensures.value ∙ ap (λ bytes. said (codes "event_size") (Number (length bytes))) c.event.ensures.value)) c.append.ensures.ok;
}
