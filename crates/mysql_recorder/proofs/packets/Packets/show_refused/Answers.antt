use Rattle.std.proofs.Common.{ap, ◌∙◌, codes, string_bytes}
use Rattle.mysql_conversation.specs.declared.packet_kind_tag.TheConstants.PacketKindTag.{ALL}
use Rattle.mysql_show.specs.Fields.{said, Word}
use Rattle.mysql_recorder.proofs.Refused.{refused_fields_are, appends_refused}
use Rattle.mysql_recorder.proofs.Stays.{front_stays}
use Rattle.mysql_recorder.proofs.packets.Packets.show_refused.Goals as goal

pub returns-clause-ok : goal.returns-clause-ok
returns-clause-ok c =
    let names = c.in_ok-append_expected.ensures.ok in
    appends_refused c.append.result ALL c.args.self.now.layout c.args.self.now.observer c.args.packet.now c.args.why (string_bytes c.args.out.now) (string_bytes c.append.new.out)
    c.as_slice.result.now names.0
    (c.as_slice.ensures.value
    ∙ refused_fields_are c.new-fields.result.items c.push.new.self.items c.push-2.new.self.items c.append_expected.new.fields.items c.bytes.result c.word.result
    c.args.packet.now.payload.now c.min.result c.args.why names.0 c.new-fields.ensures.items c.in_ok-push.ensures.items c.in_ok-push-2.ensures.items names.1
    c.bytes.ensures.value c.min.ensures (c.word.ensures.value ∙ ap (λ t. said (codes "refused") (Word t)) c.refusal_name.ensures))
    names.2 c.append.ensures.ok

pub returns-clause-stays : goal.returns-clause-stays
returns-clause-stays c = front_stays c.append.result _ (string_bytes c.args.out.now) (string_bytes c.append.new.out) c.append.ensures.begins c.append.ensures.err
