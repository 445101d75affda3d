use Rattle.std.proofs.Common.{string_bytes}
use Rattle.mysql_recorder.specs.RecordFields.{AreFields}
use Rattle.mysql_recorder.proofs.Refused.{appends}
use Rattle.mysql_recorder.proofs.Stays.{front_stays}
use Rattle.mysql_recorder.proofs.packets.Packets.show_fields.Goals as goal

pub returns-clause-ok : goal.returns-clause-ok
returns-clause-ok c =
    appends (λ fields. AreFields c.args.self.now.observer c.args.packet.now.side c.args.kind c.args.packet.now.payload.now fields) c.append.result c.args.self.now.layout c.args.packet.now
    c.new-fields.result.items c.append_fields.new.fields.items c.as_slice.result.now (string_bytes c.args.out.now) (string_bytes c.append.new.out)
    c.new-fields.ensures.items c.in_ok-append_fields.ensures.ok c.as_slice.ensures.value c.append.ensures.ok c.append.ensures.shown

pub returns-clause-stays : goal.returns-clause-stays
returns-clause-stays c = front_stays c.append.result _ (string_bytes c.args.out.now) (string_bytes c.append.new.out) c.append.ensures.begins c.append.ensures.err
