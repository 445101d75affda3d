use Rattle.std.proofs.Common.{◌≡◌, ◌++◌, List, take}
use Rattle.mysql_conversation.specs.declared.packet_kind_tag.PacketKindTag.{PacketKindTag}
use Rattle.mysql_recorder.specs.Refused.{expected_fields}
use Rattle.mysql_recorder.specs.Refusals.{Expects}
use Rattle.mysql_recorder.proofs.packets.Packets.append_expected.Given as goal

abbrev pub invariant-loop-name : goal.invariant-loop-name
invariant-loop-name l =
    (names : List PacketKindTag) × (l.fields.items ≡ l.fn.fields.items ++ expected_fields names) × Expects l.self.observer (take l.name-index l.all) names
