use Rattle.std.proofs.Common.{◌∙◌, sym, string_bytes, map}
use Rattle.mysql_conversation.specs.declared.packet_kind_tag.TheConstants.PacketKindTag.{ALL}
use Rattle.mysql_recorder.proofs.Fed.{answered_from, bad_call, good_call}
use Rattle.mysql_recorder.proofs.program.run.Goals as goal

pub returns-in_default : goal.returns-in_default
returns-in_default g c = bad_call ALL (map string_bytes c.args.words.now) _ _ _ _ (sym c.in_default.is ∙ c.call_of.ensures) c.refuse_call.ensures

pub returns : goal.returns
returns g c = good_call ALL (map string_bytes c.args.words.now) c.in-Some.call _ _ _ _ _ (sym c.in-Some.is ∙ c.call_of.ensures)
    (answered_from ALL _ _ _ _ _ _ _ _ _ _ _ c.begun-recording.ensures.longest c.begun-recording.ensures.recorded c.show.ensures.answer)
