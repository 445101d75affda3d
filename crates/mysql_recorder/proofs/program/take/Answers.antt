use Rattle.std.proofs.Common.{string_bytes}
use Rattle.mysql_conversation.specs.declared.packet_kind_tag.TheConstants.PacketKindTag.{ALL}
use Rattle.mysql_recorder.specs.Answers.{Takes}
use Rattle.mysql_recorder.proofs.Written.{piece_fails, piece_goes, piece_refused, takes_of}
use Rattle.mysql_recorder.proofs.program.take.Goals as goal

pub returns-in-Ok-clause-goes : goal.returns-in-Ok-clause-goes
returns-in-Ok-clause-goes g c =
    let takes : Takes c.push-taken.result ALL c.args.piece.now c.args.recording.now c.push-taken.new.self (string_bytes c.push-taken.new.out) =
    takes_of _ _ _ _ _ _ _ c.new-out.ensures.bytes c.push-taken.ensures.goes c.push-taken.ensures.refused c.push-taken.ensures.loses c.push-taken.ensures.lost c.push-taken.ensures.settings in
    λ none. piece_goes c.push-taken.result ALL c.args.piece.now c.args.recording.now c.push-taken.new.self (string_bytes c.push-taken.new.out) c.as_bytes.result.now c.write_front-is_written.result _ _
    c.in-Ok.is c.if-is_written.true c.as_bytes.ensures.value takes c.write_front-is_written.ensures.front

pub returns-then-is_written-clause-ends : goal.returns-then-is_written-clause-ends
returns-then-is_written-clause-ends g c =
    let takes : Takes c.push-taken.result ALL c.args.piece.now c.args.recording.now c.push-taken.new.self (string_bytes c.push-taken.new.out) =
    takes_of _ _ _ _ _ _ _ c.new-out.ensures.bytes c.push-taken.ensures.goes c.push-taken.ensures.refused c.push-taken.ensures.loses c.push-taken.ensures.lost c.push-taken.ensures.settings in
    piece_refused c.push-taken.result ALL c.args.shown_in c.args.sums c.args.piece.now c.args.recording.now c.push-taken.new.self (string_bytes c.push-taken.new.out) c.as_bytes.result.now c.write_front-is_written.result c.in-Err.error _ _ _ _
    c.in-Err.is c.if-is_written.true c.as_bytes.ensures.value takes c.write_front-is_written.ensures.front c.end_refused.ensures

pub returns-clause-ends : goal.returns-clause-ends
returns-clause-ends g c =
    let takes : Takes c.push-taken.result ALL c.args.piece.now c.args.recording.now c.push-taken.new.self (string_bytes c.push-taken.new.out) =
    takes_of _ _ _ _ _ _ _ c.new-out.ensures.bytes c.push-taken.ensures.goes c.push-taken.ensures.refused c.push-taken.ensures.loses c.push-taken.ensures.lost c.push-taken.ensures.settings in
    piece_fails c.push-taken.result ALL c.args.shown_in c.args.sums c.args.piece.now c.args.recording.now c.push-taken.new.self (string_bytes c.push-taken.new.out) c.as_bytes.result.now c.write_front-is_written.result _ _
    c.if-is_written.false c.as_bytes.ensures.value takes c.write_front-is_written.ensures.front
