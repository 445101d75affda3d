use Rattle.std.proofs.Common.{string_bytes}
use Rattle.mysql_conversation.specs.declared.packet_kind_tag.TheConstants.PacketKindTag.{ALL}
use Rattle.mysql_recorder.specs.Answers.{Ends}
use Rattle.mysql_recorder.proofs.Written.{end_done, end_fails, end_refused, ends_of}
use Rattle.mysql_recorder.proofs.program.finish.Goals as goal

pub returns-in-Ok : goal.returns-in-Ok
returns-in-Ok g c =
    let says : Ends c.finish-finished.result ALL c.args.recording.now c.finish-finished.new.self (string_bytes c.finish-finished.new.out) =
    ends_of _ _ _ _ _ _ c.new-out.ensures.bytes c.finish-finished.ensures.finishes c.finish-finished.ensures.refused c.finish-finished.ensures.loses c.finish-finished.ensures.lost in
    end_done c.finish-finished.result ALL c.args.shown_in c.args.sums c.args.recording.now c.finish-finished.new.self (string_bytes c.finish-finished.new.out) c.as_bytes.result.now c.write_front-is_written.result c.lost_status-status.result _ _ _ _
    c.in-Ok.is c.if-is_written.true c.as_bytes.ensures.value c.lost_status-status.ensures says c.write_front-is_written.ensures.front c.end_with_sums.ensures.ends

pub returns-then-is_written : goal.returns-then-is_written
returns-then-is_written g c =
    let says : Ends c.finish-finished.result ALL c.args.recording.now c.finish-finished.new.self (string_bytes c.finish-finished.new.out) =
    ends_of _ _ _ _ _ _ c.new-out.ensures.bytes c.finish-finished.ensures.finishes c.finish-finished.ensures.refused c.finish-finished.ensures.loses c.finish-finished.ensures.lost in
    end_refused c.finish-finished.result ALL c.args.shown_in c.args.sums c.args.recording.now c.finish-finished.new.self (string_bytes c.finish-finished.new.out) c.as_bytes.result.now c.write_front-is_written.result c.in-Err.error _ _ _ _
    c.in-Err.is c.if-is_written.true c.as_bytes.ensures.value says c.write_front-is_written.ensures.front c.end_refused.ensures

pub returns : goal.returns
returns g c =
    let says : Ends c.finish-finished.result ALL c.args.recording.now c.finish-finished.new.self (string_bytes c.finish-finished.new.out) =
    ends_of _ _ _ _ _ _ c.new-out.ensures.bytes c.finish-finished.ensures.finishes c.finish-finished.ensures.refused c.finish-finished.ensures.loses c.finish-finished.ensures.lost in
    end_fails c.finish-finished.result ALL c.args.shown_in c.args.sums c.args.recording.now c.finish-finished.new.self (string_bytes c.finish-finished.new.out) c.as_bytes.result.now c.write_front-is_written.result _ _
    c.if-is_written.false c.as_bytes.ensures.value says c.write_front-is_written.ensures.front
