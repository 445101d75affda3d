use Rattle.std.proofs.Common.{rules, ◌<◌}
use Rattle.std.specs.List.{All}
use Rattle.mysql_repl.specs.ProperSid.{ProperIntervals, ProperSid}
use Rattle.mysql_repl.specs.Sid.{uuid, intervals}
use Rattle.mysql_repl.proofs.SidTextAgain.{sid-text-again, sid-written}
use Rattle.mysql_repl.proofs.laws.values.this_sid_text_round_trips.Goals as goal

pub returns : goal.returns
returns c =
    let sid = c.args.sid.now in
    let bytes : All (λ b. b < 256) (uuid sid) = search rules in
    let fits : ProperIntervals (intervals sid) → ProperSid sid = λ proper. record { uuid = c.is_sid.ensures.value.uuid; bytes = bytes; tag = c.is_sid.ensures.value.tag; intervals = proper } in
    record { spelled = λ proper. sid-written sid (fits proper); read = λ proper. sid-text-again sid (fits proper) }
