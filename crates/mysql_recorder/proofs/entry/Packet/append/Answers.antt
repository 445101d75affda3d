use Rattle.std.proofs.Common.{◌≡◌, ◌++◌, ap, ◌∙◌, string_bytes, arith, rules}
use Rattle.std.proofs.lemmas.Grind.{common_steps}
use Rattle.mysql_recorder.specs.Entries.{entry_as, entry_front, entry_line}
use Rattle.mysql_recorder.proofs.Stays.{stays_same}
use Rattle.mysql_show.specs.Fields.{said, Word, Number}
use Rattle.mysql_recorder.proofs.Heads.{err-always, front-begins, on-ok, stays-begins, packet-members, packet-object, packet-wrote}
use Rattle.mysql_recorder.proofs.entry.Packet.append.Goals as goal

pub returns-in-Json-clause-ok : goal.returns-in-Json-clause-ok
returns-in-Json-clause-ok c =
    let head = packet-members (entry_as c.args.self.now) _ _ _ _ _ _
    (c.word.ensures.value ∙ ap (λ name. said _ (Word name)) c.name_of_side.ensures)
    (c.number.ensures.value ∙ ap (λ n. said _ (Number n)) c.from.ensures)
    c.number-in-Json.ensures.value c.word-in-Json.ensures.value c.number-in-Json-2.ensures.value c.digits.ensures.value in
    on-ok c.append_object.result c.append_object.ensures.ok (packet-wrote (entry_as c.args.self.now) _ _ _ _ _ c.in-Json.is head)

pub returns-in-Json-clause-begins : goal.returns-in-Json-clause-begins
returns-in-Json-clause-begins c =
    stays-begins c.append_object.result _ (string_bytes c.args.out.now) (string_bytes c.append_object.new.out) (ap (λ how. entry_front how (entry_as c.args.self.now)) c.in-Json.is) c.append_object.ensures.stays

pub returns-in_ok-push_str-in-Lines-clause-begins : goal.returns-in_ok-push_str-in-Lines-clause-begins
returns-in_ok-push_str-in-Lines-clause-begins c =
    let line : string_bytes c.push_str.new.self ≡ string_bytes c.args.out.now ++ entry_line (entry_as c.args.self.now) = first_of (search rules, grind (arith, common_steps)) in
    front-begins c.append_lines.result _ (entry_line (entry_as c.args.self.now)) (string_bytes c.args.out.now) (string_bytes c.push_str.new.self) (string_bytes c.append_lines.new.out)
    (ap (λ how. entry_front how (entry_as c.args.self.now)) c.in-Lines.is) line c.append_lines.ensures.stays

pub returns-in-Json-clause-shown : goal.returns-in-Json-clause-shown
returns-in-Json-clause-shown c =
    let head = packet-members (entry_as c.args.self.now) _ _ _ _ _ _
    (c.word.ensures.value ∙ ap (λ name. said _ (Word name)) c.name_of_side.ensures)
    (c.number.ensures.value ∙ ap (λ n. said _ (Number n)) c.from.ensures)
    c.number-in-Json.ensures.value c.word-in-Json.ensures.value c.number-in-Json-2.ensures.value c.digits.ensures.value in
    packet-object c.append_object.result (entry_as c.args.self.now) _ _ c.args.fields.now (string_bytes c.args.out.now) (string_bytes c.append_object.new.out) c.in-Json.is head c.append_object.ensures.object

pub returns-in_err-line-in-Lines-clause-err : goal.returns-in_err-line-in-Lines-clause-err
returns-in_err-line-in-Lines-clause-err c = err-always _ (stays_same _)
