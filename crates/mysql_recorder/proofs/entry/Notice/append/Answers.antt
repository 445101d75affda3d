use Rattle.std.proofs.Common.{◌≡◌, ◌++◌, ap, ◌∙◌, string_bytes, arith, rules}
use Rattle.std.proofs.lemmas.Grind.{common_steps}
use Rattle.mysql_recorder.specs.Entries.{notice_front, notice_line}
use Rattle.mysql_recorder.proofs.Stays.{stays_same}
use Rattle.mysql_show.specs.Fields.{said, Word}
use Rattle.mysql_recorder.proofs.Heads.{err-always, front-begins, on-ok, stays-begins, notice-members, notice-wrote}
use Rattle.mysql_recorder.proofs.entry.Notice.append.Goals as goal

pub returns-in-Json-clause-ok : goal.returns-in-Json-clause-ok
returns-in-Json-clause-ok c =
    let head = notice-members c.args.self.now _ _ _
    (c.word.ensures.value ∙ ap (λ name. said _ (Word name)) c.name_of_side.ensures)
    c.number.ensures.value c.word-in-Json.ensures.value in
    on-ok c.append_object.result c.append_object.ensures.ok (notice-wrote c.args.self.now _ _ _ _ _ c.in-Json.is head)

pub returns-in-Json-clause-begins : goal.returns-in-Json-clause-begins
returns-in-Json-clause-begins c =
    stays-begins c.append_object.result _ (string_bytes c.args.out.now) (string_bytes c.append_object.new.out) (ap (λ how. notice_front how c.args.self.now) c.in-Json.is) c.append_object.ensures.stays

pub returns-in_ok-push_str-in-Lines-clause-begins : goal.returns-in_ok-push_str-in-Lines-clause-begins
returns-in_ok-push_str-in-Lines-clause-begins c =
    let line : string_bytes c.push_str.new.self ≡ string_bytes c.args.out.now ++ notice_line c.args.self.now.side c.args.self.now.kind.now = first_of (search rules, grind (arith, common_steps)) in
    front-begins c.append_lines.result _ (notice_line c.args.self.now.side c.args.self.now.kind.now) (string_bytes c.args.out.now) (string_bytes c.push_str.new.self) (string_bytes c.append_lines.new.out)
    (ap (λ how. notice_front how c.args.self.now) c.in-Lines.is) line c.append_lines.ensures.stays

pub returns-in_err-line-in-Lines-clause-err : goal.returns-in_err-line-in-Lines-clause-err
returns-in_err-line-in-Lines-clause-err c = err-always _ (stays_same _)
