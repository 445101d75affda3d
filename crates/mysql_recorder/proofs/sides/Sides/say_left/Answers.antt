use Rattle.std.proofs.Common.{◌≡◌, ◌∙◌, ◌++◌, OnOk, sym, subst, string_bytes}
use Rattle.mysql_recorder.proofs.Notices.{is_told, left_is}
use Rattle.mysql_recorder.proofs.sides.Sides.say_left.Goals as goal

pub returns-in-Some-clause-text : goal.returns-in-Some-clause-text
returns-in-Some-clause-text c =
    let said = is_told c.args.self.now.has_lost c.in-Some.passed c.if-passed-gt0.either in
    subst (λ t. OnOk c.say_passed.result (string_bytes c.say_passed.new.out ≡ string_bytes c.args.out.now ++ t))
    (sym (left_is c.args.self.now c.args.side c.in-Some.passed (sym c.passed.ensures ∙ c.in-Some.is) said)) c.say_passed.ensures.text
