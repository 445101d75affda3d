use Rattle.std.proofs.Common.{ap, ◌∙◌, ◌++◌, string_bytes}
use Rattle.mysql_recorder.proofs.Summed.{line_stays, object_appended}
use Rattle.mysql_recorder.proofs.sums.Sums.append_object.Goals as goal

pub returns-clause-object : goal.returns-clause-object
returns-clause-object c =
    let sum = c.in_ok-object.ensures in
    object_appended c.push_str-2.result c.args.self.now.packets sum.0 _ (string_bytes c.in_ok-text.text) (string_bytes c.args.out.now) (string_bytes c.push_str.new.self) (string_bytes c.push_str-2.new.self)
    sum.1 c.in_ok-text.ensures.order c.in_ok-text.ensures.reads_back (c.in_ok-push_str.ensures.bytes ∙ ap (λ t. string_bytes c.args.out.now ++ t) c.as_str.ensures.value) c.push_str-2.ensures.bytes

pub returns-clause-stays : goal.returns-clause-stays
returns-clause-stays c =
    line_stays c.push_str-2.result (string_bytes c.in_ok-text.text) (string_bytes c.args.out.now) (string_bytes c.push_str.new.self) (string_bytes c.push_str-2.new.self)
    (c.in_ok-push_str.ensures.bytes ∙ ap (λ t. string_bytes c.args.out.now ++ t) c.as_str.ensures.value) c.push_str-2.ensures.bytes
