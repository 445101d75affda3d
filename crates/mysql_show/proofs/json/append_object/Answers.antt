use Rattle.std.proofs.Common.{ap, ◌∙◌, ◌++◌, string_bytes}
use Rattle.mysql_show.proofs.Objects.{wrote-object}
use Rattle.mysql_show.proofs.json.append_object.Goals as goal

pub returns-clause-ok : goal.returns-clause-ok
returns-clause-ok c = wrote-object c.push_str-2.result _ c.args.head.now c.args.fields.now (string_bytes c.args.out.now) (string_bytes c.in_ok-text.text) (string_bytes c.push_str.new.self) (string_bytes c.push_str-2.new.self)
    c.in_ok-object.ensures.ok c.in_ok-text.ensures.text (c.in_ok-push_str.ensures.bytes ∙ ap (λ t. string_bytes c.args.out.now ++ t) c.as_str.ensures.value) c.push_str-2.ensures.bytes
