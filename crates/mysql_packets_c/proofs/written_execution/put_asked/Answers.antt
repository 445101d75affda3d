use Rattle.std.proofs.Common.{◌≡◌, ◌&&◌, Bool, None, rules, sym, ap, ◌∙◌}
use Rattle.std.specs.Option.{option_copied}
use Rattle.mysql_packets_c.specs.Parameter.{are_parameters}
use Rattle.mysql_packets_c.proofs.CheckedParams.{may-send-parts, spelled-plainly}
use Rattle.mysql_packets_c.proofs.written_execution.put_asked.Goals as goal

pub returns-then-is_none-clause-spelled : goal.returns-then-is_none-clause-spelled
returns-then-is_none-clause-spelled c = λ h.
    let items = c.args.params.now in
    let none : option_copied c.args.builder.attributes ≡ None = search rules in
    c.put_plain.ensures.spelled (may-send-parts items ∙ ap (λ (b : Bool). are_parameters items && b) (sym (spelled-plainly c.args.builder items none)) ∙ h)

pub returns-then-is_none-clause-refused : goal.returns-then-is_none-clause-refused
returns-then-is_none-clause-refused c = λ h.
    let items = c.args.params.now in
    let none : option_copied c.args.builder.attributes ≡ None = search rules in
    c.put_plain.ensures.refused (may-send-parts items ∙ ap (λ (b : Bool). are_parameters items && b) (sym (spelled-plainly c.args.builder items none)) ∙ h)
