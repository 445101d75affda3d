use Rattle.std.proofs.Common.{◌≡◌, ◌∙◌, Bool, List, true, ◌&&◌, rules, subst, sym, ap}
use Rattle.mysql_stmt.specs.Execution.{Execution}
use Rattle.mysql_packets_c.specs.Parameter.{are_parameters}
use Rattle.mysql_packets_c.specs.WrittenExecution.{PutsExecution, is_spelled, may_write}
use Rattle.mysql_packets_c.specs.declared.parameter.CParameter.{CParameter}
use Rattle.mysql_packets_c.proofs.written_execution.myp_write_execution.Goals as goal

-- with valid attributes
when-valid : (asked made : Bool → Execution) (params attributes : List CParameter) → asked ≡ made → are_parameters attributes ≡ true
    → (are_parameters params && is_spelled asked) ≡ may_write made params attributes
when-valid asked made params attributes same valid =
    ap (λ (e : Bool → Execution). are_parameters params && is_spelled e) same ∙ ap (λ (b : Bool). are_parameters params && (b && is_spelled made)) (sym valid)

pub returns-clause-value : goal.returns-clause-value
returns-clause-value c = λ h.
    let params = c.args.params.now in
    let same = c.builder_of-builder.ensures params in
    let valid : are_parameters c.args.attributes.now ≡ true = search rules in
    subst (λ (e : Bool → Execution). PutsExecution e c.put_asked.result c.args.out.now c.put_asked.new.out c.put_asked.new.written c.put_asked.new.as_long_data) same
    (c.put_asked.ensures.spelled (when-valid _ _ params c.args.attributes.now same valid ∙ h))

pub returns-clause-refused : goal.returns-clause-refused
returns-clause-refused c = λ h.
    let valid : are_parameters c.args.attributes.now ≡ true = search rules in
    c.put_asked.ensures.refused (when-valid _ _ c.args.params.now c.args.attributes.now (c.builder_of-builder.ensures c.args.params.now) valid ∙ h)
