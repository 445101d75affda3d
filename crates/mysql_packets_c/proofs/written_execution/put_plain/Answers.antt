use Rattle.std.proofs.Common.{◌≡◌, List, not, is_some, false, refl, sym, subst, ap, ◌∙◌, arith}
use Rattle.mysql_stmt.specs.ExecuteHead.{with_count}
use Rattle.mysql_stmt.specs.ExecuteWithOptions.{asked}
use Rattle.mysql_stmt.specs.Execution.{Execution, execution_bytes}
use Rattle.mysql_stmt.specs.SentParam.{first_unspelled}
use Rattle.mysql_stmt.proofs.ExecutionBytes.{not-long}
use Rattle.mysql_packets_c.specs.CheckedParams.{plainly}
use Rattle.mysql_packets_c.specs.Output.{PutsUnlessTooLong}
use Rattle.mysql_packets_c.specs.Parameter.{are_parameters, named_type, param_given, sent}
use Rattle.mysql_packets_c.specs.declared.parameter.CParameter.{CParameter}
use Rattle.mysql_packets_c.proofs.CheckedParams.{asked-plainly, may-send-parts, spelled-plainly}
use Rattle.mysql_packets_c.proofs.WrittenExecutions.{and-second}
use Rattle.mysql_packets_c.proofs.written_execution.put_plain.Goals as goal

pub returns-then-len-gt-MAX_PAYLOAD_LEN-clause-spelled : goal.returns-then-len-gt-MAX_PAYLOAD_LEN-clause-spelled
returns-then-len-gt-MAX_PAYLOAD_LEN-clause-spelled c = λ h.
    let items = c.args.params.now in
    let spelled = and-second (are_parameters items) (not (is_some (first_unspelled (sent items)))) (sym (may-send-parts items) ∙ h) in
    c.put_execution.ensures.spelled (spelled-plainly c.args.builder items c.requires ∙ spelled)

pub returns-clause-spelled : goal.returns-clause-spelled
returns-clause-spelled c = λ h.
    let builder = c.args.builder in
    let items = c.args.params.now in
    let held = c.in-Some.checked.items.now in
    let head = c.with_iteration_count.result in
    let is_head = c.with_iteration_count.ensures.value ∙ ap (with_count builder.iteration_count) c.new-head.ensures.head in
    let same : asked param_given named_type builder (sent items) false ≡ plainly head held builder.sends_types =
    asked-plainly builder head items c.requires is_head ∙ ap (λ (l : List CParameter). plainly head l builder.sends_types) (sym c.in-Some.ensures.1) in
    record {
      is_long = false;
      where_long = not-long false (plainly head held builder.sends_types) (asked param_given named_type builder (sent items) false) c.len-len.result refl (sym same)
          c.len-len.ensures (omega (arith, c.if-len-gt-MAX_PAYLOAD_LEN.false));
      puts =
          subst (λ (e : Execution). PutsUnlessTooLong (execution_bytes e) c.put_counted.result c.args.out.now c.put_counted.new.out c.put_counted.new.written) (sym same)
          c.put_counted.ensures;
      leaves_out = refl;
    }
