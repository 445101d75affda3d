use Rattle.std.proofs.Common.{Ok, ap}
use Rattle.std.proofs.lemmas.Result.{err_from_is_err_and}
use Rattle.mysql_wire.specs.Reading.{then_read}
use Rattle.mysql_stmt.specs.ExecuteHead.{cursor_flags}
use Rattle.mysql_packets_c.proofs.Executions.{all-read, attributes-refused, params-refused, then-fault}
use Rattle.mysql_packets_c.proofs.execution_attribute.attributes_after.Goals as goal

pub returns-in_err-pass_params : goal.returns-in_err-pass_params
returns-in_err-pass_params c =
    let p = err_from_is_err_and c.from_residual-in_err-pass_params.result c.from_residual-in_err-pass_params.ensures.1 in
    let fault = c.in_err-pass_params.field-0.0 in
    let refused = params-refused c.args.capabilities (cursor_flags c.args.head.now) c.args.params.now c.args.buf c.in_ok-sent.sent c.pass_params.new.sent
    c.in_ok-sent.ensures.left c.in_ok-sent.ensures.read c.in_err-pass_params.ensures.rest fault c.in_err-pass_params.ensures.refused in
    record { value = rw (p.1, p.2) (then-fault _ (λ x rest. Ok (x.1, rest)) fault refused) }

pub returns-in_err-_rest : goal.returns-in_err-_rest
returns-in_err-_rest c =
    let p = err_from_is_err_and c.from_residual-in_err-_rest.result c.from_residual-in_err-_rest.ensures.1 in
    let fault = c.in_err-_rest.field-0.0 in
    let refused = attributes-refused c.args.capabilities (cursor_flags c.args.head.now) c.args.params.now c.args.buf c.in_ok-sent.sent c.pass_params.new.sent
    c.in_ok-sent.ensures.left c.in_ok-sent.ensures.read c.in_ok-pass_params.ensures.rest
    c.attributes_of-attributes.result c.attributes_of-attributes.ensures c.in_ok-pass_params.ensures.all fault c.in_err-_rest.ensures.value in
    record { value = rw (p.1, p.2) (then-fault _ (λ x rest. Ok (x.1, rest)) fault refused) }

pub returns : goal.returns
returns c =
    let rest = c.in_ok-_rest._rest in
    let whole = all-read c.args.capabilities (cursor_flags c.args.head.now) c.args.params.now c.args.buf c.in_ok-sent.sent c.pass_params.new.sent
    c.in_ok-sent.ensures.left c.in_ok-sent.ensures.read c.in_ok-pass_params.ensures.rest
    c.attributes_of-attributes.result c.attributes_of-attributes.ensures c.in_ok-pass_params.ensures.all rest c.in_ok-_rest.ensures.value in
    record { value = ((rest, c.in_ok-_rest.ensures.value), rest, ap (λ r. then_read r (λ x rest. Ok (x.1, rest))) whole) }
