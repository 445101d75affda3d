use Rattle.std.proofs.Common.{◌≡◌, ◌∙◌, ℕ, List, Ok, ap, subst, take, length}
use Rattle.std.proofs.lemmas.Result.{err_from_is_err_and}
use Rattle.mysql_wire.specs.Reading.{then_read}
use Rattle.mysql_stmt.specs.ExecuteHead.{cursor_flags}
use Rattle.mysql_packets_c.specs.Execution.{last_left}
use Rattle.mysql_packets_c.specs.ExecutionNames.{held, names_of}
use Rattle.mysql_packets_c.proofs.ExecutionNames.{all-names, names-filled, names-without-front}
use Rattle.mysql_packets_c.proofs.Executions.{all-read, attributes-refused, none-left, params-refused, then-fault}
use Rattle.mysql_packets_c.proofs.execution_names.names_after.Goals as goal

pub returns-in_err-fill_names-clause-value : goal.returns-in_err-fill_names-clause-value
returns-in_err-fill_names-clause-value c =
    let p = err_from_is_err_and c.from_residual-in_err-fill_names.result c.from_residual-in_err-fill_names.ensures.1 in
    let fault = c.in_err-fill_names.field-0.0 in
    let refused = params-refused c.args.capabilities (cursor_flags c.args.head.now) c.args.params.now c.args.buf c.in_ok-sent.sent c.fill_names.new.sent
    c.in_ok-sent.ensures.left c.in_ok-sent.ensures.read c.in_err-fill_names.ensures.good.rest fault c.in_err-fill_names.ensures.refused in
    rw (p.1, p.2) (then-fault _ (λ x rest. Ok (names_of x.0, rest)) fault refused)

pub returns-in_err-fill_names-clause-places : goal.returns-in_err-fill_names-clause-places
returns-in_err-fill_names-clause-places c =
    names-filled c.args.capabilities (cursor_flags c.args.head.now) c.args.params.now c.args.buf c.args.names.now c.fill_names.new.names c.in_ok-sent.sent c.fill_names.new.sent
    c.in_ok-sent.ensures.front c.requires c.in_err-fill_names.ensures.good c.in_err-fill_names.ensures.refused.0

pub returns-in_err-_rest-clause-value : goal.returns-in_err-_rest-clause-value
returns-in_err-_rest-clause-value c =
    let p = err_from_is_err_and c.from_residual-in_err-_rest.result c.from_residual-in_err-_rest.ensures.1 in
    let fault = c.in_err-_rest.field-0.0 in
    let refused = attributes-refused c.args.capabilities (cursor_flags c.args.head.now) c.args.params.now c.args.buf c.in_ok-sent.sent c.fill_names.new.sent
    c.in_ok-sent.ensures.left c.in_ok-sent.ensures.read c.in_ok-fill_names.ensures.good.rest
    c.attributes_of-attributes.result c.attributes_of-attributes.ensures c.in_ok-fill_names.ensures.all fault c.in_err-_rest.ensures.value in
    rw (p.1, p.2) (then-fault _ (λ x rest. Ok (names_of x.0, rest)) fault refused)

pub returns-in_err-_rest-clause-places : goal.returns-in_err-_rest-clause-places
returns-in_err-_rest-clause-places c =
    names-filled c.args.capabilities (cursor_flags c.args.head.now) c.args.params.now c.args.buf c.args.names.now c.fill_names.new.names c.in_ok-sent.sent c.fill_names.new.sent
    c.in_ok-sent.ensures.front c.requires c.in_ok-fill_names.ensures.good (none-left c.fill_names.new.sent c.args.params.now c.in_ok-fill_names.ensures.all).none.1

pub returns-clause-value : goal.returns-clause-value
returns-clause-value c =
    let ps = c.args.params.now in
    let sent = c.in_ok-sent.sent in
    let after = c.fill_names.new.sent in
    let names = c.fill_names.new.names in
    let rest = c.in_ok-_rest._rest in
    let first = last_left sent ps in
    let whole = all-read c.args.capabilities (cursor_flags c.args.head.now) ps c.args.buf sent after c.in_ok-sent.ensures.left c.in_ok-sent.ensures.read c.in_ok-fill_names.ensures.good.rest
    c.attributes_of-attributes.result c.attributes_of-attributes.ensures c.in_ok-fill_names.ensures.all rest c.in_ok-_rest.ensures.value in
    let given = all-names first (last_left after ps) c.args.names.now names c.in_ok-fill_names.ensures.good (none-left after ps c.in_ok-fill_names.ensures.all).none in
    let held_all : names_of first.params ≡ held (take (length ps) names) = subst (λ (n : ℕ). names_of first.params ≡ held (take n names)) c.in_ok-sent.ensures.left given in
    (rest, ap (λ r. then_read r (λ x rest. Ok (names_of x.0, rest))) whole ∙ ap (λ (ns : List (List ℕ)). Ok (ns, rest)) held_all)

pub returns-clause-places : goal.returns-clause-places
returns-clause-places c =
    names-filled c.args.capabilities (cursor_flags c.args.head.now) c.args.params.now c.args.buf c.args.names.now c.fill_names.new.names c.in_ok-sent.sent c.fill_names.new.sent
    c.in_ok-sent.ensures.front c.requires c.in_ok-fill_names.ensures.good (none-left c.fill_names.new.sent c.args.params.now c.in_ok-fill_names.ensures.all).none.1

pub returns-in_err-sent-clause-places : goal.returns-in_err-sent-clause-places
returns-in_err-sent-clause-places c =
    names-without-front c.args.capabilities (cursor_flags c.args.head.now) c.args.params.now c.args.buf c.args.names.now c.in_err-sent.field-0.0 c.in_err-sent.ensures.refused
