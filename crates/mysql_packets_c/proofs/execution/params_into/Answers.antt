use Rattle.std.proofs.Common.{◌≡◌, ◌∙◌, ℕ, Bool, ap, if◌then◌else◌, length, subst, sym, take}
use Rattle.std.proofs.lemmas.List.{length-map}
use Rattle.std.proofs.lemmas.Result.{err_from_is_err_and}
use Rattle.mysql_stmt.specs.Attributes.{attributes_read}
use Rattle.mysql_stmt.specs.ExecuteHead.{cursor_flags}
use Rattle.mysql_stmt.specs.ExecuteRead.{execution_front}
use Rattle.mysql_packets_c.specs.Execution.{HoldsParams, bound_list, bound_of, last_left, sends_types}
use Rattle.mysql_packets_c.proofs.Executions.{all-held, all-read, attributes-refused, counted-attributes, front-refused, front-sends, good-filled, params-refused}
use Rattle.mysql_packets_c.proofs.execution.params_into.Goals as goal

pub returns-in_err-sent-clause-places : goal.returns-in_err-sent-clause-places
returns-in_err-sent-clause-places c =
    front-refused c.args.capabilities (cursor_flags c.args.head.now) c.args.params.now c.args.buf c.args.values.now c.args.types.now c.in_err-sent.field-0.0 c.in_err-sent.ensures.refused

pub returns-in_err-fill_params-clause-value : goal.returns-in_err-fill_params-clause-value
returns-in_err-fill_params-clause-value c =
    let p = err_from_is_err_and c.from_residual-in_err-fill_params.result c.from_residual-in_err-fill_params.ensures.1 in
    rw (p.1, p.2)
    (params-refused c.args.capabilities (cursor_flags c.args.head.now) c.args.params.now c.args.buf c.in_ok-sent.sent c.fill_params.new.sent
    c.in_ok-sent.ensures.left c.in_ok-sent.ensures.read c.in_err-fill_params.ensures.good.rest c.in_err-fill_params.field-0.0 c.in_err-fill_params.ensures.refused)

pub returns-in_err-fill_params-clause-places : goal.returns-in_err-fill_params-clause-places
returns-in_err-fill_params-clause-places c =
    good-filled c.args.capabilities (cursor_flags c.args.head.now) c.args.params.now c.args.buf c.args.values.now c.fill_params.new.values c.args.types.now c.fill_params.new.types c.in_ok-sent.sent c.fill_params.new.sent
    c.in_ok-sent.ensures.front c.requires.types c.in_err-fill_params.ensures.good c.in_err-fill_params.ensures.refused.0

pub returns-in_err-rest-clause-value : goal.returns-in_err-rest-clause-value
returns-in_err-rest-clause-value c =
    let p = err_from_is_err_and c.from_residual-in_err-rest.result c.from_residual-in_err-rest.ensures.1 in
    rw (p.1, p.2)
    (attributes-refused c.args.capabilities (cursor_flags c.args.head.now) c.args.params.now c.args.buf c.in_ok-sent.sent c.fill_params.new.sent
    c.in_ok-sent.ensures.left c.in_ok-sent.ensures.read c.in_ok-fill_params.ensures.good.rest
    c.attributes_of-attributes.result c.attributes_of-attributes.ensures c.in_ok-fill_params.ensures.all.0 c.in_err-rest.field-0.0 c.in_err-rest.ensures.value)

pub returns-in_err-rest-clause-places : goal.returns-in_err-rest-clause-places
returns-in_err-rest-clause-places c =
    good-filled c.args.capabilities (cursor_flags c.args.head.now) c.args.params.now c.args.buf c.args.values.now c.fill_params.new.values c.args.types.now c.fill_params.new.types c.in_ok-sent.sent c.fill_params.new.sent
    c.in_ok-sent.ensures.front c.requires.types c.in_ok-fill_params.ensures.good c.in_ok-fill_params.ensures.all.1

pub returns-clause-places : goal.returns-clause-places
returns-clause-places c =
    good-filled c.args.capabilities (cursor_flags c.args.head.now) c.args.params.now c.args.buf c.args.values.now c.fill_params.new.values c.args.types.now c.fill_params.new.types c.in_ok-sent.sent c.fill_params.new.sent
    c.in_ok-sent.ensures.front c.requires.types c.in_ok-fill_params.ensures.good c.in_ok-fill_params.ensures.all.1

pub returns-clause-value : goal.returns-clause-value
returns-clause-value c =
    let ps = c.args.params.now in
    let bound = bound_list ps in
    let sent = c.in_ok-sent.sent in
    let after = c.fill_params.new.sent in
    let values = c.fill_params.new.values in
    let types = c.fill_params.new.types in
    let flags = cursor_flags c.args.head.now in
    let view = c.attributes_of-attributes.result in
    let rest = c.in_ok-rest.rest in
    let len : length bound ≡ length ps = length-map ps bound_of in
    let first = last_left sent ps in
    let held = all-held first (last_left after ps) c.args.values.now values c.args.types.now types c.in_ok-fill_params.ensures.good c.in_ok-fill_params.ensures.all in
    let counted = counted-attributes view after.nulls after.place after.types after.values rest c.attributes_of-attributes.ensures c.in_ok-rest.ensures.value in
    let front = front-sends c.args.capabilities flags (length ps) c.args.buf sent c.in_ok-sent.ensures.front in (
      first.params,
      attributes_read view.all,
      all-read c.args.capabilities flags ps c.args.buf sent after c.in_ok-sent.ensures.left c.in_ok-sent.ensures.read c.in_ok-fill_params.ensures.good.rest
          view c.attributes_of-attributes.ensures c.in_ok-fill_params.ensures.all.0 rest c.in_ok-rest.ensures.value,
      subst (λ (n : ℕ). HoldsParams first.params (take n values) (take n types)) c.in_ok-sent.ensures.left held,
      counted ∙ sym c.left.ensures.value,
      subst (λ (n : ℕ). sends_types ((execution_front c.args.capabilities flags n).reads c.args.buf) ≡ (if c.sends_types-sends_types.result then 1 else 0)) (sym len)
          (front ∙ ap (λ (b : Bool). if b then 1 else 0) (sym c.sends_types-sends_types.ensures.value)),
    )
