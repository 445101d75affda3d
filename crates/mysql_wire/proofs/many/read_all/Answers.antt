use Rattle.std.proofs.Common.{◌≡◌, ◌≢◌, [], IsTrue, sym, ◌∙◌, arith, rules}
use Rattle.std.proofs.lemmas.Result.{err_from_is_err_and}
use Rattle.mysql_wire.specs.Many.{many, many_asks}
use Rattle.mysql_wire.proofs.ReadAll.{one-more, no-more, takes-none, one-fails-as, many-asks-read, many-asks-more, tail-shorter}
use Rattle.mysql_wire.proofs.many.read_all.Goals as goal

pub returns-in_err-item-clause-value : goal.returns-in_err-item-clause-value
returns-in_err-item-clause-value g c =
    let f = g.T.MyDeserialize.form tt in
    let p = err_from_is_err_and c.from_residual.result c.from_residual.ensures.1 in
    let some : c.loop-rest.rest ≢ [] = search rules in
    let takes = g.T.MyDeserialize.takes_memory tt in
    let asked : IsTrue (takes c.loop-rest.rest) → IsTrue (many_asks takes f c.rest-rest.result) = λ h. c.loop-rest.invariant.asked (many-asks-more takes f c.loop-rest.rest some h) in
    rw (p.1, p.2, ← c.rest-rest.ensures) (one-fails-as f c.loop-rest.items.items c.loop-rest.rest ((many f).reads c.rest-rest.result) c.loop-rest.invariant.so_far _ _ c.in_err-item.field-0.0 some asked c.in_err-item.ensures.value)

pub returns-then-len-before-clause-value : goal.returns-then-len-before-clause-value
returns-then-len-before-clause-value g c =
    let f = g.T.MyDeserialize.form tt in
    let some : c.loop-rest.rest ≢ [] = search rules in
    rw (← c.rest-rest.ensures) (takes-none f c.loop-rest.items.items c.loop-rest.rest _ c.loop-rest.invariant.so_far c.in_ok-item.item c.parse.new.self some (sym c.len.ensures ∙ c.if-len-before.true ∙ c.len-before.ensures) c.in_ok-item.ensures.value)

pub loop-rest-preserved : goal.loop-rest-preserved
loop-rest-preserved g c =
    let f = g.T.MyDeserialize.form tt in
    let shorter = tail-shorter c.parse.new.self c.loop-rest.rest c.parse.ensures.tail (omega (arith, c.len.ensures, c.len-before.ensures, c.if-len-before.false)) in
    record {
      so_far = rw (c.in_ok-push.ensures.items, c.take_first_capacity.ensures.items) (one-more f c.loop-rest.items.items c.loop-rest.rest _ c.loop-rest.invariant.so_far c.in_ok-item.item c.parse.new.self shorter c.in_ok-item.ensures.value);
      asked = λ _. c.loop-rest.invariant.asked (many-asks-read (g.T.MyDeserialize.takes_memory tt) f c.in_ok-item.item c.loop-rest.rest c.parse.new.self shorter c.in_ok-item.ensures.value);
    }

pub returns-clause-value : goal.returns-clause-value
returns-clause-value g c =
    let f = g.T.MyDeserialize.form tt in
    let none : c.loop-rest.rest ≡ [] = search rules in
    rw (none, ← c.rest-rest.ensures) (no-more f c.loop-rest.items.items c.loop-rest.rest _ c.loop-rest.invariant.so_far none)
