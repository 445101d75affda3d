use Rattle.std.proofs.Common.{◌≡◌, ◌≢◌, [], Bool, sym, ◌∙◌, subst, arith, rules}
use Rattle.std.proofs.lemmas.Result.{err_from_is_err_and}
use Rattle.mysql_wire.specs.Reading.{Faults}
use Rattle.mysql_wire.proofs.AllRead.{one-further, all-read, fault-read, empty-read}
use Rattle.mysql_wire.proofs.ReadAll.{tail-shorter}
use Rattle.mysql_wire.proofs.many.check_all.Goals as goal

pub returns-in_err-_value-clause-err : goal.returns-in_err-_value-clause-err
returns-in_err-_value-clause-err g c =
    let f = g.T.MyDeserialize.form tt in
    let p = err_from_is_err_and c.from_residual.result c.from_residual.ensures.1 in
    let some : c.loop-rest.rest ≢ [] = search rules in
    let e = c.in_err-_value.field-0.0 in
    let h = subst (λ (b : Bool). Faults b e (f.reads c.loop-rest.rest)) (c.requires.no_memory c.loop-rest.rest) c.in_err-_value.ensures.value in
    rw (p.1, p.2) (fault-read f e c.loop-rest.rest c.args.values some h c.loop-rest.invariant)

pub returns-then-len-before-clause-err : goal.returns-then-len-before-clause-err
returns-then-len-before-clause-err g c =
    let some : c.loop-rest.rest ≢ [] = search rules in
    empty-read (g.T.MyDeserialize.form tt) c.in_ok-_value._value c.loop-rest.rest c.parse.new.self c.args.values some (sym c.len.ensures ∙ c.if-len-before.true ∙ c.len-before.ensures) c.in_ok-_value.ensures.value c.loop-rest.invariant

pub loop-rest-preserved : goal.loop-rest-preserved
loop-rest-preserved g c =
    let shorter = tail-shorter c.parse.new.self c.loop-rest.rest c.parse.ensures.tail (omega (arith, c.len.ensures, c.len-before.ensures, c.if-len-before.false)) in
    one-further (g.T.MyDeserialize.form tt) c.in_ok-_value._value c.loop-rest.rest c.parse.new.self c.args.values shorter c.in_ok-_value.ensures.value c.loop-rest.invariant

pub returns-clause-ok : goal.returns-clause-ok
returns-clause-ok g c =
    let none : c.loop-rest.rest ≡ [] = search rules in
    all-read (g.T.MyDeserialize.form tt) c.loop-rest.rest c.args.values none c.loop-rest.invariant
