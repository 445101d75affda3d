use Rattle.std.proofs.Common.{◌≢◌, [], Bool, subst, rules}
use Rattle.mysql_wire.specs.Reading.{Answers}
use Rattle.mysql_wire.proofs.AllRead.{next-taken, others-left, none-left}
use Rattle.mysql_wire.proofs.many.next_item.Goals as goal

pub returns-then-is_empty-clause-next : goal.returns-then-is_empty-clause-next
returns-then-is_empty-clause-next g c = none-left (g.T.MyDeserialize.form tt) c.args.values.now (search rules)

pub returns-clause-next : goal.returns-clause-next
returns-clause-next g c =
    let f = g.T.MyDeserialize.form tt in
    let bytes = c.args.values.now in
    let some : bytes ≢ [] = search rules in
    let h = subst (λ (b : Bool). Answers b c.parse.result c.parse.new.self (f.reads bytes)) (c.requires.no_memory bytes) c.parse.ensures.value in
    next-taken f bytes c.parse.new.self c.parse.result c.ok.result c.ok.ensures.value some c.requires.items h

pub returns-clause-others : goal.returns-clause-others
returns-clause-others g c =
    let f = g.T.MyDeserialize.form tt in
    let bytes = c.args.values.now in
    let some : bytes ≢ [] = search rules in
    let h = subst (λ (b : Bool). Answers b c.parse.result c.parse.new.self (f.reads bytes)) (c.requires.no_memory bytes) c.parse.ensures.value in
    others-left f bytes c.parse.new.self c.parse.result some c.requires.items h
