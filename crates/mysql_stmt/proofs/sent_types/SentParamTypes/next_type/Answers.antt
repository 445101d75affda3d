use Rattle.std.proofs.Common.{◌≡◌, ◌∙◌, [], length, ap, sym}
use Rattle.mysql_stmt.proofs.SentTypes.{how-many, none-in}
use Rattle.mysql_stmt.proofs.sent_types.SentParamTypes.next_type.Goals as goal

pub returns-then-self-eq0 : goal.returns-then-self-eq0
returns-then-self-eq0 c =
    let v = c.self.inside in
    let none : c.args.self.now ≡ [] = sym c.self.view_is ∙ none-in v.has_names v.left v.bytes c.if-self-eq0.true in
    record { value = (none, none) }

pub take_type-requires : goal.take_type-requires
take_type-requires c =
    let v = c.self.inside in
    record { some = λ e. c.if-self-eq0.false (sym (how-many v.has_names v.left v.bytes c.self.invariant) ∙ ap length (c.self.view_is ∙ e)) }
