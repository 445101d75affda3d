use Rattle.std.proofs.Common.{◌≡◌, List, length, sym, subst}
use Rattle.mysql_stmt.specs.SentTypes.{NamedType}
use Rattle.mysql_stmt.proofs.SentTypes.{how-many}
use Rattle.mysql_stmt.proofs.sent_types.SentParamTypes.left.Goals as goal

pub returns : goal.returns
returns c =
    let v = c.self.inside in
    record { value = subst (λ (ts : List NamedType). v.left ≡ length ts) c.self.view_is (sym (how-many v.has_names v.left v.bytes c.self.invariant)) }
