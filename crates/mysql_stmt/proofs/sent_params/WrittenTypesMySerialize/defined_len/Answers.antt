use Rattle.std.proofs.Common.{◌≡◌, false, rules, arith}
use Rattle.mysql_wire.specs.Writing.{saturated}
use Rattle.mysql_stmt.proofs.SentBytes.{length-unnamed}
use Rattle.mysql_stmt.proofs.sent_params.WrittenTypesMySerialize.defined_len.Goals as goal

pub returns-then-not-self : goal.returns-then-not-self
unfolding saturated
returns-then-not-self g c =
    let unnamed : c.args.self.now.has_names ≡ false = search rules in
    omega (arith, length-unnamed g.V.AsExecuteParam.param g.V.AsExecuteParam.named_type c.args.self.now.has_names c.args.self.now.items.now unnamed, c.saturating_mul.ensures)
