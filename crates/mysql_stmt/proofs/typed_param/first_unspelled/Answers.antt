use Rattle.std.proofs.Common.{sym, ◌∙◌}
use Rattle.mysql_stmt.proofs.SentBytes.{first-sent}
use Rattle.mysql_stmt.proofs.typed_param.first_unspelled.Goals as goal

pub returns : goal.returns
returns g c = record { value = c.unspelled_at.ensures.value ∙ sym (first-sent g.V.AsExecuteParam.param g.V.AsExecuteParam.named_type c.args.values.now) }
