use Rattle.std.proofs.Common.{is_ok, sym, subst}
use Rattle.mysql_statements.specs.Bounds.{IsWithin}
use Rattle.mysql_statements.proofs.Bounds.{within_after}
use Rattle.mysql_statements.proofs.table.Statements.take.Goals as goal

pub returns-clause-within : goal.returns-clause-within
returns-clause-within c = λ h. subst IsWithin (sym c.change.ensures.0) (within_after (is_ok c.change.result) c.args.agreed c.args.kind c.args.payload.now c.args.self.now h)
