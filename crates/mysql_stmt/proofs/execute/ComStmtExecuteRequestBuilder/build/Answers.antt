use Rattle.std.proofs.Common.{◌≤◌, ℕ, sym, subst}
use Rattle.mysql_stmt.specs.ExecuteParams.{params_bytes}
use Rattle.mysql_stmt.specs.Payload.{max_payload}
use Rattle.mysql_stmt.proofs.HeadLength.{length-after_head}
use Rattle.mysql_stmt.proofs.execute.ComStmtExecuteRequestBuilder.build.Goals as goal

pub returns-clause-fits : goal.returns-clause-fits
returns-clause-fits c few =
    subst (λ (n : ℕ). n ≤ max_payload) (sym (length-after_head _ (params_bytes c.in_ok-params.params))) (c.in_ok-params.ensures.fits few)
