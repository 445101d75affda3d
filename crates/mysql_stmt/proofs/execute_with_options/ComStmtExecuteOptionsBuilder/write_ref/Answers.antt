use Rattle.std.proofs.Common.{List, ℕ, length, ap, arith, vec_len, vec_capacity}
use Rattle.mysql_wire.specs.Writing.{saturated}
use Rattle.mysql_stmt.specs.ExecuteWithOptions as request
use Rattle.mysql_stmt.specs.SentParam.{sent_params}
use Rattle.mysql_stmt.proofs.ExecutionBytes.{written-is}
use Rattle.mysql_stmt.proofs.execute_with_options.ComStmtExecuteOptionsBuilder.write_ref.Goals as goal

pub append-requires : goal.append-requires
unfolding saturated
append-requires g c =
    let len = ap vec_len c.replace-bytes.ensures.value in
    let capacity = ap vec_capacity c.replace-bytes.ensures.value in
    omega (arith, len, capacity, c.measured-len.ensures.len, c.in_ok-reserve.ensures.ok, c.reserve.new.self.ok, c.replace-bytes.result.ok)

pub returns-in_err-reserve-clause-no_memory : goal.returns-in_err-reserve-clause-no_memory
unfolding saturated
returns-in_err-reserve-clause-no_memory g c = λ fits.
    let asked = request.asked g.A.AsExecuteParam.param g.A.AsExecuteParam.named_type c.args.self (sent_params g.V.AsExecuteParam.param g.V.AsExecuteParam.named_type c.args.params.now) in
    let made = request.execution_of g.V.AsExecuteParam.param g.V.AsExecuteParam.named_type g.A.AsExecuteParam.param g.A.AsExecuteParam.named_type c.measured-len.result.0 in
    let size = ap (λ (l : List ℕ). length l) (written-is asked made (request.as_long_data c.measured-len.result.0) c.measured-len.ensures.made c.measured-len.ensures.as_long_data) in
    absurd (omega (arith, fits, size, c.measured-len.ensures.len, c.in_err-reserve.ensures.full))
