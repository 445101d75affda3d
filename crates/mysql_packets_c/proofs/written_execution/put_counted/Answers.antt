use Rattle.std.proofs.Common.{◌≡◌, ◌≤◌, length, ◌∙◌, arith}
use Rattle.std.proofs.lemmas.List.{length-take-le}
use Rattle.mysql_stmt.specs.Execution.{execution_bytes}
use Rattle.mysql_wire.specs.Writing.{saturated}
use Rattle.mysql_packets_c.specs.CheckedExecution.{plain_of}
use Rattle.mysql_packets_c.proofs.written_execution.put_counted.Goals as goal

pub put_over-requires : goal.put_over-requires
unfolding saturated
put_over-requires c =
    let fits : c.args.len ≤ length c.args.out.now = omega (arith, c.if-out-len.false) in
    let whole : c.args.len ≡ length (execution_bytes (plain_of c.args.execution.now)) = omega (arith, c.requires.counted, c.requires.short) in
    length-take-le c.args.len c.args.out.now fits ∙ whole
