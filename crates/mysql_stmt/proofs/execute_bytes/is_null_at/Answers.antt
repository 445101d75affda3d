use Rattle.mysql_stmt.proofs.Nulls.{cell-clear}
use Rattle.mysql_stmt.proofs.execute_bytes.is_null_at.Goals as goal

pub returns-then-none : goal.returns-then-none
returns-then-none c =
    let clear = cell-clear c.args.nulls.now (c.requires.none c.if-none.true) c.args.place in
    record { value = (λ never. absurd cc, λ one. absurd cc) }
