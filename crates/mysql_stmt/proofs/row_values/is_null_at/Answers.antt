use Rattle.std.proofs.Common.{◌+◌}
use Rattle.mysql_stmt.proofs.Nulls.{cell-clear}
use Rattle.mysql_stmt.proofs.row_values.is_null_at.Goals as goal

pub returns-then-none : goal.returns-then-none
returns-then-none g c =
    let clear = cell-clear c.args.nulls.now.bytes (c.requires.none c.if-none.true) (c.args.i + g.S.SerializationSide.BIT_OFFSET) in
    record { value = (λ never. absurd cc, λ one. absurd cc) }
