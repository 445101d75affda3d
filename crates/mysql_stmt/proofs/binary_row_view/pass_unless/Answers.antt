use Rattle.std.proofs.Common.{refl}
use Rattle.mysql_values.specs.Value.{NULL}
use Rattle.mysql_stmt.proofs.binary_row_view.pass_unless.Goals as goal

pub returns-then-is_null : goal.returns-then-is_null
returns-then-is_null g c = record { value = (NULL, rw c.if-is_null.true refl, (c.args.buf.now, refl)) }
