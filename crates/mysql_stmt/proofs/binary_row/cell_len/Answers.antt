use Rattle.std.proofs.Common.{sym, ◌∙◌}
use Rattle.mysql_stmt.proofs.RowBytes.{integer-saturated}
use Rattle.mysql_stmt.proofs.binary_row.cell_len.Goals as goal

pub returns-in-Int : goal.returns-in-Int
returns-in-Int c = rw (c.in-Int.is) (c.integer_size.ensures ∙ sym (integer-saturated c.args.column_type c.in-Int.field-0))
