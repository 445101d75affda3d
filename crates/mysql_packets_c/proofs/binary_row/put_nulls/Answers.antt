use Rattle.std.proofs.Common.{List, subst, sym}
use Rattle.mysql_stmt.specs.NullMarks.{MarksNulls}
use Rattle.mysql_values.specs.Value.{Content}
use Rattle.mysql_packets_c.proofs.binary_row.put_nulls.Goals as goal

pub returns : goal.returns
returns c = subst (λ (held : List Content). MarksNulls 2 held c.mark_any.new.nulls) (sym c.requires.sent) c.mark_any.ensures
