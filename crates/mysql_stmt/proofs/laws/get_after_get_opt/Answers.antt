use Rattle.mysql_stmt.proofs.Converted.{copied-converts, found-converts}
use Rattle.mysql_stmt.proofs.laws.get_after_get_opt.Goals as goal

pub returns : goal.returns
returns g c = record {
  value = copied-converts g.T.FromValue.Converts g.met.T.FromValue.by_content;
  found = λ index columns cells x one. found-converts g.T.FromValue.Converts g.met.T.FromValue.by_content (g.I.ColumnIndex.Finds index columns) one cells x;
}
