use Rattle.mysql_stmt.proofs.RowViews.{all-text}
use Rattle.mysql_stmt.proofs.text_row_view.TextRowView.new.Goals as goal

pub returns-clause-read : goal.returns-clause-read
returns-clause-read c = all-text c.args.columns c.args.buf
