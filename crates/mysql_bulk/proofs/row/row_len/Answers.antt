use Rattle.mysql_bulk.proofs.RequestBytes.{size_of_contents}
use Rattle.mysql_bulk.proofs.row.row_len.Goals as goal

pub returns : goal.returns
returns g c =
    record { value = rw (size_of_contents g.V.RowValue.content c.args.row.now) at c.size_of_values.ensures }
