use Rattle.std.proofs.Common.{subst}
use Rattle.mysql_stmt.specs.RowView.{IsDone, ref_cell}
use Rattle.mysql_stmt.proofs.OneByOne.{none-left}
use Rattle.mysql_stmt.proofs.binary_row_view.BinaryRowView.left.Goals as goal

pub returns-clause-done : goal.returns-clause-done
returns-clause-done g c =
    let f = ref_cell g.C.TypedColumn.type_of g.C.TypedColumn.unsigned c.self.inside.nulls.bytes g.S.SerializationSide.BIT_OFFSET in
    λ none. subst IsDone c.self.view_is (none, (none-left f c.self.inside.place c.self.inside.columns.now c.self.inside.buf none).0)
