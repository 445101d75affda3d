use Rattle.std.proofs.Common.{◌≡◌, Ok, subst}
use Rattle.mysql_stmt.specs.RowView.{RowLeft, ref_cell}
use Rattle.mysql_stmt.proofs.OneByOne.{none-left}
use Rattle.mysql_stmt.proofs.binary_row_view.BinaryRowView.rest.Goals as goal

pub returns-clause-value : goal.returns-clause-value
returns-clause-value g c =
    let f = ref_cell g.C.TypedColumn.type_of g.C.TypedColumn.unsigned c.self.inside.nulls.bytes g.S.SerializationSide.BIT_OFFSET in
    subst (λ (r : RowLeft). r.left ≡ 0 → r.end ≡ Ok c.rest.result) c.self.view_is
    (λ none. rw c.rest.ensures (none-left f c.self.inside.place c.self.inside.columns.now c.self.inside.buf none).1)
