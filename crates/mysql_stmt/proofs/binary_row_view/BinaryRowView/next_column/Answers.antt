use Rattle.std.proofs.Common.{◌∷◌, ap, sym, ◌∙◌}
use Rattle.mysql_stmt.specs.RowView.{ref_cell, row_left}
use Rattle.mysql_stmt.proofs.binary_row_view.BinaryRowView.next_column.Goals as goal

pub returns-clause-column : goal.returns-clause-column
returns-clause-column g c =
    let row = c.self.inside in
    let form = ref_cell g.C.TypedColumn.type_of g.C.TypedColumn.unsigned row.nulls.bytes g.S.SerializationSide.BIT_OFFSET in
    let column = c.in_ok-column.column.now in
    let others = c.in_ok-column._columns.now in (
      row.nulls.bytes,
      row.place,
      others,
      sym c.self.view_is ∙ ap (λ columns. row_left form row.place columns row.buf) c.in_ok-column.ensures.cases.0 ∙ ap (λ bytes. row_left form row.place (column ∷ others) bytes) (ap (λ left. left.rest) c.self.view_is),
    )
