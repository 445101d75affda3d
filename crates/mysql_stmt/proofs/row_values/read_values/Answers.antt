use Rattle.std.proofs.Common.{rules, ◌≡◌, ◌==◌, ◌+◌, ◌++◌, ◌∷◌, [], Ok, Some, Bool, subst}
use Rattle.std.proofs.lemmas.Result.{err_from_is_err_and}
use Rattle.mysql_replies.specs.declared.column.Column.{Column}
use Rattle.mysql_wire.specs.Reading.{then_read}
use Rattle.mysql_wire.proofs.Each.{one-fails, none-left, mapped-fails}
use Rattle.mysql_values.specs.Value.{Content}
use Rattle.mysql_stmt.specs.Bitmap.{cell}
use Rattle.mysql_values.specs.Cells.{held, RefusesValue}
use Rattle.mysql_stmt.specs.RowForm.{bin_cell, bin_value_unless}
use Rattle.mysql_stmt.proofs.NullBits.{is-one}
use Rattle.mysql_stmt.proofs.RowMemory.{some_any}
use Rattle.mysql_stmt.proofs.PutCells.{next-put}
use Rattle.mysql_stmt.proofs.row_values.read_values.Goals as goal

pub is_null_at-requires-clause-there : goal.is_null_at-requires-clause-there
is_null_at-requires-clause-there g c = c.requires c.loop-i.i c.loop-i-test.true

pub returns-in_err-put_cell-clause-value : goal.returns-in_err-put_cell-clause-value
returns-in_err-put_cell-clause-value g c =
    let offset = g.S.SerializationSide.BIT_OFFSET in
    let test = is-one c.is_null_at.result (cell c.args.nulls.now.bytes (c.loop-i.i + offset)) c.is_null_at.ensures.value in
    let fault = c.in_err-put_cell.field-0.0 in
    let known = subst (λ (b : Bool). RefusesValue fault ((bin_value_unless b c.index-columns-i.result).reads c.loop-i.rest)) test c.in_err-put_cell.ensures.refused in
    let here = subst (λ (column : Column). RefusesValue fault ((bin_value_unless (cell c.args.nulls.now.bytes (c.loop-i.i + offset) == 1) column).reads c.loop-i.rest)) c.index-columns-i.is known in
    let p = err_from_is_err_and c.from_residual-in_err-put_cell.result c.from_residual-in_err-put_cell.ensures.1 in
    rw (p.1, p.2, some_any _ _ c.loop-i-test.true) (one-fails (bin_cell c.args.nulls.now.bytes offset) (held c.loop-i.cells.items) c.args.columns.now c.loop-i.i c.loop-i.rest _ c.loop-i.invariant.so_far c.index-columns-i.result _ fault
    c.loop-i-test.true (mapped-fails (λ (v : Content). Some v) _ fault _ here))

pub loop-i-preserved : goal.loop-i-preserved
loop-i-preserved g c =
    let offset = g.S.SerializationSide.BIT_OFFSET in
    let test = is-one c.is_null_at.result (cell c.args.nulls.now.bytes (c.loop-i.i + offset)) c.is_null_at.ensures.value in
    let Put : Bool → Column → Type 0 = λ (b : Bool) (column : Column). then_read ((bin_value_unless b column).reads c.loop-i.rest) (λ v left. Ok (held c.loop-i.cells.items ++ Some v ∷ [], left)) ≡ Ok (held c.put_cell.new.cells.items, c.put_cell.new.buf) in
    let known = subst (λ (b : Bool). Put b c.index-columns-i.result) test c.in_ok-put_cell.ensures.put in
    let here = subst (λ (column : Column). Put (cell c.args.nulls.now.bytes (c.loop-i.i + offset) == 1) column) c.index-columns-i.is known in
    record {
      so_far = next-put c.args.nulls.now.bytes offset (held c.loop-i.cells.items) c.args.columns.now c.loop-i.i c.loop-i.rest _ c.loop-i.invariant.so_far c.index-columns-i.result (held c.put_cell.new.cells.items) c.put_cell.new.buf
          c.loop-i-test.true here;
      count = search rules;
      within = search rules;
      capacity = search rules;
    }

pub returns-clause-value : goal.returns-clause-value
returns-clause-value g c =
    none-left (bin_cell c.args.nulls.now.bytes g.S.SerializationSide.BIT_OFFSET) (held c.loop-i.cells.items) c.args.columns.now c.loop-i.i c.loop-i.rest _ c.loop-i.invariant.so_far c.loop-i-test.false
