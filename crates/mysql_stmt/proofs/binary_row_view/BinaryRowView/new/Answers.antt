use Rattle.std.proofs.Common.{rules, arith, sym, ◌+◌, ◌*◌, ◌<◌, length}
use Rattle.mysql_stmt.specs.RowView.{ref_cell}
use Rattle.mysql_stmt.proofs.NullBits.{has-bits}
use Rattle.mysql_stmt.proofs.RowViews.{all-values}
use Rattle.mysql_stmt.proofs.binary_row_view.BinaryRowView.new.Goals as goal

pub invariant_of-result : goal.invariant_of-result
invariant_of-result g c =
    let offset = g.S.SerializationSide.BIT_OFFSET in
    record {
      bits = λ i lt. let h : i + offset < 8 * length c.in_ok-nulls.nulls.bytes = has-bits offset _ c.in_ok-nulls.nulls _ _ c.in_ok-nulls.ensures.value i lt in omega (arith, h);
      clear = search rules;
      counted = search rules;
    }

pub returns-clause-read : goal.returns-clause-read
returns-clause-read g c =
    let cells = ref_cell g.C.TypedColumn.type_of g.C.TypedColumn.unsigned c.in_ok-nulls.nulls.bytes g.S.SerializationSide.BIT_OFFSET in
    rw (c.in_ok-_header.ensures.value, c.in_ok-nulls.ensures.value) (sym (all-values cells 0 c.args.columns.now c.deserialize.new.buf))
