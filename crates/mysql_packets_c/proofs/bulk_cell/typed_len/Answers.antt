use Rattle.mysql_values.specs.TypedValue.{typed_bytes}
use Rattle.mysql_values.specs.ValueRef.{ref_content}
use Rattle.mysql_packets_c.proofs.BulkCells.{given-len, given-some}
use Rattle.mysql_packets_c.proofs.bulk_cell.typed_len.Goals as goal

pub returns : goal.returns
returns c =
    let t = c.args.param_type in
    let content = ref_content c.args.value in
    let bytes = typed_bytes c.in_ok-typed.typed in
    let some = c.in_ok-typed.ensures.value in
    ((given-some t content bytes some).0, given-len t content bytes c.defined_len.result c.saturating_add.result some c.defined_len.ensures c.saturating_add.ensures)
