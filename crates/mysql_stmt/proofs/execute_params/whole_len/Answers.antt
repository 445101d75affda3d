use Rattle.std.proofs.Common.{List, false, length, ap, ◌∙◌, arith}
use Rattle.std.proofs.lemmas.List.{append-nil}
use Rattle.mysql_wire.specs.Writing.{saturated}
use Rattle.mysql_values.specs.Value.{Content, contents_of}
use Rattle.mysql_stmt.specs.ExecuteParams.{values_bytes}
use Rattle.mysql_stmt.specs.NullMarks.{bitmap_of}
use Rattle.mysql_stmt.proofs.execute_params.whole_len.Goals as goal

pub returns : goal.returns
unfolding saturated
returns c =
    let values = c.args.params.now in
    let size = ap length c.sent.ensures.value ∙ ap (λ (l : List Content). length (values_bytes (bitmap_of l) false values)) (append-nil (contents_of values)) in
    omega (arith, c.saturating_add.ensures, c.defined_len.ensures, size)
