use Rattle.std.proofs.Common.{ap, arith}
use Rattle.std.proofs.lemmas.List.{length-map}
use Rattle.mysql_wire.specs.Writing.{saturated}
use Rattle.mysql_stmt.specs.Bitmap.{bytes_for}
use Rattle.mysql_packets_c.specs.Value.{value_content}
use Rattle.mysql_packets_c.proofs.binary_row.row_len.Goals as goal

pub returns : goal.returns
unfolding saturated
returns c =
    let counted = c.in_ok-counted.ensures in
    let same = ap (bytes_for 2) (length-map c.args.values.now value_content) in
    (counted.0, omega (arith, same, counted.1, c.saturating_add.ensures, c.bitmap_len-front.ensures.value), counted.2)
