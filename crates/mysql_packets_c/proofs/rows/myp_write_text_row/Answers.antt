use Rattle.std.proofs.Common.{◌≡◌, ◌<◌, ◌≤◌, ◌^◌, ◌++◌, length, drop, ◌∙◌, arith}
use Rattle.std.proofs.lemmas.List.{length-take-le}
use Rattle.mysql_wire.specs.Writing.{saturated}
use Rattle.mysql_stmt.specs.TextRow.{text_row_bytes}
use Rattle.mysql_packets_c.specs.Rows.{cells_of}
use Rattle.mysql_packets_c.proofs.WrittenRows.{puts-counted}
use Rattle.mysql_packets_c.proofs.rows.myp_write_text_row.Goals as goal
use Rattle.mysql_packets_c.proofs.rows.myp_write_text_row.Goals.{then-len-out, else-len-out}

pub put_cells-requires : goal.put_cells-requires
unfolding saturated
put_cells-requires c =
    let below : length c.args.out.now < 2 ^ 63 = omega arith in
    let whole : c.in-Some.len ≡ length (text_row_bytes (cells_of c.args.values.now)) = omega (arith, c.in-Some.ensures.1, c.if-len-out.true, below) in
    length-take-le c.in-Some.len c.args.out.now c.if-len-out.true ∙ whole

pub returns-clause-value : goal.returns-clause-value
returns-clause-value c = λ h.
    let bytes = text_row_bytes (cells_of c.args.values.now) in
    let len = c.in-Some.len in
    let old = c.args.out.now in
    let new = c.if-len-out.out in
    let same : length new ≡ length old = c.if-len-out.auto.out in
    let below : length old < 2 ^ 63 = omega arith in
    let wrote : (len ≤ length old → new ≡ bytes ++ drop len old) × (length old < len → new ≡ old) =
    elim c.if-len-out.branch [
      | then-len-out w ↦ (λ fits. rw (w.put_cells.ensures) at w.out-is, λ past. absurd (omega (arith, past, w.if-len-out.true)))
      | else-len-out w ↦ (λ fits. absurd (omega (arith, fits, w.if-len-out.false)), λ past. w.out-is)
    ] in
    puts-counted bytes len c.answer_count.result old new c.answer_count.new.written
    c.in-Some.ensures.1 below wrote.0 wrote.1
    (λ few fits. c.answer_count.ensures.fits few (omega (arith, fits, same)))
    (λ few past. c.answer_count.ensures.small few (omega (arith, past, same)))
    c.answer_count.ensures.count
    c.answer_count.ensures.too_long
