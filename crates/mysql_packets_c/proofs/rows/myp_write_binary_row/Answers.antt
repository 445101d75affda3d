use Rattle.std.proofs.Common.{◌≡◌, ◌<◌, ◌≤◌, ◌^◌, ◌++◌, ℕ, List, length, drop, subst, sym, ap, ◌∙◌, arith}
use Rattle.std.proofs.lemmas.List.{length-take-le}
use Rattle.mysql_wire.specs.Writing.{saturated}
use Rattle.mysql_stmt.specs.BinaryRow.{IsRowBytes, row_len}
use Rattle.mysql_values.specs.Value.{Content}
use Rattle.mysql_packets_c.specs.ColumnType.{type_of, unsigned_of}
use Rattle.mysql_packets_c.specs.Value.{values_contents}
use Rattle.mysql_packets_c.proofs.BinaryRows.{are-values, as-many}
use Rattle.mysql_packets_c.proofs.WrittenRows.{answered-unless, values-sent}
use Rattle.mysql_packets_c.proofs.rows.myp_write_binary_row.Goals as goal
use Rattle.mysql_packets_c.proofs.rows.myp_write_binary_row.Goals.{then-len-out, else-len-out}

pub put_row-requires-clause-sent : goal.put_row-requires-clause-sent
put_row-requires-clause-sent c = values-sent c.args.values.now (are-values c.args.columns.now c.args.values.now c.in-Some.ensures.0)

pub put_row-requires-clause-same : goal.put_row-requires-clause-same
put_row-requires-clause-same c = as-many c.args.columns.now c.args.values.now c.in-Some.ensures.0

pub put_row-requires-clause-len : goal.put_row-requires-clause-len
unfolding saturated
put_row-requires-clause-len c =
    let columns = c.args.columns.now in
    let values = c.args.values.now in
    let sent = values-sent values (are-values columns values c.in-Some.ensures.0) in
    let below : length c.args.out.now < 2 ^ 63 = omega arith in
    let whole : c.in-Some.counted.len ≡ row_len type_of unsigned_of columns (values_contents values) = omega (arith, c.in-Some.ensures.1, c.if-len-out.true, below) in
    length-take-le c.in-Some.counted.len c.args.out.now c.if-len-out.true ∙ whole ∙ ap (row_len type_of unsigned_of columns) (sym sent)

pub returns-clause-value : goal.returns-clause-value
returns-clause-value c = λ h.
    let columns = c.args.columns.now in
    let values = c.args.values.now in
    let len = c.in-Some.counted.len in
    let old = c.args.out.now in
    let new = c.if-len-out.out in
    let code = c.answer_count.result in
    let written = c.answer_count.new.written in
    let sent = values-sent values (are-values columns values c.in-Some.ensures.0) in
    let same : length new ≡ length old = c.if-len-out.auto.out in
    let below : length old < 2 ^ 63 = omega arith in
    let wrote : (len ≤ length old → (bytes : List ℕ) × IsRowBytes type_of unsigned_of columns (values_contents values) bytes × (new ≡ bytes ++ drop len old)) × (length old < len → new ≡ old) =
    elim c.if-len-out.branch [
      | then-len-out w ↦ (
        λ fits. (
          w.put_row.new.out,
          subst (λ (vs : List Content). IsRowBytes type_of unsigned_of columns vs w.put_row.new.out) sent w.put_row.ensures,
          w.out-is,
        ),
        λ past. absurd (omega (arith, past, w.if-len-out.true)),
      )
      | else-len-out w ↦ (λ fits. absurd (omega (arith, fits, w.if-len-out.false)), λ past. w.out-is)
    ] in
    answered-unless (IsRowBytes type_of unsigned_of columns (values_contents values)) (row_len type_of unsigned_of columns (values_contents values)) len code old new written
    c.in-Some.ensures.1 below wrote.0 wrote.1
    (λ few fits. c.answer_count.ensures.fits few (omega (arith, fits, same)))
    (λ few past. c.answer_count.ensures.small few (omega (arith, past, same)))
    c.answer_count.ensures.count
    c.answer_count.ensures.too_long
