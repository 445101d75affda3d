use Rattle.std.proofs.Common.{◌≡◌, ◌≢◌, ◌<◌, ◌≤◌, ◌+◌, ℕ, true, false, nat_eq, length, ap, sym, ◌∙◌, arith}
use Rattle.std.proofs.lemmas.List.{take_all}
use Rattle.mysql_wire.specs.Writing.{saturated}
use Rattle.mysql_stmt.proofs.RowBytes.{bytes-end}
use Rattle.mysql_packets_c.specs.BinaryRow.{has_null}
use Rattle.mysql_packets_c.specs.ColumnType.{type_of, unsigned_of}
use Rattle.mysql_packets_c.specs.Value.{value_content}
use Rattle.mysql_packets_c.proofs.BinaryRows.{fits-end, one-more}
use Rattle.mysql_packets_c.proofs.binary_row.values_len.Goals as goal
use Rattle.mysql_packets_c.proofs.binary_row.values_len.Goals.{then-has_empty, else-has_empty}

pub loop-place-preserved-then-is_longlong : goal.loop-place-preserved-then-is_longlong
unfolding saturated
loop-place-preserved-then-is_longlong c =
    let at = c.loop-place in
    one-more c.args.columns.now c.args.values.now at.place at.len at.has_empty 8 c.saturating_add-len.result at.has_empty
    at.invariant c.loop-place-test.true
    (c.is_longlong.ensures.takes c.if-is_longlong.true) (c.is_longlong.ensures.len c.if-is_longlong.true)
    (omega (arith, c.saturating_add-len.ensures))
    (λ none. (none, λ zero. omega (arith, zero)))

pub loop-place-preserved : goal.loop-place-preserved
unfolding saturated
loop-place-preserved c =
    let at = c.loop-place in
    let more = c.in_ok-more.more in
    let counted : (c.if-has_empty.has_empty ≡ false) → (at.has_empty ≡ false) × (more ≢ 0) =
    elim c.if-has_empty.branch [
      | then-has_empty w ↦ λ none. let both : true ≡ false = sym w.if-has_empty.true ∙ sym w.has_empty-is ∙ none in absurd cc
      | else-has_empty w ↦ λ none. (w.if-has_empty.false, λ zero. let both : true ≡ false = sym (ap (λ (n : ℕ). nat_eq n 0) zero) ∙ sym w.has_empty-is ∙ none in absurd cc)
    ] in
    one-more c.args.columns.now c.args.values.now at.place at.len at.has_empty more c.saturating_add-len-in-loop-place.result c.if-has_empty.has_empty
    at.invariant c.loop-place-test.true
    c.in_ok-more.ensures.0 c.in_ok-more.ensures.1
    (omega (arith, c.saturating_add-len-in-loop-place.ensures))
    counted

pub returns : goal.returns
unfolding saturated
returns c =
    let k = c.loop-place.invariant in
    let columns = c.args.columns.now in
    let values = c.args.values.now in
    let i = c.loop-place.place in
    let past : length values ≤ i = omega (arith, c.loop-place-test.false) in
    let none = ap length (bytes-end type_of unsigned_of value_content columns values i k.lengths past) in
    (k.fits ∙ fits-end columns values i k.lengths past, omega (arith, k.left, k.small, none), λ e. sym (ap has_null (take_all i values past)) ∙ k.nulls e)
