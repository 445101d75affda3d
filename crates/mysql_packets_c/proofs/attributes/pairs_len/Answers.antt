use Rattle.std.proofs.Common.{rules, ◌≡◌, ◌+◌, length, ap, sym, ◌∙◌, arith}
use Rattle.mysql_auth.specs.Attributes.{pairs_bytes}
use Rattle.mysql_wire.specs.Writing.{saturated}
use Rattle.mysql_packets_c.specs.Attributes.{firsts_from, pair_of}
use Rattle.mysql_packets_c.proofs.MergedNames.{firsts-all, firsts-end, pairs-more, placed-none, placed-some}
use Rattle.mysql_packets_c.proofs.attributes.pairs_len.Goals as goal
use Rattle.mysql_packets_c.proofs.attributes.pairs_len.Goals.{in-Some, in_default}

pub loop-place-init : goal.loop-place-init
unfolding saturated
loop-place-init c = record {
  left = omega (arith, ap (λ pairs. length (pairs_bytes pairs)) (firsts-all c.args.attributes.now));
  small = omega arith;
}

pub loop-place-preserved : goal.loop-place-preserved
unfolding saturated
loop-place-preserved c =
    let attributes = c.args.attributes.now in
    let i = c.loop-place.place in
    elim c.match-first_at.branch [
      | in-Some w ↦
          let pair = w.in-Some.pair in
          let more = placed-some attributes i pair c.first_at.result w.in-Some.is c.first_at.ensures in
          let long : length (pairs_bytes (firsts_from i attributes)) ≡ _ = ap (λ pairs. length (pairs_bytes pairs)) more ∙ pairs-more (pair_of pair) (firsts_from (i + 1) attributes) in
          record {
            left = rw (w.total-is, w.saturating_add-total.ensures, w.defined_len.ensures) (omega (arith, c.loop-place.invariant.left, long));
            small = rw (w.total-is) (omega (arith, w.saturating_add-total.ensures));
          }
      | in_default w ↦
          let same = placed-none attributes i c.first_at.result (search rules) c.first_at.ensures in
          rw (w.total-is) (record {
            left = ap (λ pairs. saturated (c.loop-place.total + length (pairs_bytes pairs))) (sym same) ∙ c.loop-place.invariant.left;
            small = c.loop-place.invariant.small;
          })
    ]

pub returns : goal.returns
unfolding saturated
returns c =
    let none = ap (λ pairs. length (pairs_bytes pairs)) (firsts-end c.args.attributes.now c.loop-place.place (omega (arith, c.loop-place-test.false))) in
    omega (arith, c.loop-place.invariant.left, c.loop-place.invariant.small, none)
