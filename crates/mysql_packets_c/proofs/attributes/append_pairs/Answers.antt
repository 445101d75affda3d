use Rattle.std.proofs.Common.{rules, ◌≡◌, ◌≤◌, ◌+◌, ◌++◌, drop, length, refl, ap, sym, arith}
use Rattle.mysql_auth.specs.Attributes.{attribute, pairs_bytes}
use Rattle.mysql_packets_c.specs.Attributes.{firsts_from, pair_of}
use Rattle.mysql_packets_c.proofs.Appends.{all-written, one-written, piece-fits, same-left}
use Rattle.mysql_packets_c.proofs.MergedNames.{firsts-all, firsts-end, placed-none, placed-some}
use Rattle.mysql_packets_c.proofs.attributes.append_pairs.Goals as goal
use Rattle.mysql_packets_c.proofs.attributes.append_pairs.Goals.{in-Some, in_default}

pub loop-place-init : goal.loop-place-init
loop-place-init g c = record {
  items = ap (λ pairs. g.O.Buffer.held c.args.out.now ++ pairs_bytes pairs) (firsts-all c.args.attributes.now);
  after = ap (λ pairs. drop (length (pairs_bytes pairs)) (g.O.Buffer.after c.args.out.now)) (firsts-all c.args.attributes.now);
  capacity = omega arith;
  kept = refl;
}

pub append-requires : goal.append-requires
append-requires g c =
    let more = placed-some c.args.attributes.now c.loop-place.place c.in-Some.pair c.first_at.result c.in-Some.is c.first_at.ensures in
    piece-fits (attribute.bytes (pair_of c.in-Some.pair)) _ c.loop-place.invariant (ap pairs_bytes more) c.requires

pub loop-place-preserved : goal.loop-place-preserved
loop-place-preserved g c =
    let attributes = c.args.attributes.now in
    let i = c.loop-place.place in
    elim c.match-first_at.branch [
      | in-Some w ↦
          let more = placed-some attributes i w.in-Some.pair c.first_at.result w.in-Some.is c.first_at.ensures in
          let parts : pairs_bytes (firsts_from i attributes) ≡ attribute.bytes (pair_of w.in-Some.pair) ++ pairs_bytes (firsts_from (i + 1) attributes) = ap pairs_bytes more in
          let e = w.append.ensures in
          rw (w.out-is) (one-written c.loop-place.invariant parts (record { items = e.items; after = e.after; capacity = e.capacity; kept = e.kept }))
      | in_default w ↦ rw (w.out-is) (same-left c.loop-place.invariant (ap pairs_bytes (placed-none attributes i c.first_at.result (search rules) c.first_at.ensures)))
    ]

pub returns : goal.returns
returns g c = all-written c.loop-place.invariant (ap pairs_bytes (firsts-end c.args.attributes.now c.loop-place.place (omega (arith, c.loop-place-test.false))))
