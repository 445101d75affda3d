use Rattle.std.proofs.Common.{◌∙◌, ◌++◌, ◌≤◌, List, ℕ, ap, arith, drop, length, refl, rules, sym}
use Rattle.mysql_packets_c.proofs.SetTexts.{all-texts, next-after, next-fits, next-held, next-last}
use Rattle.mysql_packets_c.proofs.set_text.SetTextMySerialize.append.Goals as goal

pub append-requires : goal.append-requires
append-requires g c =
    let inv = c.loop-sid.invariant in
    next-fits c.args.self.now.0.now c.loop-sid.sid-index _ _ c.loop-sid-test.true refl _ inv.before (g.O.Buffer.held c.args.out.now) (g.O.Buffer.held c.loop-sid.bytes) (g.O.Buffer.capacity c.args.out.now) (g.O.Buffer.capacity c.loop-sid.bytes) inv.items inv.capacity c.requires

pub loop-sid-preserved : goal.loop-sid-preserved
loop-sid-preserved g c =
    let list = c.args.self.now.0.now in
    let k = c.loop-sid.sid-index in
    let inv = c.loop-sid.invariant in
    record {
      before = sym (next-last list k _ _ c.loop-sid-test.true refl);
      items = next-held list k _ _ c.loop-sid-test.true refl _ inv.before (g.O.Buffer.held c.args.out.now) (g.O.Buffer.held c.loop-sid.bytes) (g.O.Buffer.held c.append.new.out) inv.items c.append.ensures.items;
      after = next-after list k _ _ c.loop-sid-test.true refl _ inv.before (g.O.Buffer.after c.args.out.now) (g.O.Buffer.after c.loop-sid.bytes) (g.O.Buffer.after c.append.new.out) inv.after c.append.ensures.after;
      capacity = search rules;
      kept = c.append.ensures.kept ∙ inv.kept;
    }

pub returns-clause-items : goal.returns-clause-items
returns-clause-items g c =
    let list = c.args.self.now.0.now in
    let past : length list ≤ c.loop-sid.sid-index = omega (arith, c.loop-sid-test.false) in
    c.loop-sid.invariant.items ∙ ap (λ (t : List ℕ). g.O.Buffer.held c.args.out.now ++ t) (all-texts list c.loop-sid.sid-index past)

pub returns-clause-after : goal.returns-clause-after
returns-clause-after g c =
    let list = c.args.self.now.0.now in
    let past : length list ≤ c.loop-sid.sid-index = omega (arith, c.loop-sid-test.false) in
    c.loop-sid.invariant.after ∙ ap (λ (t : List ℕ). drop (length t) (g.O.Buffer.after c.args.out.now)) (all-texts list c.loop-sid.sid-index past)
