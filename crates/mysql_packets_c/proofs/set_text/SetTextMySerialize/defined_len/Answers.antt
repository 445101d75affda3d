use Rattle.std.proofs.Common.{◌∙◌, ◌≤◌, List, ℕ, ap, arith, length, refl, sym}
use Rattle.mysql_wire.specs.Writing.{saturated}
use Rattle.mysql_packets_c.proofs.SetTexts.{all-texts, next-last, next-total}
use Rattle.mysql_packets_c.proofs.set_text.SetTextMySerialize.defined_len.Goals as goal

pub loop-sid-preserved : goal.loop-sid-preserved
loop-sid-preserved c =
    let list = c.args.self.now.0.now in
    let k = c.loop-sid.sid-index in
    let inv = c.loop-sid.invariant in
    record {
      before = sym (next-last list k _ _ c.loop-sid-test.true refl);
      total = next-total list k _ _ c.loop-sid-test.true refl _ inv.before c.loop-sid.total c.defined_len.result c.saturating_add-total.result inv.total c.defined_len.ensures c.saturating_add-total.ensures;
    }

pub returns : goal.returns
returns c =
    let list = c.args.self.now.0.now in
    let past : length list ≤ c.loop-sid.sid-index = omega (arith, c.loop-sid-test.false) in
    c.loop-sid.invariant.total ∙ ap (λ (t : List ℕ). saturated (length t)) (all-texts list c.loop-sid.sid-index past)
