use Rattle.std.proofs.Common.{◌≡◌, length, get_or, take, ap, ◌∙◌, arith}
use Rattle.std.specs.List.{flat_map}
use Rattle.std.proofs.lemmas.List.{length-append}
use Rattle.std.proofs.lemmas.List.Folds.{length-flat_map-take}
use Rattle.mysql_repl.specs.Sid.{sid_as}
use Rattle.mysql_repl.proofs.sid_block.SidBlock.append_each.Goals as goal

pub append-requires : goal.append-requires
append-requires g c =
    let bytes = (sid_as c.args.tagged).bytes in
    let sids = c.args.self.now.0.now in
    let sid = c.sid-item.result in
    let fits = length-flat_map-take bytes sids c.loop-sid.sid-index sid c.loop-sid-test.true in
    let this : length (bytes sid) ≡ length (bytes (get_or sids c.loop-sid.sid-index sid)) = ap (λ x. length (bytes x)) c.sid-item.is in
    let so_far = ap length c.loop-sid.invariant.items ∙ length-append (g.O.Buffer.held c.args.out.now) (flat_map bytes (take c.loop-sid.sid-index sids)) in
    omega (arith, fits, this, so_far, c.loop-sid.invariant.capacity, c.requires)
