use Rattle.std.proofs.Common.{◌≡◌, ◌∷◌, ap}
use Rattle.std.specs.List.{flat_map}
use Rattle.mysql_packets_c.specs.CheckedParams.{sent_bytes, type_sent}
use Rattle.mysql_packets_c.proofs.Appends.{one-written, piece-fits}
use Rattle.mysql_packets_c.proofs.typed_values.append_all.Goals as goal

pub append_one-requires : goal.append_one-requires
append_one-requires g c =
    let k = c.loop-parameter.invariant in
    let parts : c.loop-parameter.left.items.now ≡ c.in-Some.parameter.now ∷ c.next.new.self.items.now = c.in-Some.ensures in
    record {
      type_fits = piece-fits _ _ k.types (ap (flat_map type_sent) parts) c.requires.type_fits;
      value_fits = piece-fits _ _ k.values (ap (flat_map sent_bytes) parts) c.requires.value_fits;
    }

pub loop-parameter-preserved : goal.loop-parameter-preserved
loop-parameter-preserved g c =
    let k = c.loop-parameter.invariant in
    let parts : c.loop-parameter.left.items.now ≡ c.in-Some.parameter.now ∷ c.next.new.self.items.now = c.in-Some.ensures in
    record { types = one-written k.types (ap (flat_map type_sent) parts) c.append_one.ensures.types; values = one-written k.values (ap (flat_map sent_bytes) parts) c.append_one.ensures.values }
