use Rattle.std.proofs.Common.{length}
use Rattle.std.specs.List.{flat_map}
use Rattle.mysql_packets_c.specs.CheckedParams.{sent_bytes, type_sent}
use Rattle.mysql_packets_c.proofs.Appends.{IsLeft}
use Rattle.mysql_packets_c.proofs.typed_values.append_all.Given as goal

abbrev pub invariant-loop-parameter : goal.invariant-loop-parameter
invariant-loop-parameter g l = record {
  types : IsLeft g.T.Buffer.held g.T.Buffer.after g.T.Buffer.capacity g.T.Buffer.kept (flat_map type_sent l.items) (flat_map type_sent l.left.items.now) l.fn.types l.types_taken;
  values : IsLeft g.V.Buffer.held g.V.Buffer.after g.V.Buffer.capacity g.V.Buffer.kept (flat_map sent_bytes l.items) (flat_map sent_bytes l.left.items.now) l.fn.values l.values_taken;
}

abbrev pub decreases-loop-parameter : goal.decreases-loop-parameter
decreases-loop-parameter g l = length l.left.items.now
