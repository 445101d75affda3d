use Rattle.std.proofs.Common.{◌≡◌, ◌++◌, ◌≤◌, length, take, drop}
use Rattle.std.specs.List.{flat_map}
use Rattle.mysql_wire.proofs.items.append_each.Given as goal

abbrev pub invariant-loop-value : goal.invariant-loop-value
invariant-loop-value g l =
    let written = flat_map g.T.MySerialize.bytes (take l.value-index l.values) in
    record {
      items : g.O.Buffer.held l.out ≡ g.O.Buffer.held l.initial.out ++ written;
      after : g.O.Buffer.after l.out ≡ drop (length written) (g.O.Buffer.after l.initial.out);
      capacity : g.O.Buffer.capacity l.initial.out ≤ g.O.Buffer.capacity l.out;
      kept : g.O.Buffer.kept l.out ≡ g.O.Buffer.kept l.initial.out;
    }
