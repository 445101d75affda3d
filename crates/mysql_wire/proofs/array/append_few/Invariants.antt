use Rattle.std.proofs.Common.{◌≡◌, ◌++◌, ◌≤◌, take, drop}
use Rattle.mysql_wire.proofs.array.append_few.Given as goal

abbrev pub invariant-loop-byte : goal.invariant-loop-byte
invariant-loop-byte g l =
    record {
      items : g.O.Buffer.held l.out ≡ g.O.Buffer.held l.initial.out ++ take l.byte-index l.fn.bytes;
      after : g.O.Buffer.after l.out ≡ drop l.byte-index (g.O.Buffer.after l.initial.out);
      capacity : g.O.Buffer.capacity l.initial.out ≤ g.O.Buffer.capacity l.out;
      kept : g.O.Buffer.kept l.out ≡ g.O.Buffer.kept l.initial.out;
    }
