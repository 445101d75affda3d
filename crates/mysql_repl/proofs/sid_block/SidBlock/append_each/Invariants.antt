use Rattle.std.proofs.Common.{◌≡◌, ◌++◌, ◌≤◌, length, take, drop}
use Rattle.std.specs.List.{flat_map}
use Rattle.mysql_repl.specs.Sid.{sid_as}
use Rattle.mysql_repl.proofs.sid_block.SidBlock.append_each.Given as goal

abbrev pub invariant-loop-sid : goal.invariant-loop-sid
invariant-loop-sid g l =
    record {
      items : g.O.Buffer.held l.out ≡ g.O.Buffer.held l.initial.out ++ flat_map (sid_as l.tagged).bytes (take l.sid-index l.sid-items);
      after : g.O.Buffer.after l.out ≡ drop (length (flat_map (sid_as l.tagged).bytes (take l.sid-index l.sid-items))) (g.O.Buffer.after l.initial.out);
      capacity : g.O.Buffer.capacity l.initial.out ≤ g.O.Buffer.capacity l.out;
      kept : g.O.Buffer.kept l.out ≡ g.O.Buffer.kept l.initial.out;
    }
