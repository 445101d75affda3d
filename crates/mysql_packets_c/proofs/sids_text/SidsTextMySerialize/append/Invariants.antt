use Rattle.std.proofs.Common.{◌≡◌, ◌++◌, ◌≤◌, length, drop}
use Rattle.mysql_repl.specs.GtidSetWritten.{set_text, texts_after}
use Rattle.mysql_packets_c.proofs.sids_text.SidsTextMySerialize.append.Given as goal

abbrev pub invariant-loop-sid : goal.invariant-loop-sid
invariant-loop-sid g l =
    record {
      items : g.O.Buffer.held l.bytes ++ texts_after l.before l.sid-iterator ≡ g.O.Buffer.held l.fn.out ++ set_text l.self.0;
      after : drop (length (texts_after l.before l.sid-iterator)) (g.O.Buffer.after l.bytes) ≡ drop (length (set_text l.self.0)) (g.O.Buffer.after l.fn.out);
      capacity : g.O.Buffer.capacity l.fn.out ≤ g.O.Buffer.capacity l.bytes;
      kept : g.O.Buffer.kept l.bytes ≡ g.O.Buffer.kept l.fn.out;
    }
