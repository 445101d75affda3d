use Rattle.std.proofs.Common.{◌≡◌, ◌++◌, ◌≤◌, length, take, drop, None, option_map}
use Rattle.mysql_repl.proofs.GtidSetWritings.{last_from}
use Rattle.mysql_repl.specs.GtidSetWritten.{texts_after}
use Rattle.mysql_packets_c.specs.Sid.{sid_or, sids_or}
use Rattle.mysql_packets_c.proofs.set_text.SetTextMySerialize.append.Given as goal

abbrev pub invariant-loop-sid : goal.invariant-loop-sid
invariant-loop-sid g l =
    record {
      before : option_map (λ t. sid_or t.now) l.before ≡ last_from None (take l.sid-index (sids_or l.self.0.now));
      items : g.O.Buffer.held l.bytes ≡ g.O.Buffer.held l.fn.out ++ texts_after None (take l.sid-index (sids_or l.self.0.now));
      after : g.O.Buffer.after l.bytes ≡ drop (length (texts_after None (take l.sid-index (sids_or l.self.0.now)))) (g.O.Buffer.after l.fn.out);
      capacity : g.O.Buffer.capacity l.fn.out ≤ g.O.Buffer.capacity l.bytes;
      kept : g.O.Buffer.kept l.bytes ≡ g.O.Buffer.kept l.fn.out;
    }
