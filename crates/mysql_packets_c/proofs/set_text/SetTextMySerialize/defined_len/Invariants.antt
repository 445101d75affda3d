use Rattle.std.proofs.Common.{◌≡◌, length, take, None, option_map}
use Rattle.mysql_repl.proofs.GtidSetWritings.{last_from}
use Rattle.mysql_repl.specs.GtidSetWritten.{texts_after}
use Rattle.mysql_wire.specs.Writing.{saturated}
use Rattle.mysql_packets_c.specs.Sid.{sid_or, sids_or}
use Rattle.mysql_packets_c.proofs.set_text.SetTextMySerialize.defined_len.Given as goal

abbrev pub invariant-loop-sid : goal.invariant-loop-sid
invariant-loop-sid l =
    record {
      before : option_map (λ t. sid_or t.now) l.before ≡ last_from None (take l.sid-index (sids_or l.self.0.now));
      total : l.total ≡ saturated (length (texts_after None (take l.sid-index (sids_or l.self.0.now))));
    }
