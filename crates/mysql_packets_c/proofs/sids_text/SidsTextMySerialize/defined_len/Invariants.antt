use Rattle.std.proofs.Common.{◌≡◌, ◌+◌, ◌<◌, ◌^◌, length}
use Rattle.mysql_repl.specs.GtidSetWritten.{set_text, texts_after}
use Rattle.mysql_wire.specs.Writing.{saturated}
use Rattle.mysql_packets_c.proofs.sids_text.SidsTextMySerialize.defined_len.Given as goal

abbrev pub invariant-loop-sid : goal.invariant-loop-sid
invariant-loop-sid l =
    record {
      total : saturated (l.total + length (texts_after l.before l.sid-iterator)) ≡ saturated (length (set_text l.self.0));
      few : l.total < 2 ^ 64;
    }
