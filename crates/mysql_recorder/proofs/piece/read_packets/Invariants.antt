use Rattle.std.proofs.Common.{◌≡◌, ◌+◌, List, length, string_bytes}
use Rattle.mysql_show.specs.Appended.{Stays}
use Rattle.mysql_recorder.specs.Frames.{IsNumbered}
use Rattle.mysql_recorder.specs.Shown.{Item}
use Rattle.mysql_recorder.specs.Sides.{IsAt, Reads, options}
use Rattle.mysql_recorder.proofs.piece.read_packets.Given as goal

abbrev pub invariant-packets : goal.invariant-packets
invariant-packets l = record {
  passed : l.stream.passed ≡ l.fn.stream.passed;
  options : options l.packets ≡ options l.fn.packets;
  stays : Stays (string_bytes l.fn.out) (string_bytes l.out);
  numbered : IsNumbered l.fn.stream.reader → IsNumbered l.stream.reader;
  reads : (items : List Item) → IsAt l.fn.stream l.fn.packets items
      → (here : List Item) × Reads l.side l.piece l.input items here l.fn.stream l.stream l.fn.packets l.packets (string_bytes l.fn.out) (string_bytes l.out);
}

abbrev pub decreases-packets : goal.decreases-packets
decreases-packets l = length l.stream.reader.held + length l.input
