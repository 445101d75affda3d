use Rattle.std.proofs.Common.{◌≡◌, true, take, Some, string_bytes}
use Rattle.mysql_conversation.specs.declared.packet_kind_tag.TheConstants.PacketKindTag.{ALL}
use Rattle.mysql_show.specs.Appended.{Stays}
use Rattle.mysql_recorder.specs.Lines.{place_after}
use Rattle.mysql_recorder.specs.Losses.{Loses}
use Rattle.mysql_recorder.specs.Recorded.{GoesOn, has_lost, settings}
use Rattle.mysql_recorder.proofs.recording.Recording.push.Given as goal

abbrev pub invariant-loop-byte : goal.invariant-loop-byte
invariant-loop-byte l = record {
  goes : GoesOn (take l.byte-index l.input) l.fn.self l.self (string_bytes l.fn.out) (string_bytes l.out);
  lost : has_lost l.fn.self ≡ true → has_lost l.self ≡ true;
  settings : settings l.self ≡ settings l.fn.self;
  loses : Loses ALL (take l.byte-index l.input) l.fn.self l.self (string_bytes l.fn.out) (string_bytes l.out);
  place : place_after l.fn.self.place (take l.byte-index l.input) ≡ Some l.self.place;
  text : Stays (string_bytes l.fn.out) (string_bytes l.out);
}
