use Rattle.std.proofs.Common.{[], inl, refl, sym, ap}
use Rattle.mysql_conversation.specs.declared.packet_kind.Side.TheVariants as side
use Rattle.mysql_recorder.specs.Lines.{heard}
use Rattle.mysql_recorder.proofs.recording.Recording.new.Goals as goal

pub returns-clause-recorded : goal.returns-clause-recorded
returns-clause-recorded c = record {
  said = [];
  pieces = [];
  read = ([], [], [], tt, refl, refl, (refl, refl));
  waits = ap (heard side.Client) (sym c.new.ensures.items);
  line = inl c.new.ensures.items;
  untaken = λ e. ([], [], tt, refl, refl, (refl, ap (heard side.Client) c.new.ensures.items));
  stand = c.new-2.ensures.stand;
}
