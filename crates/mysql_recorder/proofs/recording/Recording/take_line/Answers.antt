use Rattle.std.proofs.Common.{false, ap, ◌∙◌, string_bytes}
use Rattle.std.proofs.lemmas.Result.{on_ok_weaker}
use Rattle.mysql_conversation.specs.declared.packet_kind_tag.TheConstants.PacketKindTag.{ALL}
use Rattle.mysql_recorder.proofs.Goes.{takes_piece}
use Rattle.mysql_recorder.proofs.Losses.{line_loses}
use Rattle.mysql_recorder.proofs.Stopped.{line_stops}
use Rattle.mysql_recorder.proofs.recording.Recording.take_line.Goals as goal

pub returns-clause-goes : goal.returns-clause-goes
returns-clause-goes c =
    on_ok_weaker c.take_line-taken.result
    (takes_piece c.args.self.now
    (record {
      alloc = c.args.self.now.alloc;
      place = c.args.self.now.place;
      line = record { side = c.args.self.now.line.side; bytes = c.clear.new.self; is_untaken = false };
      sides = c.take_line-taken.new.self;
    })
    c.as_slice.result.now (string_bytes c.args.out.now) (string_bytes c.take_line-taken.new.out)
    (c.as_slice.ensures.value ∙ ap (λ v. v.items) c.replace-piece.ensures.value)) c.take_line-taken.ensures.goes

pub returns-clause-refused : goal.returns-clause-refused
returns-clause-refused c =
    line_stops c.take_line-taken.result ALL c.args.self.now c.as_slice.result.now (string_bytes c.args.out.now) (string_bytes c.take_line-taken.new.out)
    (c.as_slice.ensures.value ∙ ap (λ v. v.items) c.replace-piece.ensures.value) c.take_line-taken.ensures.refused

pub returns-clause-loses : goal.returns-clause-loses
returns-clause-loses c =
    line_loses ALL c.args.self.now
    (record {
      alloc = c.args.self.now.alloc;
      place = c.args.self.now.place;
      line = record { side = c.args.self.now.line.side; bytes = c.clear.new.self; is_untaken = false };
      sides = c.take_line-taken.new.self;
    })
    c.as_slice.result.now (string_bytes c.args.out.now) (string_bytes c.take_line-taken.new.out)
    (c.as_slice.ensures.value ∙ ap (λ v. v.items) c.replace-piece.ensures.value) c.take_line-taken.ensures.loses
