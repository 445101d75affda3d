use Rattle.std.proofs.Common.{refl, string_bytes}
use Rattle.mysql_conversation.specs.declared.packet_kind_tag.TheConstants.PacketKindTag.{ALL}
use Rattle.mysql_recorder.proofs.Goes.{takes_on_ok, recorded_stays}
use Rattle.mysql_recorder.proofs.Losses.{text_keeps, text_loses}
use Rattle.mysql_recorder.proofs.Stopped.{text_stops}
use Rattle.mysql_recorder.proofs.recording.Recording.take_rest.Goals as goal

pub returns-then-may_be_taken-clause-goes : goal.returns-then-may_be_taken-clause-goes
returns-then-may_be_taken-clause-goes c =
    takes_on_ok c.take_line.result c.args.self.now c.take_line.new.self (string_bytes c.args.out.now) (string_bytes c.take_line.new.out) c.take_line.ensures.goes c.take_line.ensures.place c.take_line.ensures.line c.take_line.ensures.taken

pub returns-else-may_be_taken-clause-goes : goal.returns-else-may_be_taken-clause-goes
returns-else-may_be_taken-clause-goes c = recorded_stays c.args.self.now (string_bytes c.args.out.now)

pub returns-then-may_be_taken-clause-refused : goal.returns-then-may_be_taken-clause-refused
returns-then-may_be_taken-clause-refused c =
    text_stops c.take_line.result ALL c.args.self.now (string_bytes c.args.out.now) (string_bytes c.take_line.new.out) c.take_line.ensures.refused

pub returns-then-may_be_taken-clause-loses : goal.returns-then-may_be_taken-clause-loses
returns-then-may_be_taken-clause-loses c =
    text_loses ALL ⊥ c.args.self.now c.take_line.new.self (string_bytes c.args.out.now) (string_bytes c.take_line.new.out) c.take_line.ensures.loses

pub returns-else-may_be_taken-clause-loses : goal.returns-else-may_be_taken-clause-loses
returns-else-may_be_taken-clause-loses c = text_keeps ALL ⊥ c.args.self.now c.args.self.now (string_bytes c.args.out.now) (string_bytes c.args.out.now) refl
