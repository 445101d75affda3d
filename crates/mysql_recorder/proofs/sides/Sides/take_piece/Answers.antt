use Rattle.std.proofs.Common.{[], ◌∷◌, string_bytes}
use Rattle.mysql_conversation.specs.declared.packet_kind_tag.TheConstants.PacketKindTag.{ALL}
use Rattle.mysql_recorder.specs.Sides.{piece}
use Rattle.mysql_recorder.proofs.Losses.{came_loses}
use Rattle.mysql_recorder.proofs.Stopped.{goes_on_came, piece_never}
use Rattle.mysql_recorder.proofs.sides.Sides.take_piece.Goals as goal

pub returns-in-Ok-clause-goes : goal.returns-in-Ok-clause-goes
returns-in-Ok-clause-goes c =
    goes_on_came c.in-Ok.came c.go_on.result (piece c.args.side c.args.piece.now ∷ []) c.args.self.now c.read.new.self c.go_on.new.self
    (string_bytes c.args.out.now) (string_bytes c.read.new.out) (string_bytes c.go_on.new.out)
    c.in-Ok.ensures.goes c.go_on.ensures.whole c.go_on.ensures.lost

pub returns-in-Ok-clause-refused : goal.returns-in-Ok-clause-refused
returns-in-Ok-clause-refused c =
    piece_never c.go_on.result ALL c.args.side c.args.piece.now c.args.self.now (string_bytes c.args.out.now) (string_bytes c.go_on.new.out) c.go_on.ensures.refused

pub returns-in-Ok-clause-loses : goal.returns-in-Ok-clause-loses
returns-in-Ok-clause-loses c =
    came_loses c.in-Ok.came ALL c.args.side c.args.piece.now c.args.self.now c.read.new.self c.go_on.new.self (string_bytes c.args.out.now) (string_bytes c.read.new.out) (string_bytes c.go_on.new.out)
    c.in-Ok.ensures.loses c.go_on.ensures.whole c.in-Ok.ensures.lost c.go_on.ensures.keeps.text
