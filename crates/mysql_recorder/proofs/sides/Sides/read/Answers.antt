use Rattle.std.proofs.Common.{◌≢◌, IfOk, IfErr, sym, subst, string_bytes}
use Rattle.mysql_conversation.specs.declared.packet_kind.Side.TheVariants as side
use Rattle.mysql_conversation.specs.declared.packet_kind_tag.TheConstants.PacketKindTag.{ALL}
use Rattle.mysql_recorder.specs.Losses.{PieceLosesIn}
use Rattle.mysql_recorder.specs.Stops.{PieceStops}
use Rattle.mysql_recorder.specs.declared.piece.Came.TheVariants as came_as
use Rattle.mysql_recorder.proofs.Goes.{read_piece}
use Rattle.mysql_recorder.proofs.Losses.{side_loses}
use Rattle.mysql_recorder.proofs.Stopped.{side_stops}
use Rattle.mysql_recorder.proofs.sides.Sides.read.Goals as goal

pub returns-in-Client-clause-goes : goal.returns-in-Client-clause-goes
returns-in-Client-clause-goes c = rw c.in-Client.is
    (read_piece side.Client c.read_packets.result c.args.self.now c.read_packets.new.stream c.read_packets.new.packets c.args.piece.now
    (string_bytes c.args.out.now) (string_bytes c.read_packets.new.out)
    c.read_packets.ensures.whole c.read_packets.ensures.none c.read_packets.ensures.passed)

pub returns-in-Server-clause-goes : goal.returns-in-Server-clause-goes
returns-in-Server-clause-goes c = rw c.in-Server.is
    (read_piece side.Server c.read_packets-in-Server.result c.args.self.now c.read_packets-in-Server.new.stream c.read_packets-in-Server.new.packets c.args.piece.now
    (string_bytes c.args.out.now) (string_bytes c.read_packets-in-Server.new.out)
    c.read_packets-in-Server.ensures.whole c.read_packets-in-Server.ensures.none c.read_packets-in-Server.ensures.passed)

pub returns-in-Client-clause-refused : goal.returns-in-Client-clause-refused
returns-in-Client-clause-refused c =
    subst (λ t. IfErr c.read_packets.result (λ e. PieceStops ALL t c.args.piece.now c.args.self.now e (string_bytes c.args.out.now) (string_bytes c.read_packets.new.out))) (sym c.in-Client.is)
    (side_stops side.Client c.read_packets.result ALL c.args.self.now c.args.piece.now (string_bytes c.args.out.now) (string_bytes c.read_packets.new.out) c.read_packets.ensures.refused)

pub returns-in-Server-clause-refused : goal.returns-in-Server-clause-refused
returns-in-Server-clause-refused c =
    subst (λ t. IfErr c.read_packets-in-Server.result (λ e. PieceStops ALL t c.args.piece.now c.args.self.now e (string_bytes c.args.out.now) (string_bytes c.read_packets-in-Server.new.out))) (sym c.in-Server.is)
    (side_stops side.Server c.read_packets-in-Server.result ALL c.args.self.now c.args.piece.now (string_bytes c.args.out.now) (string_bytes c.read_packets-in-Server.new.out) c.read_packets-in-Server.ensures.refused)

pub returns-in-Client-clause-loses : goal.returns-in-Client-clause-loses
returns-in-Client-clause-loses c =
    subst (λ t. IfOk c.read_packets.result (λ came. came ≢ came_as.Whole → PieceLosesIn ALL t c.args.piece.now c.args.self.now (string_bytes c.args.out.now) (string_bytes c.read_packets.new.out))) (sym c.in-Client.is)
    (side_loses side.Client c.read_packets.result ALL c.args.self.now c.args.piece.now (string_bytes c.args.out.now) (string_bytes c.read_packets.new.out) c.read_packets.ensures.loses)

pub returns-in-Server-clause-loses : goal.returns-in-Server-clause-loses
returns-in-Server-clause-loses c =
    subst (λ t. IfOk c.read_packets-in-Server.result (λ came. came ≢ came_as.Whole → PieceLosesIn ALL t c.args.piece.now c.args.self.now (string_bytes c.args.out.now) (string_bytes c.read_packets-in-Server.new.out))) (sym c.in-Server.is)
    (side_loses side.Server c.read_packets-in-Server.result ALL c.args.self.now c.args.piece.now (string_bytes c.args.out.now) (string_bytes c.read_packets-in-Server.new.out) c.read_packets-in-Server.ensures.loses)
