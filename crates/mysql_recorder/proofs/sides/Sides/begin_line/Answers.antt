use Rattle.std.proofs.Common.{[], ◌∷◌, string_bytes, ap}
use Rattle.std.proofs.lemmas.Result.{on_ok_weaker}
use Rattle.mysql_recorder.specs.Sides.{piece}
use Rattle.mysql_recorder.proofs.Goes.{sides_then}
use Rattle.mysql_recorder.proofs.sides.Sides.begin_line.Goals as goal

pub returns-clause-goes : goal.returns-clause-goes
returns-clause-goes c =
    on_ok_weaker c.take_piece.result
    (sides_then [] (piece c.args.side c.args.piece.now ∷ []) c.args.self.now c.take_up.new.self c.take_piece.new.self
    (string_bytes c.args.out.now) (string_bytes c.take_up.new.out) (string_bytes c.take_piece.new.out)
    c.in_ok-take_up.ensures.goes c.take_piece.ensures.keeps.lost (ap (λ s. s.layout) c.in_ok-take_up.ensures.keeps.settings)) c.take_piece.ensures.goes
