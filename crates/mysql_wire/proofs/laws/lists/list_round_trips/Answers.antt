use Rattle.std.proofs.Common.{length}
use Rattle.mysql_wire.specs.Spelling.{IsSpelling}
use Rattle.mysql_wire.specs.ListAgain.{seq-again}
use Rattle.mysql_wire.proofs.laws.lists.list_round_trips.Goals as goal

pub returns : goal.returns
returns g c =
    let f = g.T.MyDeserialize.form tt in
    let spelling = g.T.MySerialize.bytes in
    λ ctx xs counted fits. seq-again (λ x. IsSpelling f x (spelling x)) f spelling (λ x again. again) (g.L.SeqRepr.form ctx) (g.L.SeqRepr.written (length xs)) xs counted fits
