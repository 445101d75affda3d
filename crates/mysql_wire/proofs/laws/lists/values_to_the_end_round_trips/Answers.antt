use Rattle.std.proofs.Common.{◌<◌, length}
use Rattle.mysql_wire.specs.Spelling.{IsSpelling}
use Rattle.mysql_wire.specs.ListAgain.{many-again}
use Rattle.mysql_wire.proofs.laws.lists.values_to_the_end_round_trips.Goals as goal

pub returns : goal.returns
returns g c =
    let f = g.T.MyDeserialize.form tt in
    let spelling = g.T.MySerialize.bytes in
    λ xs fits. many-again (λ x. IsSpelling f x (spelling x) × (0 < length (spelling x))) f spelling (λ x p. p.0) (λ x p. p.1) xs fits
