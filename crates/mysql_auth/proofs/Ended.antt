-- A block that is read to its end.
use Rattle.std.proofs.Common.{◌≡◌, ℕ, List, length, Ok, ◌∙◌, ap}
use Rattle.mysql_wire.proofs.Blocks.{ended_whole}
use Rattle.mysql_wire.specs.Form.{ended}

pub ended-as : {A : Type 0} (v w : A) (left rest : List ℕ) → length left ≡ 0 → v ≡ w → ended v left rest ≡ Ok (w, rest)
ended-as {A} v w left rest none same = ended_whole v left rest none ∙ ap (λ (x : A). Ok (x, rest)) same
