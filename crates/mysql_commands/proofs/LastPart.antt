-- Nothing stands after the last part.
use Rattle.std.proofs.lemmas.List.{append-nil}

pub ruleset last_part = (append-nil)
