-- The content of an output is kept.
use Rattle.std.proofs.Common.{ℕ, List, [], ◌++◌, Result, Ok, Err, OnOk, OnErr, sym, ap, ◌∙◌, append_assoc, append-nil}
use Rattle.mysql_show.specs.Appended.{Stays}
use Rattle.mysql_recorder.specs.Entries.{Begins}

pub stays_same : (a : List ℕ) → Stays a a
stays_same a = ([], sym (append-nil a))

pub stays_then : (a b c : List ℕ) → Stays a b → Stays b c → Stays a c
stays_then a b c h g = (h.0 ++ g.0, g.1 ∙ ap (λ t. t ++ g.0) h.1 ∙ append_assoc a h.0 g.0)

pub front_stays : {E : Type 0} (r : Result (Unit {0}) E) (front a b : List ℕ) → OnOk r (Begins front a b) → OnErr r (Stays a b) → Stays a b
front_stays (Ok u) front a b h g = (front ++ h.0, h.1)
front_stays (Err e) front a b h g = g
