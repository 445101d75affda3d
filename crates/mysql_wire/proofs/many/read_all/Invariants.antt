use Rattle.std.proofs.Common.{◌≡◌, length, IsTrue}
use Rattle.mysql_wire.specs.Many.{many, many_asks}
use Rattle.mysql_wire.proofs.Counted.{with_front}
use Rattle.mysql_wire.proofs.many.read_all.Given as goal

abbrev pub invariant-loop-rest : goal.invariant-loop-rest
invariant-loop-rest g l = record {
  so_far : with_front l.items.items ((many (g.T.MyDeserialize.form tt)).reads l.rest) ≡ (many (g.T.MyDeserialize.form tt)).reads l.initial.rest;
  asked : IsTrue (many_asks (g.T.MyDeserialize.takes_memory tt) (g.T.MyDeserialize.form tt) l.rest) → IsTrue (many_asks (g.T.MyDeserialize.takes_memory tt) (g.T.MyDeserialize.form tt) l.initial.rest);
}

abbrev pub decreases-loop-rest : goal.decreases-loop-rest
decreases-loop-rest g l = length l.rest
