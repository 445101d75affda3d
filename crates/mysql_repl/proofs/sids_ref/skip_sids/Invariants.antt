use Rattle.std.proofs.Common.{◌≡◌, ◌-◌}
use Rattle.mysql_repl.specs.Sid.{sid_as}
use Rattle.mysql_wire.proofs.Passed.{left_to_pass}
use Rattle.mysql_repl.proofs.sids_ref.skip_sids.Given as goal

abbrev pub invariant-loop : goal.invariant-loop
invariant-loop l = record { read : left_to_pass ((sid_as l.tagged).form tt) (l.count - l.counter) l.buf ≡ left_to_pass ((sid_as l.tagged).form tt) l.count l.initial.buf }
