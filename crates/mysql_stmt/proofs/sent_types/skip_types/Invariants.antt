use Rattle.std.proofs.Common.{◌≡◌, ◌-◌}
use Rattle.mysql_wire.proofs.Passed.{left_to_pass}
use Rattle.mysql_stmt.specs.SentTypes.{sent_type}
use Rattle.mysql_stmt.proofs.sent_types.skip_types.Given as goal

abbrev pub invariant-loop : goal.invariant-loop
invariant-loop l = record { read : left_to_pass (sent_type l.has_names) (l.count - l.counter) l.buf ≡ left_to_pass (sent_type l.has_names) l.count l.initial.buf }
