use Rattle.std.proofs.Common.{◌≡◌, drop, string_bytes}
use Rattle.mysql_program.specs.Ok.{with_changes}
use Rattle.mysql_program.proofs.commands.ok.with_changes.Given as goal

-- the lines so far and those of the remaining entries are the answer
abbrev pub invariant-loop-info : goal.invariant-loop-info
invariant-loop-info l = with_changes l.layout (string_bytes l.text) l.rest (drop l.info-index l.infos) ≡ with_changes l.layout (string_bytes l.initial.text) l.rest l.infos
