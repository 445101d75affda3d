use Rattle.std.proofs.Common.{◌≡◌, ◌++◌, drop, string_bytes}
use Rattle.mysql_program.specs.Bulk.{request_lines}
use Rattle.mysql_program.proofs.commands.bulk.request_lines.Given as goal

-- what is written, followed by the lines of the remaining requests
abbrev pub invariant-loop-request : goal.invariant-loop-request
invariant-loop-request l = string_bytes l.text ++ request_lines (drop l.request-index l.requests) ≡ request_lines l.requests
