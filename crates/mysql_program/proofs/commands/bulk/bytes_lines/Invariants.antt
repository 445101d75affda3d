use Rattle.std.proofs.Common.{◌≡◌, ◌++◌, drop, string_bytes}
use Rattle.mysql_bulk.specs.ValuesRun.{bytes_of}
use Rattle.mysql_program.specs.Bulk.{bytes_lines}
use Rattle.mysql_program.proofs.commands.bulk.bytes_lines.Given as goal

-- what is written, followed by the lines of the remaining requests
abbrev pub invariant-loop-request : goal.invariant-loop-request
invariant-loop-request l = string_bytes l.text ++ bytes_lines (bytes_of (drop l.request-index l.requests)) ≡ bytes_lines (bytes_of l.requests)
