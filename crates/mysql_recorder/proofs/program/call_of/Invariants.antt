use Rattle.std.proofs.Common.{◌≡◌, drop, map, Some, string_bytes}
use Rattle.mysql_recorder.specs.Calls.{asked_after, nothing_asked}
use Rattle.mysql_recorder.proofs.program.call_of.Given as goal

abbrev pub invariant-loop-word : goal.invariant-loop-word
invariant-loop-word l = asked_after (drop l.word-index (map string_bytes l.words)) (Some (record { call = l.call; caps = l.caps; mariadb = l.mariadb })) ≡ asked_after (map string_bytes l.words) (Some nothing_asked)
