use Rattle.std.proofs.Common.{◌≡◌, ◌++◌, drop, string_bytes}
use Rattle.std.specs.List.{flat_map}
use Rattle.mysql_show.specs.Appended.{Stays}
use Rattle.mysql_program.specs.Gtid.{sid_line}
use Rattle.mysql_program.proofs.commands.gtid.append_sids.Given as goal

abbrev pub invariant-loop-sid : goal.invariant-loop-sid
invariant-loop-sid l = record {
  -- what is written, followed by the lines of the remaining sids
  lines : string_bytes l.out ++ flat_map sid_line (drop l.sid-index l.sids) ≡ string_bytes l.initial.out ++ flat_map sid_line l.sids;
  stays : Stays (string_bytes l.initial.out) (string_bytes l.out);
}
