use Rattle.std.proofs.Common.{◌≡◌, ◌-◌, ◌≤◌, length}
use Rattle.mysql_wire.specs.Seq.{counted}
use Rattle.mysql_wire.proofs.Counted.{with_front}
use Rattle.mysql_repl.specs.Sid.{sid_as}
use Rattle.mysql_repl.proofs.sid_block.read_counted.Given as goal

abbrev pub invariant-loop : goal.invariant-loop
invariant-loop l =
    record {
      read : with_front l.sids.items ((counted (l.count - l.counter) ((sid_as l.tagged).form tt)).reads l.block) ≡ (counted l.count ((sid_as l.tagged).form tt)).reads l.initial.block;
      left : length l.block ≤ length l.initial.block;
    }
