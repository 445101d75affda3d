use Rattle.std.proofs.Common.{◌≡◌, ◌≤◌, [], length}
use Rattle.mysql_wire.specs.Many.{many}
use Rattle.mysql_auth.specs.Attributes.{attribute}
use Rattle.mysql_auth.proofs.PairsRead.{put_after}
use Rattle.mysql_auth.proofs.merged.read_merged.Given as goal

abbrev pub invariant-loop-inside : goal.invariant-loop-inside
invariant-loop-inside l =
    record {
      pairs : put_after l.map.entries ((many (attribute.form tt)).reads l.inside) ≡ put_after [] ((many (attribute.form tt)).reads l.initial.inside);
      left : length l.inside ≤ length l.initial.inside;
    }

abbrev pub decreases-loop-inside : goal.decreases-loop-inside
decreases-loop-inside l = length l.inside
