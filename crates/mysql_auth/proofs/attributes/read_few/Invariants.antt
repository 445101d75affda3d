use Rattle.std.proofs.Common.{◌≡◌, ◌≤◌, [], length}
use Rattle.std.specs.Cmp.Lexicographic.{pointwise}
use Rattle.std.specs.List.{IsDistinct}
use Rattle.std.specs.Map.{keys_of}
use Rattle.std.specs.Prelude.{nat_eq}
use Rattle.mysql_wire.specs.Many.{many}
use Rattle.mysql_auth.specs.Attributes.{attribute}
use Rattle.mysql_auth.proofs.PairsRead.{put_after}
use Rattle.mysql_auth.proofs.attributes.read_few.Given as goal

abbrev pub invariant-loop-inside : goal.invariant-loop-inside
invariant-loop-inside l =
    record {
      pairs : put_after l.list.items ((many (attribute.form tt)).reads l.rest) ≡ put_after [] ((many (attribute.form tt)).reads l.inside);
      left : length l.rest ≤ length l.inside;
      once : IsDistinct (pointwise nat_eq) (keys_of l.list.items);
    }

abbrev pub decreases-loop-inside : goal.decreases-loop-inside
decreases-loop-inside l = length l.rest
