use Rattle.std.proofs.Common.{◌≡◌, ◌+◌, ◌≤◌, length, option_map}
use Rattle.mysql_repl.specs.GtidSetText.{words}
use Rattle.mysql_repl.specs.GtidSetTextParts.{left_words}
use Rattle.mysql_repl.specs.SidText.{colon}
use Rattle.mysql_repl.specs.SidTextParts.{left_len}
use Rattle.mysql_repl.specs.GtidSetEntries.{lead}
use Rattle.mysql_repl.proofs.gtid_words.intervals_before.Given as goal

abbrev pub invariant-loop-left : goal.invariant-loop-left
invariant-loop-left l =
    record {
      counted : l.count + lead (left_words colon (option_map (λ t. t.now) l.left)) ≡ lead (words colon l.fn.text);
      few : l.count + left_len (option_map (λ t. t.now) l.left) ≤ length l.fn.text + 1;
    }

abbrev pub decreases-loop-left : goal.decreases-loop-left
decreases-loop-left l = left_len (option_map (λ t. t.now) l.left)
