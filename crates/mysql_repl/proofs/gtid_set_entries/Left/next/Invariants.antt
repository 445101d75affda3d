use Rattle.std.proofs.Common.{◌≡◌, None, option_map}
use Rattle.mysql_repl.specs.GtidSetTextParts.{left_words}
use Rattle.mysql_repl.specs.SidText.{comma}
use Rattle.mysql_repl.specs.SidTextParts.{left_len}
use Rattle.mysql_repl.specs.GtidSetEntries.{pieces_entries}
use Rattle.mysql_repl.specs.GtidSetLeft.{entries_left}
use Rattle.mysql_repl.proofs.gtid_set_entries.Left.next.Given as goal

abbrev pub invariant-loop-self : goal.invariant-loop-self
invariant-loop-self l =
    record {
      none : l.self.words ≡ None;
      left : entries_left l.fn.self ≡ pieces_entries (left_words comma (option_map (λ t. t.now) l.self.pieces));
    }

abbrev pub decreases-loop-self : goal.decreases-loop-self
decreases-loop-self l = left_len (option_map (λ t. t.now) l.self.pieces)
