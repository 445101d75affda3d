use Rattle.std.proofs.Common.{◌≡◌, option_map}
use Rattle.mysql_repl.specs.GtidSetEarly.{early_words}
use Rattle.mysql_repl.specs.GtidSetText.{words, found_in, sids_found}
use Rattle.mysql_repl.specs.GtidSetTextParts.{left_words, with_front, finished}
use Rattle.mysql_repl.specs.SidText.{colon}
use Rattle.mysql_repl.specs.SidTextParts.{left_len}
use Rattle.mysql_repl.proofs.EarlyAnswers.{IsLeft}
use Rattle.mysql_repl.proofs.gtid_set_text.with_words.Given as goal

abbrev pub invariant-loop-left : goal.invariant-loop-left
invariant-loop-left l =
    record {
      found : finished l.building.sids.items l.building.sid (found_in l.fn.uuid (left_words colon (option_map (λ t. t.now) l.left)))
          ≡ with_front l.fn.sids.items (sids_found l.fn.uuid (found_in l.fn.uuid (words colon l.fn.text)));
      early : IsLeft (early_words (words colon l.fn.text)) (early_words (left_words colon (option_map (λ t. t.now) l.left)));
    }

abbrev pub decreases-loop-left : goal.decreases-loop-left
decreases-loop-left l = left_len (option_map (λ t. t.now) l.left)
