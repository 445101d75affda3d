use Rattle.std.proofs.Common.{◌≡◌, option_map}
use Rattle.mysql_repl.specs.GtidSetEarly.{early_pieces}
use Rattle.mysql_repl.specs.GtidSetText.{words, read_pieces}
use Rattle.mysql_repl.specs.GtidSetTextParts.{left_words, with_front}
use Rattle.mysql_repl.specs.SidText.{comma}
use Rattle.mysql_repl.specs.SidTextParts.{left_len}
use Rattle.mysql_repl.proofs.EarlyAnswers.{AnswerIsLeft}
use Rattle.mysql_repl.proofs.gtid_set_text.sids_from_text.Given as goal

abbrev pub invariant-loop-left : goal.invariant-loop-left
invariant-loop-left l =
    record {
      read : with_front l.sids.items (read_pieces (left_words comma (option_map (λ t. t.now) l.left))) ≡ read_pieces (words comma l.fn.text);
      early : AnswerIsLeft (early_pieces (words comma l.fn.text)) l.sids (left_words comma (option_map (λ t. t.now) l.left));
    }

abbrev pub decreases-loop-left : goal.decreases-loop-left
decreases-loop-left l = left_len (option_map (λ t. t.now) l.left)
