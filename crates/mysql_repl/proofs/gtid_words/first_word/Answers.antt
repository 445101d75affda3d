use Rattle.std.proofs.Common.{option_map}
use Rattle.mysql_repl.proofs.GtidSetTexts.{word-first}
use Rattle.mysql_repl.proofs.gtid_words.first_word.Goals as goal

pub returns-clause-words : goal.returns-clause-words
returns-clause-words c =
    word-first c.args.text.now c.first_part-first.result.part.now c.trimmed.result.now (option_map (λ t. t.now) c.first_part-first.result.left) c.first_part-first.ensures.parts c.trimmed.ensures.value
