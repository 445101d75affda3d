use Rattle.mysql_repl.proofs.GtidSetTexts.{trimmed-is}
use Rattle.mysql_repl.proofs.gtid_words.trimmed.Goals as goal

pub returns : goal.returns
returns c = record {
  value = trimmed-is c.args.text.now c.trim_ascii_start.result.now c.trim_ascii_end.result.now c.trim_ascii_start.ensures.value c.trim_ascii_end.ensures.value;
}
