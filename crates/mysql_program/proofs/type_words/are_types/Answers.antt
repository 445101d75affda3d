use Rattle.std.proofs.Common.{rules, tests, ◌∙◌, is_some, sym}
use Rattle.std.proofs.lemmas.Iterator.Search.{all_from_yields_List}
use Rattle.std.proofs.lemmas.Iterator.Splits.{YieldsList-from_slice_split}
use Rattle.std.specs.List.{slice_split}
use Rattle.mysql_program.specs.Parts.{is_byte}
use Rattle.mysql_program.specs.TypeWords.{type_of, types_of}
use Rattle.mysql_program.proofs.Types.{each_is_some}
use Rattle.mysql_program.proofs.type_words.are_types.Goals as goal

pub returns : goal.returns
unfolding types_of
returns c = record {
  value =
      all_from_yields_List (λ word. is_some (type_of word)) _ _ _ c.all.ensures.ran
      (YieldsList-from_slice_split _ (is_byte 44) c.args.words.now c.split.ensures.rest c.split.ensures.done c.split.ensures.closure (λ x b q k. search (rules, tests)))
      (λ x b q k. search (rules, tests))
      ∙ sym (each_is_some type_of (slice_split (is_byte 44) c.args.words.now));
}
