use Rattle.std.proofs.Common.{◌≡◌, drop, map}
use Rattle.mysql_program.specs.RowText.{each}
use Rattle.mysql_program.specs.TypeWords.{type_of, types_of}
use Rattle.mysql_program.proofs.Rows.{prepended}
use Rattle.mysql_program.proofs.type_words.read_types.Given as goal

-- the types so far, followed by those of the remaining words
abbrev pub invariant-loop-word : goal.invariant-loop-word
invariant-loop-word l = prepended l.types.items (each type_of (map (λ word. word.now) (drop l.word-index l.word-items))) ≡ types_of l.words
