use Rattle.std.proofs.Common.{◌≡◌, drop, map}
use Rattle.mysql_program.specs.RowText.{each, cell_of_word, cell_read, row_of_line}
use Rattle.mysql_program.proofs.Rows.{prepended}
use Rattle.mysql_program.proofs.row_text.read_row.Given as goal

-- the cells so far, followed by those of the remaining words
abbrev pub invariant-loop-word : goal.invariant-loop-word
invariant-loop-word l = prepended (map cell_read l.row.items) (each cell_of_word (map (λ word. word.now) (drop l.word-index l.word-items))) ≡ row_of_line l.line
