use Rattle.std.proofs.Common.{◌≡◌, drop, map}
use Rattle.mysql_program.specs.RowText.{each, row_of_line, rows_of, rows_read}
use Rattle.mysql_program.proofs.Rows.{prepended}
use Rattle.mysql_program.proofs.row_text.read_rows.Given as goal

-- the rows so far, followed by those of the remaining lines
abbrev pub invariant-loop-line : goal.invariant-loop-line
invariant-loop-line l = prepended (rows_read l.rows.items) (each row_of_line (map (λ line. line.now) (drop l.line-index l.line-items))) ≡ rows_of l.text
