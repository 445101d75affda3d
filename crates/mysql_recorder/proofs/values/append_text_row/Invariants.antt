use Rattle.std.proofs.Common.{◌≡◌, ◌++◌}
use Rattle.mysql_recorder.specs.ValueFields.{row_fields}
use Rattle.mysql_recorder.proofs.values.append_text_row.Given as goal

abbrev pub invariant-values : goal.invariant-values
invariant-values l = record { shown : l.fields.items ++ row_fields l.row ≡ l.fn.fields.items ++ row_fields l.fn.row }

abbrev pub decreases-values : goal.decreases-values
decreases-values l = l.row.left
