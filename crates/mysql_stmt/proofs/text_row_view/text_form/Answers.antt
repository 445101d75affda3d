use Rattle.std.proofs.Common.{refl}
use Rattle.mysql_values.specs.ValueRef.{ref_content}
use Rattle.mysql_stmt.proofs.StoredForms.{not-null, text-string}
use Rattle.mysql_stmt.proofs.text_row_view.text_form.Goals as goal

pub returns-in-NULL : goal.returns-in-NULL
returns-in-NULL c = record { value = λ bytes rest h. (bytes, rw c.in-NULL.is refl) }

pub returns-in_default : goal.returns-in_default
returns-in_default c = record { value = λ bytes rest h. (rest, text-string bytes rest (ref_content c.args.value) (not-null c.args.value c.in_default.not-NULL) h) }
