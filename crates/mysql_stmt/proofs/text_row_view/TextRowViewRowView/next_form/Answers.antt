use Rattle.std.proofs.Common.{rules, ◌≡◌, Ok}
use Rattle.mysql_values.specs.ValueDeserializer.{text_value}
use Rattle.mysql_values.specs.ValueRef.{ref_content}
use Rattle.mysql_stmt.specs.RowView.{Gives}
use Rattle.mysql_stmt.proofs.text_row_view.TextRowViewRowView.next_form.Goals as goal

pub returns-in-Some : goal.returns-in-Some
returns-in-Some c =
    let old = c.args.self.now in
    let new = c.next_value.new.self in
    let x = ref_content c.in-Some.value in
    let given : Gives old x new = search rules in
    let read : text_value.reads old.rest ≡ Ok (x, new.rest) = search rules in
    record { value = (x, given, text_value.front x old.rest new.rest read, c.text_form.ensures.value old.rest new.rest read) }
