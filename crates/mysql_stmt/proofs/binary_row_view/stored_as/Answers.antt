use Rattle.std.proofs.Common.{◌≡◌, Ok}
use Rattle.mysql_values.specs.ValueDeserializer.{value_of_kind}
use Rattle.mysql_values.specs.ValueRef.{ref_content}
use Rattle.mysql_stmt.proofs.StoredForms.{stored-as}
use Rattle.mysql_stmt.proofs.binary_row_view.stored_as.Goals as goal

pub returns-in-Ok : goal.returns-in-Ok
returns-in-Ok c = record {
  value = λ bytes rest read.
      let x = ref_content c.in-Ok._value in
      let is : (value_of_kind c.args.kind c.args.is_unsigned).reads bytes ≡ Ok (x, rest) = rw c.in-Ok.is at read in
      (x, is, (rest, stored-as c.args.kind c.args.is_unsigned c.of.result bytes rest x c.of.ensures.value is));
}
