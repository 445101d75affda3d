use Rattle.std.proofs.Common.{◌≡◌, ◌≤◌, ◌+◌, ◌-◌, ◌++◌, drop, length, vec_capacity, vec_len}
use Rattle.mysql_show.proofs.field.add_fields.Given as goal

abbrev pub invariant-loop-field : goal.invariant-loop-field
invariant-loop-field l = record {
  -- the fields so far, followed by the remaining ones
  items : l.fields.items ++ drop l.field-index l.more ≡ l.initial.fields.items ++ l.more;
  capacity : vec_len l.fields + (length l.more - l.field-index) ≤ vec_capacity l.fields;
}
