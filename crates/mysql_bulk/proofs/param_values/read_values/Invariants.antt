use Rattle.std.proofs.Common.{◌≡◌, drop}
use Rattle.mysql_wire.specs.Each.{each}
use Rattle.mysql_wire.proofs.Counted.{with_front}
use Rattle.mysql_bulk.specs.ParamValues.{value_of_column, values_of_columns}
use Rattle.mysql_bulk.proofs.Memory.{FirstRead}
use Rattle.mysql_bulk.proofs.param_values.read_values.Given as goal

abbrev pub invariant-loop-column : goal.invariant-loop-column
invariant-loop-column l = record {
  reads : with_front l.values.items ((each value_of_column l.column-index (drop l.column-index l.columns)).reads l.rest) ≡ (values_of_columns l.columns).reads l.fn.buf;
  first : FirstRead l.columns l.column-index l.rest l.fn.buf;
}
