use Rattle.std.proofs.Common.{◌≡◌, drop}
use Rattle.mysql_values.specs.Value.{contents_of}
use Rattle.mysql_values.specs.Params.{values_of_names}
use Rattle.mysql_values.proofs.NamedValues.{later}
use Rattle.mysql_values.proofs.params.values_of_names.Given as goal

abbrev pub invariant-loop-name : goal.invariant-loop-name
invariant-loop-name l = later (contents_of l.row.items) (values_of_names l.values (drop l.name-index l.names)) ≡ values_of_names l.fn.values l.fn.names
