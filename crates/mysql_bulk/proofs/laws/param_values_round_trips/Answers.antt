use Rattle.std.proofs.Common.{◌++◌}
use Rattle.mysql_bulk.specs.ParamValue.{values_bytes}
use Rattle.mysql_bulk.specs.ParamValues.{values_of_columns}
use Rattle.mysql_bulk.proofs.ReadingBack.{values-again}
use Rattle.mysql_bulk.proofs.laws.param_values_round_trips.Goals as goal

pub returns : goal.returns
returns c = record {
  spelled = λ columns values rest a. values-again 0 columns values a rest;
  read = λ columns values rest a. (values_of_columns columns).only values (values_bytes values ++ rest) rest (values-again 0 columns values a rest);
}
