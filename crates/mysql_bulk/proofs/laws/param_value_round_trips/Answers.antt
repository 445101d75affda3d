use Rattle.std.proofs.Common.{◌++◌}
use Rattle.mysql_wire.specs.FlagMasks.{UNSIGNED_FLAG}
use Rattle.mysql_wire.specs.Flags.{has}
use Rattle.mysql_bulk.specs.ParamValue.{param_value, param_value_bytes}
use Rattle.mysql_bulk.proofs.ReadingBack.{param_value-again, indicated}
use Rattle.mysql_bulk.proofs.laws.param_value_round_trips.Goals as goal

pub returns : goal.returns
returns c = record {
  agrees = indicated;
  spelled = λ column value rest a. param_value-again column value a rest;
  read = λ column value rest a. (param_value column.0 (has column.1.0 UNSIGNED_FLAG)).only value (param_value_bytes value ++ rest) rest (param_value-again column value a rest);
}
