use Rattle.std.proofs.Common.{◌++◌, map}
use Rattle.mysql_bulk.specs.BulkValue.{cells_bytes}
use Rattle.mysql_bulk.specs.Head.{column_of_type}
use Rattle.mysql_bulk.specs.ParamValues.{values_of_columns}
use Rattle.mysql_bulk.specs.ReadValues.{row_read}
use Rattle.mysql_bulk.proofs.ValuesAgain.{cell-again, row-again}
use Rattle.mysql_bulk.proofs.laws.value_rows_round_trip.Goals as goal

pub returns-clause-cell : goal.returns-clause-cell
returns-clause-cell c = λ t cell bytes rest fits e. cell-again t cell bytes fits e rest

pub returns-clause-spelled : goal.returns-clause-spelled
returns-clause-spelled c = λ types row rest is fit. row-again types row is fit rest

pub returns-clause-read : goal.returns-clause-read
returns-clause-read c = λ types row rest is fit. (values_of_columns (map column_of_type types)).only (row_read types row) (cells_bytes types row ++ rest) rest (row-again types row is fit rest)
