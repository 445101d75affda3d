-- How a row written from values, DEFAULT and IGNORE is read.
use Rattle.std.specs.Prelude.{List, [], ◌∷◌}
use Rattle.mysql_wire.specs.declared.codes.mariadb_bulk_indicator.MariadbBulkIndicator.TheVariants.{BULK_INDICATOR_NONE, BULK_INDICATOR_NULL, BULK_INDICATOR_DEFAULT, BULK_INDICATOR_IGNORE}
use Rattle.mysql_values.specs.declared.param_type.ParamType.{ParamType}
use Rattle.mysql_values.specs.ReadingBack.{IsInRange}
use Rattle.mysql_values.specs.TypedValue.{read_under}
use Rattle.mysql_values.specs.Value.{NULL}
use Rattle.mysql_bulk.specs.BulkValue.{Cell, Given, Default, Ignore}
use Rattle.mysql_bulk.specs.ParamValue.{ParamValue}

-- a value as it is read under its type; NULL, DEFAULT and IGNORE are indicators without a value
abbrev pub cell_read : ParamType → Cell → ParamValue
cell_read t (Given NULL) = record { indicator = BULK_INDICATOR_NULL; content = NULL }
cell_read t (Given value) = record { indicator = BULK_INDICATOR_NONE; content = read_under t value }
cell_read t Default = record { indicator = BULK_INDICATOR_DEFAULT; content = NULL }
cell_read t Ignore = record { indicator = BULK_INDICATOR_IGNORE; content = NULL }

abbrev pub row_read : List ParamType → List Cell → List ParamValue
row_read [] row = []
row_read (t ∷ types) [] = []
row_read (t ∷ types) (cell ∷ row) = cell_read t cell ∷ row_read types row

-- numbers within their widths
abbrev pub CellFits : Cell → Type 0
CellFits (Given value) = IsInRange value
CellFits Default = Unit {0}
CellFits Ignore = Unit {0}
