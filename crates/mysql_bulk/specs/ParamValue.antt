-- Values in bulk requests.
use Rattle.std.specs.Prelude.{ℕ, ◌++◌, Bool, true, false, List, map, Ok, Err}
use Rattle.std.specs.List.{flat_map}
use Rattle.mysql_wire.specs.declared.codes.column_type.ColumnType.{ColumnType}
use Rattle.mysql_wire.specs.declared.codes.mariadb_bulk_indicator.MariadbBulkIndicator.{MariadbBulkIndicator}
use Rattle.mysql_wire.specs.declared.codes.mariadb_bulk_indicator.MariadbBulkIndicator.TheVariants.{BULK_INDICATOR_NONE, BULK_INDICATOR_NULL}
use Rattle.mysql_wire.specs.MariadbBulkIndicator.{mariadb_bulk_indicator, mariadb_bulk_indicator_code}
use Rattle.mysql_wire.specs.Writing.{le_bytes}
use Rattle.mysql_wire.specs.Reading.{Reading}
use Rattle.mysql_wire.specs.Form.{Form, ◌>>=◌, give, either}
use Rattle.mysql_values.specs.Value.{Content, NULL, bin}
use Rattle.mysql_values.specs.ValueDeserializer.{bin_value, has_bytes}

-- a value as it is sent
pub record ParamValue : Type 0 where
  pub indicator : MariadbBulkIndicator
  pub content : Content

-- how a value is sent: NULL has no value after its indicator
abbrev pub indicator_of : Content → MariadbBulkIndicator
indicator_of NULL = BULK_INDICATOR_NULL
indicator_of _ = BULK_INDICATOR_NONE

abbrev pub with_indicator : Content → ParamValue
with_indicator value = record { indicator = indicator_of value; content = value }

-- the values without their indicators
abbrev pub contents : List ParamValue → List Content
contents values = map (λ v. v.content) values

-- ---- bytes

-- a value follows the indicator
abbrev pub value_follows : MariadbBulkIndicator → Bool
value_follows BULK_INDICATOR_NONE = true
value_follows _ = false

-- the indicator, and, if a value follows it, a value of the column's type
abbrev pub param_value : ColumnType → Bool → Form ParamValue
param_value column is_unsigned = do
  indicator ← mariadb_bulk_indicator
  content ← either (value_follows indicator.0) (bin_value column is_unsigned) (give NULL)
  give (record { indicator = indicator.0; content = content })

-- a string that is not empty follows the indicator: only this allocates
abbrev pub param_has_bytes : Reading ParamValue → Bool
param_has_bytes (Ok x) = has_bytes x.0.content
param_has_bytes (Err e) = false

-- the indicator's byte, and the value's binary form
abbrev pub param_value_bytes : ParamValue → List ℕ
param_value_bytes v = le_bytes 1 (mariadb_bulk_indicator_code v.indicator) ++ bin v.content

-- the bytes of a value after its own indicator
abbrev pub cell : Content → List ℕ
cell value = param_value_bytes (with_indicator value)

abbrev pub values_bytes : List ParamValue → List ℕ
values_bytes values = flat_map param_value_bytes values
