-- The types and rows of a bulk execution, as C reads them.
use Rattle.std.specs.Prelude.{◌≡◌, ℕ, zero, suc, ◌*◌, if◌then◌else◌, nat_lt, List, [], ◌∷◌, drop, length, map, take, Result, Ok, Err, false}
use Rattle.mysql_wire.specs.Form.{Form}
use Rattle.mysql_wire.specs.MariadbBulkIndicator.{mariadb_bulk_indicator_code}
use Rattle.mysql_wire.specs.Reading.{Reading, Faults}
use Rattle.mysql_wire.specs.declared.codes.mariadb_bulk_indicator.MariadbBulkIndicator.{MariadbBulkIndicator}
use Rattle.mysql_wire.specs.declared.fault.FaultOf.{FaultOf}
use Rattle.mysql_values.specs.ParamType.{param_type}
use Rattle.mysql_values.specs.Value.{Content}
use Rattle.mysql_values.specs.ValueRef.{ref_content}
use Rattle.mysql_values.specs.declared.param_type.ParamType.{ParamType}
use Rattle.mysql_values.specs.declared.value_ref.ValueRef.{ValueRef}
use Rattle.mysql_bulk.specs.Head.{column_of_type}
use Rattle.mysql_bulk.specs.ParamValue.{ParamValue, contents, param_value}
use Rattle.mysql_bulk.specs.ParamValues.{BulkColumn, values_of_columns}
use Rattle.mysql_packets_c.specs.Bulk.{declared_type}
use Rattle.mysql_packets_c.specs.Code.{kind_code}
use Rattle.mysql_packets_c.specs.ColumnType.{type_of, unsigned_of}
use Rattle.mysql_packets_c.specs.Execution.{type_held}
use Rattle.mysql_packets_c.specs.Value.{SetsFirst, values_contents}
use Rattle.mysql_packets_c.specs.declared.rows.CColumnType.{CColumnType}
use Rattle.mysql_packets_c.specs.declared.text.CBytes.{CBytes}
use Rattle.mysql_packets_c.specs.declared.value.CValue.{CValue}

-- ---- types

abbrev pub types_held : List ParamType → List CColumnType
types_held types = map type_held types

-- the array contains the types that are read; or reading has the fault
abbrev pub ReadsTypes : Result (Unit {0}) FaultOf → List CColumnType → (rest : List ℕ) → Reading (List ParamType) → Type 0
ReadsTypes (Ok done) places rest read = (types : List ParamType) × (read ≡ Ok (types, rest)) × (places ≡ types_held types)
ReadsTypes (Err e) places rest read = Faults false e read

-- 0, the types, and the rest of the bytes; or the code of the first fault, and the bytes are unchanged
abbrev pub TypesInto : Reading (List ParamType) → ℕ → (old new : CBytes) → List CColumnType → Type 0
TypesInto (Ok x) code old new places = (code ≡ 0) × (places ≡ types_held x.0) × (new.bytes.now ≡ x.1)
TypesInto (Err k) code old new places = (code ≡ kind_code k) × (new ≡ old)

-- what is read, followed by what is good after it; none of both after a fault
abbrev pub then_good : {A : Type 0} → Reading A → (List ℕ → List A) → List A
then_good (Ok x) next = x.0 ∷ next x.1
then_good (Err k) next = []

-- the types before the first fault, at most this many
abbrev pub good_types : ℕ → List ℕ → List ParamType
good_types zero bytes = []
good_types (suc count) bytes = then_good ((param_type.form tt).reads bytes) (good_types count)

-- the same where the bytes have a type of each column; none where they are fewer
abbrev pub good_block : ℕ → List ℕ → List ParamType
good_block count bytes = if nat_lt (length bytes) (2 * count) then [] else good_types count (take (2 * count) bytes)

-- these types are in the first elements, and the other elements are unchanged
pub record FillsTypes (good : List ParamType) (before after : List CColumnType) : Type 0 where
  pub held : take (length good) after ≡ types_held good
  pub others : drop (length good) after ≡ drop (length good) before

-- ---- rows

-- the column that a type describes
abbrev pub column_of : CColumnType → BulkColumn
column_of c = column_of_type (declared_type c)

-- a value of each column, with its indicator
abbrev pub bulk_row : List CColumnType → Form (List ParamValue)
bulk_row types = values_of_columns (map column_of types)

abbrev pub param_held : MariadbBulkIndicator → ValueRef → ParamValue
param_held indicator value = record { indicator = indicator; content = ref_content value }

abbrev pub param_read : Result (MariadbBulkIndicator × ValueRef) FaultOf → Result ParamValue FaultOf
param_read (Ok x) = Ok (param_held x.0 x.1)
param_read (Err e) = Err e

-- how each value is sent
abbrev pub indicators_of : List ParamValue → List ℕ
indicators_of row = map (λ v. mariadb_bulk_indicator_code v.indicator) row

-- the arrays contain the values of the row, and how each is sent
pub record HoldsRow (row : List ParamValue) (values : List CValue) (indicators : List ℕ) : Type 0 where
  pub values_are : values_contents values ≡ contents row
  pub indicators_are : indicators ≡ indicators_of row

-- the values of a row before its first fault: all of them without one
abbrev pub good_row : List CColumnType → List ℕ → List ParamValue
good_row [] bytes = []
good_row (c ∷ types) bytes = then_good ((param_value (type_of c) (unsigned_of c)).reads bytes) (good_row types)

-- these values are in the first elements, and how each is sent; the other elements of both arrays are unchanged
pub record FillsRow (good : List ParamValue) (values_before values : List CValue) (indicators_before indicators : List ℕ) : Type 0 where
  pub held : HoldsRow good (take (length good) values) (take (length good) indicators)
  pub places : SetsFirst (length good) values_before values
  pub other_indicators : drop (length good) indicators ≡ drop (length good) indicators_before

-- the arrays contain the row that is read; or reading has the fault
abbrev pub ReadsRow : Result (Unit {0}) FaultOf → List CValue → (indicators : List ℕ) → (rest : List ℕ) → Reading (List ParamValue) → Type 0
ReadsRow (Ok done) values indicators rest read = (row : List ParamValue) × (read ≡ Ok (row, rest)) × HoldsRow row values indicators
ReadsRow (Err e) values indicators rest read = Faults false e read

-- 0, the row, and the rest of the bytes; or the code of the first fault, and the bytes are unchanged
abbrev pub RowInto : Reading (List ParamValue) → ℕ → (old new : CBytes) → List CValue → (indicators : List ℕ) → Type 0
RowInto (Ok x) code old new values indicators = (code ≡ 0) × HoldsRow x.0 values indicators × (new.bytes.now ≡ x.1)
RowInto (Err k) code old new values indicators = (code ≡ kind_code k) × (new ≡ old)

-- the same for the values alone, as the library's reader of whole requests has them
abbrev pub ContentsInto : Reading (List Content) → ℕ → List CValue → (rest : List ℕ) → Type 0
ContentsInto (Ok x) code values rest = (code ≡ 0) × (values_contents values ≡ x.0) × (rest ≡ x.1)
ContentsInto (Err k) code values rest = code ≡ kind_code k
