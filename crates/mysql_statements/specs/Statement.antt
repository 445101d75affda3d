-- A prepared statement: what is known about it, and how packets change that.
use Rattle.std.specs.Prelude.{ℕ, zero, suc, ◌+◌, ◌-◌, ◌==◌, Bool, true, false, List, [], ◌∷◌, ◌++◌, length, map, replicate, Option, Some, None, if◌then◌else◌}
use Rattle.mysql_wire.specs.declared.codes.column_type.ColumnType.TheVariants.{MYSQL_TYPE_NULL}
use Rattle.mysql_values.specs.ParamType.{typed}
use Rattle.mysql_values.specs.declared.param_type.ParamType.{ParamType}
use Rattle.mysql_stmt.specs.declared.execute_view.BoundParam.{BoundParam}
use Rattle.mysql_statements.specs.declared.row_column.RowColumn.{RowColumn}
use Rattle.mysql_statements.specs.Kept.{Kept}

-- ---- what is known

abbrev pub id : Kept → ℕ
id s = s.id

abbrev pub params : Kept → List BoundParam
params s = s.params

abbrev pub is_bound : Kept → Bool
is_bound s = s.is_bound

abbrev pub width : Kept → ℕ
width s = s.width

-- the columns, if all of their definitions were received
abbrev pub columns : Kept → Option (List RowColumn)
columns s = if length s.columns == s.width then Some s.columns else None

-- the number of types kept for it
abbrev pub types : Kept → ℕ
types s = length s.params + length s.columns

-- ---- parameters

-- a parameter about which nothing is known
abbrev pub untyped : BoundParam
untyped = record { param_type = typed MYSQL_TYPE_NULL false; is_sent_ahead = false }

-- a column as the type of a parameter
abbrev pub param_type_of : RowColumn → ParamType
param_type_of c = typed c.column_type c.is_unsigned

abbrev pub with_type : ParamType → BoundParam → BoundParam
with_type t p = record { param_type = t; is_sent_ahead = p.is_sent_ahead }

abbrev pub sent_ahead : BoundParam → BoundParam
sent_ahead p = record { param_type = p.param_type; is_sent_ahead = true }

abbrev pub without_data : BoundParam → BoundParam
without_data p = record { param_type = p.param_type; is_sent_ahead = false }

-- the parameter at a place changed, if it exists
abbrev pub at : ℕ → (BoundParam → BoundParam) → List BoundParam → List BoundParam
at k f [] = []
at zero f (p ∷ ps) = f p ∷ ps
at (suc k) f (p ∷ ps) = p ∷ at k f ps

-- ---- changes by packets

-- it is prepared with a given number of parameters and columns
abbrev pub undefined : ℕ → (params columns : ℕ) → Kept
undefined id params columns = record { id = id; params = replicate params untyped; is_bound = false; width = columns; columns = [] }

-- the definition of a parameter, the first of `left` that are expected
abbrev pub with_param : ℕ → RowColumn → Kept → Kept
with_param left c s = record s { params = at (length s.params - left) (with_type (param_type_of c)) s.params }

-- the definition of a column
abbrev pub with_column : RowColumn → Kept → Kept
with_column c s = record s { columns = s.columns ++ c ∷ [] }

-- a result with a given number of columns, whose definitions follow or not
abbrev pub with_result : ℕ → Bool → Kept → Kept
with_result width true s = record s { width = width; columns = [] }
with_result width false s = record s { width = width }

-- long data was sent for a parameter
abbrev pub with_data : ℕ → Kept → Kept
with_data place s = record s { params = at place sent_ahead s.params }

-- the long data is consumed
abbrev pub with_no_data : Kept → Kept
with_no_data s = record s { params = map without_data s.params }
