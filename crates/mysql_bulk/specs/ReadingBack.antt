-- Which rows are read back from a request's bytes.
use Rattle.std.specs.Prelude.{◌≡◌, ◌≢◌, ◌<◌, ◌^◌, Bool, if◌then◌else◌, pos, IsTrue, IfSome, List, [], ◌∷◌, length, map, Some}
use Rattle.std.specs.List.{All, AllZip}
use Rattle.mysql_wire.specs.FlagMasks.{UNSIGNED_FLAG}
use Rattle.mysql_wire.specs.Flags.{has}
use Rattle.mysql_cuts.specs.Cut.{rows_in}
use Rattle.mysql_wire.specs.Form.{either, give}
use Rattle.mysql_wire.specs.Spelling.{IsSpelling}
use Rattle.mysql_values.specs.Value.{Content, NULL, Int, UInt, bin}
use Rattle.mysql_values.specs.ValueDeserializer.{bin_value}
use Rattle.mysql_values.specs.declared.param_type.ParamType.{ParamType}
use Rattle.mysql_values.specs.ReadingBack.{Agrees, IsInRange}
use Rattle.mysql_bulk.specs.Row.{first_length}
use Rattle.mysql_bulk.specs.ColumnTypes.{is_unsigned, is_declarable, types_of_rows}
use Rattle.mysql_bulk.specs.ParamValue.{ParamValue, with_indicator, value_follows}
use Rattle.mysql_bulk.specs.ParamValues.{BulkColumn}
use Rattle.mysql_bulk.specs.Head.{sends_types, value_columns, column_of_type}
use Rattle.mysql_bulk.specs.HeadTypes.{TypesFor}
use Rattle.mysql_bulk.specs.Request.{BulkRequest, head_of}
use Rattle.mysql_bulk.specs.Builder.{BuilderState}

-- as many values as columns, each of which matches its column's type
abbrev pub AgreesWith : List BulkColumn → List Content → Type 0
AgreesWith columns row = AllZip (λ column value. Agrees column.0 (has column.1.0 UNSIGNED_FLAG) value) columns row

-- what follows the value's indicator, if anything, is read as the value, whatever comes after it
abbrev pub ParamValueAgrees : BulkColumn → ParamValue → Type 0
ParamValueAgrees column v = IsSpelling (either (value_follows v.indicator) (bin_value column.0 (has column.1.0 UNSIGNED_FLAG)) (give NULL)) v.content (bin v.content)

-- the request has one matching value for each column of its types or of the caller's
pub record RequestFits (columns : List BulkColumn) (request : BulkRequest) : Type 0 where
  pub stmt_id : request.stmt_id < 2 ^ 32
  pub bulk_flags : request.bulk_flags.0 < 2 ^ 16
  pub types : TypesFor (sends_types request.bulk_flags) (length columns) request.types
  pub values : AllZip ParamValueAgrees (value_columns columns (head_of request)) request.values

-- the request has the values of these rows, which match its columns or the caller's
pub record RowsFit (columns : List BulkColumn) (request : BulkRequest) (rows : List (List Content)) : Type 0 where
  pub stmt_id : request.stmt_id < 2 ^ 32
  pub bulk_flags : request.bulk_flags.0 < 2 ^ 16
  pub some : columns ≢ []
  pub types : TypesFor (sends_types request.bulk_flags) (length columns) request.types
  pub values : request.values ≡ map with_indicator (rows_in rows)
  pub agree : All (AgreesWith (value_columns columns (head_of request))) rows

-- the columns by which a request of these rows, built in this state, is read
abbrev pub columns_read_by : BuilderState → List BulkColumn → List (List Content) → List BulkColumn
columns_read_by s columns rows = if s.types_due then map column_of_type (types_of_rows s.columns rows) else columns

-- rows of one length, not 0, whose values match these columns
pub record PartAgrees (s : BuilderState) (columns : List BulkColumn) (rows : List (List Content)) : Type 0 where
  pub stmt_id : s.stmt_id < 2 ^ 32
  pub some : columns ≢ []
  pub long : length columns ≡ first_length rows
  -- declared types are valid
  pub declarable : IfSome s.columns (λ types. All (λ kind. IsTrue (is_declarable kind)) types)
  pub agree : All (AgreesWith (columns_read_by s columns rows)) rows

-- ---- under declared types

-- a number is read as signed or unsigned, like its type
abbrev pub as_signed : Bool → Content → Content
as_signed is_unsigned (Int (pos n)) = if is_unsigned then UInt n else Int (pos n)
as_signed is_unsigned (UInt n) = if is_unsigned then UInt n else Int (pos n)
as_signed is_unsigned value = value

-- the values of a row, as they are read under these types
abbrev pub row_under : List ParamType → List Content → List Content
row_under [] row = row
row_under (t ∷ types) [] = []
row_under (t ∷ types) (value ∷ row) = as_signed (is_unsigned t) value ∷ row_under types row

-- rows with at least one column, for a builder with these declared types; numbers within their widths
pub record IsDeclaredPart (s : BuilderState) (types : List ParamType) (rows : List (List Content)) : Type 0 where
  pub stmt_id : s.stmt_id < 2 ^ 32
  pub columns : s.columns ≡ Some types
  pub declarable : All (λ kind. IsTrue (is_declarable kind)) types
  pub some : types ≢ []
  pub some_row : rows ≢ []
  pub in_range : All (λ row. All IsInRange row) rows
