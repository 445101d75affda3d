-- A bulk request, as C requests it.
use Rattle.std.specs.Prelude.{◌≡◌, ◌≢◌, ◌⊎◌, ℕ, zero, suc, ◌++◌, ◌+◌, ◌*◌, ◌-◌, ◌%◌, ◌==◌, ◌&&◌, ◌||◌, ◌≤◌, Bool, true, false, if◌then◌else◌, nat_le, is_some, List, [], ◌∷◌, length, map, take, drop, Option, MatchOption}
use Rattle.std.specs.List.{list_all}
use Rattle.mysql_cuts.specs.Cut.{PartFits, request_size}
use Rattle.mysql_bulk.specs.BulkValue.{Cell, Given, Default, Ignore, cell_bytes, cells_bytes, spells_cell, spells_cells}
use Rattle.mysql_bulk.specs.RequestWriter.{WriterState, head_bytes}
use Rattle.mysql_bulk.specs.ValueRows.{CellsFit, IsRequestOf, packing, plain_rule, rows_bytes, writer_with}
use Rattle.mysql_values.specs.ParamType.{typed}
use Rattle.mysql_values.specs.Value.{NULL}
use Rattle.mysql_values.specs.declared.param_type.ParamType.{ParamType}
use Rattle.mysql_wire.specs.ColumnType.{column_type_code, column_type_of}
use Rattle.mysql_wire.specs.Writing.{saturated}
use Rattle.mysql_wire.specs.declared.codes.column_type.ColumnType.TheVariants as type
use Rattle.mysql_packets_c.specs.ColumnType.{type_of, unsigned_of}
use Rattle.mysql_packets_c.specs.Value.{is_value, value_content}
use Rattle.mysql_packets_c.specs.Output.{Puts}
use Rattle.mysql_packets_c.specs.declared.bulk.BulkCall.{BulkCall}
use Rattle.mysql_packets_c.specs.declared.rows.CColumnType.{CColumnType}
use Rattle.mysql_packets_c.specs.declared.value.CValue.{CValue}

-- ---- arguments

-- the declared type of a column
abbrev pub declared_type : CColumnType → ParamType
declared_type c = typed (type_of c) (unsigned_of c)

abbrev pub declared_types : List CColumnType → List ParamType
declared_types types = map declared_type types

-- the code is that of a type
abbrev pub is_type : CColumnType → Bool
is_type c = is_some (column_type_of c.column_type)

abbrev pub are_types : List CColumnType → Bool
are_types types = list_all is_type types

-- 64 requests the results of each row
abbrev pub may_ask : ℕ → ℕ → ℕ → ℕ → Bool
may_ask flags max_allowed_packet columns values =
    (flags == 0 || flags == 64) && (nat_le 4 max_allowed_packet && (nat_le 1 columns && (values % columns == 0)))

-- such a call is allowed, and the types are valid
abbrev pub IsCall : ℕ → ℕ → List CColumnType → List CValue → Type 0
IsCall flags max_allowed_packet types values =
    (may_ask flags max_allowed_packet (length types) (length values) ≡ true) × (are_types types ≡ true)

-- the library's writer with these settings, before the first row
abbrev pub writer_of : ℕ → ℕ → ℕ → List CColumnType → WriterState
writer_of statement_id flags max_allowed_packet types = writer_with statement_id (max_allowed_packet - 4) (flags == 64) plain_rule (declared_types types) 0

-- ---- values

-- the content of a column: a value, DEFAULT or IGNORE. An invalid value would be sent as NULL, and is refused before.
abbrev pub cell_of : CValue → Cell
cell_of v = if v.kind == 9 then Default else if v.kind == 10 then Ignore else Given (if is_value v then value_content v else NULL)

abbrev pub is_cell : CValue → Bool
is_cell v = is_value v || (v.kind == 9 || v.kind == 10)

abbrev pub cells_of : List CValue → List Cell
cells_of row = map cell_of row

-- the length of a cell under a type, if the type can encode it
abbrev pub IsLen : ParamType → Cell → Option ℕ → Type 0
IsLen t cell len = MatchOption len (spells_cell t cell ≡ false) (λ n. (spells_cell t cell ≡ true) × (n ≡ saturated (length (cell_bytes t cell))))

-- what is sent of a value in a column
abbrev pub value_bytes : CColumnType → CValue → List ℕ
value_bytes column value = cell_bytes (declared_type column) (cell_of value)

abbrev pub row_bytes : List CColumnType → List CValue → List ℕ
row_bytes columns row = cells_bytes (declared_types columns) (cells_of row)

-- NULL, or a number of eight bytes with a sign, or a text, under its own type: BLOB, VAR_STRING or STRING
abbrev pub is_plain : CColumnType → CValue → Bool
is_plain column v =
    if v.kind == 0 then true
    else if v.kind == 1 then nat_le (column_type_code type.MYSQL_TYPE_BLOB) column.column_type && nat_le column.column_type (column_type_code type.MYSQL_TYPE_STRING)
    else if v.kind == 2 then column.column_type == column_type_code type.MYSQL_TYPE_LONGLONG && column.is_unsigned == 0
    else false

-- it is a value, DEFAULT or IGNORE, which the type of its column can encode
abbrev pub takes_value : CColumnType → CValue → Bool
takes_value column value = is_cell value && spells_cell (declared_type column) (cell_of value)

-- the length of what is sent of it, if its type can encode it
abbrev pub IsValueLen : CColumnType → CValue → Option ℕ → Type 0
IsValueLen column value len = MatchOption len (takes_value column value ≡ false) (λ n. (takes_value column value ≡ true) × (n ≡ saturated (length (value_bytes column value))))

-- the row has one of them for each column
abbrev pub takes_row : List CColumnType → List CValue → Bool
takes_row columns row = list_all is_cell row && spells_cells (declared_types columns) (cells_of row)

-- ---- rows of values in one array

-- the first rows
abbrev pub rows_of : ℕ → ℕ → List CValue → List (List CValue)
rows_of columns zero values = []
rows_of columns (suc count) values = take columns values ∷ rows_of columns count (drop columns values)

-- their contents
abbrev pub first_rows : ℕ → ℕ → List CValue → List (List Cell)
first_rows columns count values = map cells_of (rows_of columns count values)

-- the types can encode each of them
abbrev pub takes_rows : List CColumnType → ℕ → List CValue → Bool
takes_rows types count values = list_all (takes_row types) (rows_of (length types) count values)

-- the row after them
abbrev pub row_at : ℕ → ℕ → List CValue → List CValue
row_at columns count values = take columns (drop (count * columns) values)

-- ---- answers

-- the first rows exist, can be sent under the types, and fit in one request
pub record HasRows (w : WriterState) (types : List CColumnType) (count : ℕ) (values : List CValue) : Type 0 where
  pub within : count * length types ≤ length values
  pub taken : takes_rows types count values ≡ true
  pub fit : first_rows (length types) count values ≢ [] → PartFits (packing w) true (first_rows (length types) count values)

-- the row after the first ones can be sent, but doesn't fit with them
pub record NextIsFull (w : WriterState) (types : List CColumnType) (count : ℕ) (values : List CValue) : Type 0 where
  pub taken : takes_row types (row_at (length types) count values) ≡ true
  pub full : CellsFit w (first_rows (length types) count values) (cells_of (row_at (length types) count values)) → ⊥

-- no row is left, or the next one doesn't fit
abbrev pub IsFull : WriterState → List CColumnType → ℕ → List CValue → Type 0
IsFull w types count values = (count * length types ≡ length values) ⊎ NextIsFull w types count values

-- why the row after the first ones is refused: 3 if it can't be sent under the types; 6 if it is the first row and doesn't fit
abbrev pub WhyRefused : WriterState → List CColumnType → ℕ → List CValue → ℕ → Type 0
WhyRefused w types count values code =
    ((code ≡ 3) × (takes_row types (row_at (length types) count values) ≡ false)) ⊎ ((code ≡ 6) × (count ≡ 0) × NextIsFull w types count values)

-- the row after the first ones, which fit in one request, exists and is refused
pub record RefusesAny (w : WriterState) (types : List CColumnType) (values : List CValue) (code : ℕ) : Type 0 where
  pub count : ℕ
  pub rows : HasRows w types count values
  pub there : count * length types + length types ≤ length values
  pub why : WhyRefused w types count values code

-- the request of these rows is written, and their number is returned; if the buffer is too small, nothing is written: code 5, and no row
pub record WritesBuilt (w : WriterState) (cells : List (List Cell)) (count code : ℕ) (old new : List ℕ) (written rows : ℕ) : Type 0 where
  pub request : List ℕ
  pub built : IsRequestOf w cells request
  pub bytes : Puts request code old new written
  pub done : code ≡ 0 → rows ≡ count
  pub small : code ≢ 0 → rows ≡ 0

-- the request of the first rows is written, as many as fit
pub record Writes (w : WriterState) (types : List CColumnType) (values : List CValue) (code : ℕ) (old new : List ℕ) (written rows : ℕ) : Type 0 where
  pub count : ℕ
  pub has_rows : HasRows w types count values
  pub full : IsFull w types count values
  pub built : WritesBuilt w (first_rows (length types) count values) count code old new written rows

abbrev pub WritesNothing : List ℕ → List ℕ → ℕ → ℕ → Type 0
WritesNothing old new written rows = (new ≡ old) × (written ≡ 0) × (rows ≡ 0)

-- the request is written, or a row is refused
abbrev pub Bulk : WriterState → List CColumnType → List CValue → ℕ → List ℕ → List ℕ → ℕ → ℕ → Type 0
Bulk w types values code old new written rows = Writes w types values code old new written rows ⊎ (RefusesAny w types values code × WritesNothing old new written rows)

-- ---- how rows are counted

-- the caller's settings, as the library's writer
abbrev pub writer_for : BulkCall → WriterState
writer_for call = writer_of call.statement_id call.flags call.max_allowed_packet call.columns.now

-- the first rows fit in a request, with a given size
pub record IsCounted (call : BulkCall) (count len : ℕ) (values : List CValue) : Type 0 where
  pub rows : HasRows (writer_for call) call.columns.now count values
  pub size : len ≡ request_size (packing (writer_for call)) true (first_rows (length call.columns.now) count values)

-- and no more fit
pub record Counted (call : BulkCall) (count len : ℕ) (values : List CValue) : Type 0 where
  pub counted : IsCounted call count len values
  pub full : IsFull (writer_for call) call.columns.now count values
  pub some : count ≡ 0 → values ≡ []

-- ---- the bytes of a request

-- what precedes the rows
abbrev pub head_for : ℕ → ℕ → List CColumnType → List ℕ
head_for statement_id flags types = head_bytes (writer_of statement_id flags 4 types)

abbrev pub head_with : BulkCall → List ℕ
head_with call = head_for call.statement_id call.flags call.columns.now

-- the rows after some of the first ones
abbrev pub rows_from : List CColumnType → (count place : ℕ) → List CValue → List ℕ
rows_from types count place values = rows_bytes (declared_types types) (first_rows (length types) (count - place) (drop (place * length types) values))

-- a request with the first rows of these values
abbrev pub request_with : BulkCall → (count : ℕ) → List CValue → List ℕ
request_with call count values = head_with call ++ rows_from call.columns.now count 0 values
