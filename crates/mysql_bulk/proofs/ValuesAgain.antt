-- A row of values, DEFAULT and IGNORE is read again under its types.
use Rattle.std.proofs.Common.{◌≡◌, ℕ, ◌+◌, Bool, true, false, if◌then◌else◌, is_some, List, [], ◌∷◌, ◌++◌, map, Option, Some, None, unwrap_or, refl, sym, subst, append_assoc}
use Rattle.std.proofs.lemmas.Bool.{and_parts}
use Rattle.std.proofs.lemmas.List.Elements.{All-head, All-tail}
use Rattle.std.proofs.lemmas.Option.{same_Some}
use Rattle.std.specs.List.{All}
use Rattle.std.specs.Option.{option_map}
use Rattle.mysql_wire.specs.Each.{each}
use Rattle.mysql_wire.specs.FlagMasks.{UNSIGNED_FLAG}
use Rattle.mysql_wire.specs.Flags.{has}
use Rattle.mysql_wire.specs.MariadbBulkIndicator.{mariadb_bulk_indicator-again}
use Rattle.mysql_wire.specs.Spelling.{IsSpelling}
use Rattle.mysql_wire.specs.declared.codes.mariadb_bulk_indicator.MariadbBulkIndicator.{MariadbBulkIndicator}
use Rattle.mysql_wire.specs.declared.codes.mariadb_bulk_indicator.MariadbBulkIndicator.TheVariants.{BULK_INDICATOR_NONE, BULK_INDICATOR_NULL, BULK_INDICATOR_DEFAULT, BULK_INDICATOR_IGNORE}
use Rattle.mysql_values.specs.declared.param_type.ParamType.{ParamType}
use Rattle.mysql_values.specs.TypedValue.{is_unsigned_type, read_under, spelled}
use Rattle.mysql_values.specs.Value.{Content, NULL}
use Rattle.mysql_values.specs.ValueDeserializer.{bin_value}
use Rattle.mysql_values.proofs.UnderType.{under-again}
use Rattle.mysql_bulk.specs.BulkValue.{Cell, Given, Default, Ignore, cell_bytes, cell_spelled, cells_bytes, indicator_bytes, spells_cell, spells_cells}
use Rattle.mysql_bulk.specs.Head.{column_of_type}
use Rattle.mysql_bulk.specs.ParamValue.{param_value, value_follows}
use Rattle.mysql_bulk.specs.ParamValues.{value_of_column}
use Rattle.mysql_bulk.specs.ReadValues.{CellFits, cell_read, row_read}

-- ---- a cell

mapped : {A B : Type 0} (f : A → B) (o : Option A) (y : B) → option_map f o ≡ Some y → (x : A) × (o ≡ Some x) × (f x ≡ y)
mapped f None y e = absurd cc
mapped f (Some x) y e = (x, refl, same_Some (f x) y e)

-- an indicator, after which no value stands
alone : (t : ParamType) (u : Bool) (i : MariadbBulkIndicator) → value_follows i ≡ false → IsSpelling (param_value t.column_type u) (record { indicator = i; content = NULL }) (indicator_bytes i)
alone t u i none rest = (record { 0 = i; 1 = record {} }, rest, mariadb_bulk_indicator-again (record { 0 = i; 1 = record {} }) rest, (NULL, rest, rw none (refl, refl), (refl, refl)))

-- a value after its indicator
followed : (t : ParamType) (u : Bool) (value : Content) (bytes : List ℕ) → IsSpelling (bin_value t.column_type u) value bytes
    → IsSpelling (param_value t.column_type u) (record { indicator = BULK_INDICATOR_NONE; content = value }) (indicator_bytes BULK_INDICATOR_NONE ++ bytes)
followed t u value bytes again rest =
    rw append_assoc (
      record { 0 = BULK_INDICATOR_NONE; 1 = record {} },
      bytes ++ rest,
      mariadb_bulk_indicator-again (record { 0 = BULK_INDICATOR_NONE; 1 = record {} }) (bytes ++ rest),
      (value, rest, again rest, (refl, refl)),
    )

-- a value that is no NULL
given-again : (t : ParamType) (x : Content) (bytes : List ℕ) → ((b : List ℕ) → spelled t x ≡ Some b → IsSpelling (bin_value t.column_type (is_unsigned_type t)) (read_under t x) b)
    → option_map (λ (b : List ℕ). indicator_bytes BULK_INDICATOR_NONE ++ b) (spelled t x) ≡ Some bytes
    → IsSpelling (param_value t.column_type (is_unsigned_type t)) (record { indicator = BULK_INDICATOR_NONE; content = read_under t x }) bytes
given-again t x bytes again e =
    let m = mapped (λ (b : List ℕ). indicator_bytes BULK_INDICATOR_NONE ++ b) (spelled t x) bytes e in
    subst (IsSpelling (param_value t.column_type (is_unsigned_type t)) (record { indicator = BULK_INDICATOR_NONE; content = read_under t x })) m.2 (followed t (is_unsigned_type t) (read_under t x) m.0 (again m.0 m.1))

pub cell-again : (t : ParamType) (cell : Cell) (bytes : List ℕ) → CellFits cell → cell_spelled t cell ≡ Some bytes → IsSpelling (param_value t.column_type (is_unsigned_type t)) (cell_read t cell) bytes
cell-again t (Given NULL) bytes fits e = subst (IsSpelling (param_value t.column_type (is_unsigned_type t)) (cell_read t (Given NULL))) (same_Some (indicator_bytes BULK_INDICATOR_NULL) bytes e) (alone t (is_unsigned_type t) BULK_INDICATOR_NULL refl)
cell-again t (Given x) bytes fits e = given-again t x bytes (λ b. under-again t x b fits) e
cell-again t Default bytes fits e = subst (IsSpelling (param_value t.column_type (is_unsigned_type t)) (cell_read t Default)) (same_Some (indicator_bytes BULK_INDICATOR_DEFAULT) bytes e) (alone t (is_unsigned_type t) BULK_INDICATOR_DEFAULT refl)
cell-again t Ignore bytes fits e = subst (IsSpelling (param_value t.column_type (is_unsigned_type t)) (cell_read t Ignore)) (same_Some (indicator_bytes BULK_INDICATOR_IGNORE) bytes e) (alone t (is_unsigned_type t) BULK_INDICATOR_IGNORE refl)

-- ---- a row

there : {A : Type 0} (o : Option A) (d : A) → is_some o ≡ true → o ≡ Some (unwrap_or o d)
there None d h = absurd cc
there (Some x) d h = refl

-- a column is unsigned if its type is
flag_kept : (b : Bool) → has (if b then UNSIGNED_FLAG else 0) UNSIGNED_FLAG ≡ b
flag_kept true = refl
flag_kept false = refl

of_column : (place : ℕ) (t : ParamType) (cell : Cell) → CellFits cell → spells_cell t cell ≡ true → IsSpelling (value_of_column place (column_of_type t)) (cell_read t cell) (cell_bytes t cell)
of_column place t cell fits is =
    let F : Bool → Type 0 = λ u. IsSpelling (param_value t.column_type u) (cell_read t cell) (cell_bytes t cell) in
    subst F (sym (flag_kept (is_unsigned_type t))) (cell-again t cell (cell_bytes t cell) fits (there (cell_spelled t cell) [] is))

cells-again : (place : ℕ) (types : List ParamType) (row : List Cell) → spells_cells types row ≡ true → All CellFits row → IsSpelling (each value_of_column place (map column_of_type types)) (row_read types row) (cells_bytes types row)
unfolding each
cells-again place [] [] is fit rest = (refl, refl)
cells-again place [] (cell ∷ row) is fit rest = absurd cc
cells-again place (t ∷ types) [] is fit rest = absurd cc
cells-again place (t ∷ types) (cell ∷ row) is fit rest =
    let both = and_parts (spells_cell t cell) (spells_cells types row) is in
    let mid = cells_bytes types row ++ rest in
    rw append_assoc (
      cell_read t cell,
      mid,
      of_column place t cell (All-head CellFits cell row fit) both.0 mid,
      (row_read types row, rest, cells-again (place + 1) types row both.1 (All-tail CellFits cell row fit) rest, (refl, refl)),
    )

pub row-again : (types : List ParamType) (row : List Cell) → spells_cells types row ≡ true → All CellFits row → IsSpelling (each value_of_column 0 (map column_of_type types)) (row_read types row) (cells_bytes types row)
row-again types row is fit = cells-again 0 types row is fit
