-- Rows of values, DEFAULT and IGNORE, cell by cell.
use Rattle.std.proofs.Common.{◌≡◌, ◌≢◌, ℕ, suc, ◌+◌, ◌<◌, ◌&&◌, true, false, List, [], ◌∷◌, ◌++◌, length, map, drop, drop-cons, get_or, add-one, refl, sym, ◌∙◌, ap, arith}
use Rattle.std.proofs.lemmas.Bool.{and_parts, false_from_ne_true}
use Rattle.std.proofs.lemmas.List.{length-map}
use Rattle.mysql_values.specs.declared.param_type.ParamType.{ParamType}
use Rattle.mysql_bulk.specs.BulkValue.{Cell, cell_bytes, cell_of, cells_bytes, spells_cell, spells_cells}
use Rattle.mysql_bulk.specs.declared.bulk_value.BulkValue.{BulkValue}

-- a row has as many cells as there are types that spell it
pub cells_long : (types : List ParamType) (row : List Cell) → spells_cells types row ≡ true → length row ≡ length types
cells_long [] [] e = refl
cells_long (t ∷ types) (cell ∷ row) e = ap suc (cells_long types row (and_parts (spells_cell t cell) (spells_cells types row) e).1)
cells_long types row e = let f : false ≡ true = e in cc

pub not_as_long : (types : List ParamType) (row : List BulkValue) → length types ≢ length row → spells_cells types (map cell_of row) ≡ false
not_as_long types row n = false_from_ne_true (spells_cells types (map cell_of row)) (λ e. n (sym (cells_long types (map cell_of row) e) ∙ length-map row cell_of))

-- one cell, and those after it
pub spells_from : (types : List ParamType) (row : List BulkValue) (i : ℕ) (d : ParamType) (e : BulkValue) → length types ≡ length row → i < length row
    → spells_cells (drop i types) (map cell_of (drop i row)) ≡ (spells_cell (get_or types i d) (cell_of (get_or row i e)) && spells_cells (drop (i + 1) types) (map cell_of (drop (i + 1) row)))
spells_from types row i d e same lt = rw (add-one, drop-cons types i d (omega arith), drop-cons row i e lt) refl

pub bytes_from : (types : List ParamType) (row : List BulkValue) (i : ℕ) (d : ParamType) (e : BulkValue) → length types ≡ length row → i < length row
    → cells_bytes (drop i types) (map cell_of (drop i row)) ≡ cell_bytes (get_or types i d) (cell_of (get_or row i e)) ++ cells_bytes (drop (i + 1) types) (map cell_of (drop (i + 1) row))
bytes_from types row i d e same lt = rw (add-one, drop-cons types i d (omega arith), drop-cons row i e lt) refl
