use Rattle.std.proofs.Common.{◌++◌, List, ℕ, length, map, drop, get_or, ◌+◌, sym, ap, ◌∙◌, arith, append_assoc}
use Rattle.std.proofs.lemmas.List.{length-append}
use Rattle.mysql_wire.specs.declared.codes.column_type.ColumnType.TheVariants as column
use Rattle.mysql_values.specs.declared.param_type.ParamType.{ParamType}
use Rattle.mysql_values.specs.declared.value_ref.ValueRef.TheVariants as value
use Rattle.mysql_bulk.specs.declared.bulk_value.BulkValue.{BulkValue}
use Rattle.mysql_bulk.specs.declared.bulk_value.BulkValue.TheVariants as bulk
use Rattle.mysql_bulk.specs.BulkValue.{cell_bytes, cell_of, cells_bytes}
use Rattle.mysql_bulk.proofs.BulkValues.{bytes_from}
use Rattle.mysql_bulk.proofs.bulk_value.append_values.Goals as goal

-- the value at an index past the end
abbrev no_type : ParamType
no_type = record { column_type = column.MYSQL_TYPE_DECIMAL; flags = record { 0 = 0; 1 = record {} } }

abbrev no_value : BulkValue
no_value = bulk.Value value.NULL

pub append_cell-requires : goal.append_cell-requires
append_cell-requires g c =
    let i = c.loop-place.place in
    let types = c.args.types.now in
    let row = c.args.row.now in
    let next = bytes_from types row i no_type no_value c.requires.lengths c.loop-place-test.true in
    let held = g.O.Buffer.held c.loop-place.bytes in
    let left = cells_bytes (drop i types) (map cell_of (drop i row)) in
    let whole = ap length c.loop-place.invariant.items in
    omega (arith, whole, ap length next, length-append held left, length-append (cell_bytes (get_or types i no_type) (cell_of (get_or row i no_value))) (cells_bytes (drop (i + 1) types) (map cell_of (drop (i + 1) row))), length-append (g.O.Buffer.held c.args.out.now) (cells_bytes types (map cell_of row)), c.requires.capacity, c.loop-place.invariant.capacity)

pub loop-place-preserved : goal.loop-place-preserved
loop-place-preserved g c =
    let i = c.loop-place.place in
    let types = c.args.types.now in
    let row = c.args.row.now in
    let next = bytes_from types row i no_type no_value c.requires.lengths c.loop-place-test.true in
    let held = g.O.Buffer.held c.loop-place.bytes in
    let after = cells_bytes (drop (i + 1) types) (map cell_of (drop (i + 1) row)) in
    record {
      items =
          ap (λ (l : List ℕ). l ++ after) c.append_cell.ensures.items
          ∙ append_assoc held (cell_bytes (get_or types i no_type) (cell_of (get_or row i no_value))) after
          ∙ ap (λ (l : List ℕ). held ++ l) (sym next)
          ∙ c.loop-place.invariant.items;
      capacity = omega (arith, c.loop-place.invariant.capacity, c.append_cell.ensures.capacity);
    }
