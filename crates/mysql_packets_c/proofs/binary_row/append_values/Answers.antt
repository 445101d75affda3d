use Rattle.std.proofs.Common.{◌≡◌, ◌<◌, ◌+◌, ◌++◌, ℕ, List, drop, length, get_or, arith}
use Rattle.std.proofs.lemmas.List.{get_or_default}
use Rattle.mysql_values.specs.Value.{Content}
use Rattle.mysql_stmt.specs.BinaryRow.{bin_in, values_bytes}
use Rattle.mysql_stmt.specs.ExecuteParam.{contents, value_of}
use Rattle.mysql_stmt.proofs.RowBytes.{bytes-end, bytes-next}
use Rattle.mysql_packets_c.specs.ColumnType.{type_of, unsigned_of}
use Rattle.mysql_packets_c.specs.Execution.{param}
use Rattle.mysql_packets_c.specs.declared.rows.CColumnType.{CColumnType}
use Rattle.mysql_packets_c.specs.declared.value.CValue.{CValue}
use Rattle.mysql_packets_c.proofs.Appends.{all-written, one-written, piece-fits}
use Rattle.mysql_packets_c.proofs.BinaryRows.{no_column, no_value}
use Rattle.mysql_packets_c.proofs.binary_row.append_values.Goals as goal

cells-from : (columns : List CColumnType) (values : List CValue) (i : ℕ) → length columns ≡ length values → i < length values
    → values_bytes type_of unsigned_of (drop i columns) (contents param (drop i values))
    ≡ bin_in (type_of (get_or columns i no_column)) (value_of (param (get_or values i no_value))) ++ values_bytes type_of unsigned_of (drop (i + 1) columns) (contents param (drop (i + 1) values))
cells-from columns values i same within =
    let held : CValue → Content = λ v. value_of (param v) in
    let column = get_or columns i no_column in
    let value = get_or values i no_value in
    let inside : i < length columns = omega arith in
    bytes-next type_of unsigned_of held columns values i column value same within (get_or_default columns i no_column column inside) (get_or_default values i no_value value within)

pub append_cell-requires : goal.append_cell-requires
append_cell-requires g c =
    let k = c.loop-place.invariant in
    piece-fits _ _ k.cells (cells-from c.args.columns.now c.args.values.now c.loop-place.place k.lengths c.loop-place-test.true) c.requires.capacity

pub loop-place-preserved : goal.loop-place-preserved
loop-place-preserved g c =
    let k = c.loop-place.invariant in
    record { lengths = k.lengths; cells = one-written k.cells (cells-from c.args.columns.now c.args.values.now c.loop-place.place k.lengths c.loop-place-test.true) c.append_cell.ensures }

pub returns : goal.returns
returns g c =
    let k = c.loop-place.invariant in
    let held : CValue → Content = λ v. value_of (param v) in
    all-written k.cells (bytes-end type_of unsigned_of held c.args.columns.now c.args.values.now c.loop-place.place k.lengths (omega (arith, c.loop-place-test.false)))
