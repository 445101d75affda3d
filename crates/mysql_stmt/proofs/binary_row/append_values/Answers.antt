use Rattle.std.proofs.Common.{◌≡◌, ◌+◌, ◌++◌, ℕ, List, length, drop, ap, sym, ◌∙◌, arith, append_assoc, length-append}
use Rattle.std.proofs.lemmas.List.{append-nil, drop-drop}
use Rattle.mysql_values.specs.Value.{Content}
use Rattle.mysql_stmt.specs.BinaryRow.{bin_in, values_bytes}
use Rattle.mysql_stmt.specs.ExecuteParam.{contents, value_of}
use Rattle.mysql_stmt.proofs.RowBytes.{bytes-next, length-next, bytes-end}
use Rattle.mysql_stmt.proofs.binary_row.append_values.Goals as goal

pub append_cell-requires : goal.append_cell-requires
append_cell-requires g c =
    let cells = values_bytes g.C.TypedColumn.type_of g.C.TypedColumn.unsigned in
    let held : g.row.V.Denot → Content = λ v. value_of (g.V.AsExecuteParam.param v) in
    let k = c.loop-place.invariant in
    let columns = c.args.columns.now in
    let values = c.args.values.now in
    let i = c.loop-place.place in
    let next = length-next g.C.TypedColumn.type_of g.C.TypedColumn.unsigned held columns values i c.index-columns-place.result c.index-values-place.result k.lengths c.loop-place-test.true c.index-columns-place.is c.index-values-place.is in
    let before = length-append (g.O.Buffer.held c.loop-place.bytes) (cells (drop i columns) (contents g.V.AsExecuteParam.param (drop i values))) in
    let whole = length-append (g.O.Buffer.held c.args.out.now) (cells columns (contents g.V.AsExecuteParam.param values)) in
    rw (c.value_type.ensures) (omega (arith, next, before, whole, ap length k.left, k.capacity, c.requires.capacity))

pub loop-place-preserved : goal.loop-place-preserved
loop-place-preserved g c =
    let held : g.row.V.Denot → Content = λ v. value_of (g.V.AsExecuteParam.param v) in
    let k = c.loop-place.invariant in
    let columns = c.args.columns.now in
    let values = c.args.values.now in
    let i = c.loop-place.place in
    let out = c.loop-place.bytes in
    let column = c.index-columns-place.result in
    let value = c.index-values-place.result in
    let this = bin_in (g.C.TypedColumn.type_of column) (held value) in
    let later = values_bytes g.C.TypedColumn.type_of g.C.TypedColumn.unsigned (drop (i + 1) columns) (contents g.V.AsExecuteParam.param (drop (i + 1) values)) in
    let next = bytes-next g.C.TypedColumn.type_of g.C.TypedColumn.unsigned held columns values i column value k.lengths c.loop-place-test.true c.index-columns-place.is c.index-values-place.is in
    let long : length this + length later ≡ length (values_bytes g.C.TypedColumn.type_of g.C.TypedColumn.unsigned (drop i columns) (contents g.V.AsExecuteParam.param (drop i values))) =
    omega (arith, ap length next, length-append this later) in
    record {
      lengths = k.lengths;
      left = rw (c.append_cell.ensures.items, c.value_type.ensures) (append_assoc (g.O.Buffer.held out) this later ∙ ap (λ (l : List ℕ). g.O.Buffer.held out ++ l) (sym next) ∙ k.left);
      after = rw (c.append_cell.ensures.after, c.value_type.ensures) (drop-drop (length later) (length this) (g.O.Buffer.after out) ∙ ap (λ (n : ℕ). drop n (g.O.Buffer.after out)) long ∙ k.after);
      capacity = omega (arith, k.capacity, c.append_cell.ensures.capacity);
      kept = c.append_cell.ensures.kept ∙ k.kept;
    }

pub returns : goal.returns
returns g c =
    let held : g.row.V.Denot → Content = λ v. value_of (g.V.AsExecuteParam.param v) in
    let k = c.loop-place.invariant in
    let none = bytes-end g.C.TypedColumn.type_of g.C.TypedColumn.unsigned held c.args.columns.now c.args.values.now c.loop-place.place k.lengths (omega (arith, c.loop-place-test.false)) in
    record {
      items = sym (append-nil (g.O.Buffer.held c.loop-place.bytes)) ∙ ap (λ (l : List ℕ). g.O.Buffer.held c.loop-place.bytes ++ l) (sym none) ∙ k.left;
      after = ap (λ (l : List ℕ). drop (length l) (g.O.Buffer.after c.loop-place.bytes)) (sym none) ∙ k.after;
      capacity = k.capacity;
      kept = k.kept;
    }
