use Rattle.std.proofs.Common.{◌≡◌, ◌++◌, ◌∷◌, [], Ok, ◌∙◌, ap}
use Rattle.std.proofs.lemmas.List.{map_push}
use Rattle.std.proofs.lemmas.Result.{err_from_is_err_and}
use Rattle.mysql_wire.specs.Reading.{Reading, then_read}
use Rattle.mysql_values.specs.Value.{Content, content_of, contents_of}
use Rattle.mysql_bulk.specs.ParamValue.{ParamValue}
use Rattle.mysql_bulk.specs.ReadRows.{content_of_column}
use Rattle.mysql_wire.proofs.Each.{next-one, one-fails, none-left, mapped-fails}
use Rattle.mysql_bulk.proofs.read_rows.read_row.Goals as goal

pub returns-in_err-value-clause-value : goal.returns-in_err-value-clause-value
returns-in_err-value-clause-value c =
    let p = err_from_is_err_and c.from_residual.result c.from_residual.ensures.1 in
    rw (p.1, p.2) (one-fails content_of_column (contents_of c.loop-column.row.items) c.args.columns.now c.loop-column.column-index c.loop-column.rest _ c.loop-column.invariant _ _ c.in_err-value.field-0.0
    c.loop-column-test.true (mapped-fails (λ (v : ParamValue). v.content) _ c.in_err-value.field-0.0 _ c.in_err-value.ensures.value))

pub loop-column-preserved : goal.loop-column-preserved
loop-column-preserved c =
    let seam : contents_of c.push.new.self.items ≡ contents_of c.loop-column.row.items ++ c.in_ok-value.value.content ∷ [] =
    ap contents_of c.in_ok-push.ensures.items ∙ map_push content_of c.loop-column.row.items c.into_value.result ∙ ap (λ (x : Content). contents_of c.loop-column.row.items ++ x ∷ []) c.into_value.ensures in
    rw seam (next-one content_of_column (contents_of c.loop-column.row.items) c.args.columns.now c.loop-column.column-index c.loop-column.rest _ c.loop-column.invariant _ c.in_ok-value.value.content c.parse.new.self
    c.loop-column-test.true (ap (λ (r : Reading ParamValue). then_read r (λ x rest. Ok (x.content, rest))) c.in_ok-value.ensures.value))

pub returns-clause-value : goal.returns-clause-value
returns-clause-value c =
    none-left content_of_column (contents_of c.loop-column.row.items) c.args.columns.now c.loop-column.column-index c.loop-column.rest _ c.loop-column.invariant c.loop-column-test.false
