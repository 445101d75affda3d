use Rattle.std.proofs.Common.{◌≡◌, ◌≢◌, ◌++◌, ◌∷◌, [], sym, ◌∙◌, ap, arith, rules}
use Rattle.std.proofs.lemmas.List.{map_push}
use Rattle.std.proofs.lemmas.Result.{err_from_is_err_and}
use Rattle.mysql_wire.proofs.ReadAll.{one-more, no-more, takes-none, one-fails, tail-shorter}
use Rattle.mysql_bulk.specs.Row.{contents_of_row, contents_of_rows}
use Rattle.mysql_bulk.specs.ReadRows.{row_of_columns}
use Rattle.mysql_bulk.proofs.read_rows.read_rows.Goals as goal

pub returns-in_err-row-clause-value : goal.returns-in_err-row-clause-value
returns-in_err-row-clause-value c =
    let f = row_of_columns c.args.columns.now in
    let p = err_from_is_err_and c.from_residual.result c.from_residual.ensures.1 in
    let some : c.loop-rest.rest ≢ [] = search rules in
    rw (p.1, p.2) (one-fails f (contents_of_rows c.loop-rest.rows.items) c.loop-rest.rest _ c.loop-rest.invariant _ c.in_err-row.field-0.0 some c.in_err-row.ensures.value)

pub returns-then-len-before-clause-value : goal.returns-then-len-before-clause-value
returns-then-len-before-clause-value c =
    let f = row_of_columns c.args.columns.now in
    let some : c.loop-rest.rest ≢ [] = search rules in
    takes-none f (contents_of_rows c.loop-rest.rows.items) c.loop-rest.rest _ c.loop-rest.invariant (contents_of_row c.in_ok-row.row) c.read_row.new.buf some (sym c.len.ensures ∙ c.if-len-before.true ∙ c.len-before.ensures) c.in_ok-row.ensures.value

pub loop-rest-preserved : goal.loop-rest-preserved
loop-rest-preserved c =
    let f = row_of_columns c.args.columns.now in
    let shorter = tail-shorter c.read_row.new.buf c.loop-rest.rest (f.front (contents_of_row c.in_ok-row.row) c.loop-rest.rest c.read_row.new.buf c.in_ok-row.ensures.value) (omega (arith, c.len.ensures, c.len-before.ensures, c.if-len-before.false)) in
    let seam : contents_of_rows c.push.new.self.items ≡ contents_of_rows c.loop-rest.rows.items ++ contents_of_row c.in_ok-row.row ∷ [] = ap contents_of_rows c.in_ok-push.ensures.items ∙ map_push contents_of_row c.loop-rest.rows.items c.in_ok-row.row in
    rw seam (one-more f (contents_of_rows c.loop-rest.rows.items) c.loop-rest.rest _ c.loop-rest.invariant (contents_of_row c.in_ok-row.row) c.read_row.new.buf shorter c.in_ok-row.ensures.value)

pub returns-clause-value : goal.returns-clause-value
returns-clause-value c =
    let f = row_of_columns c.args.columns.now in
    let none : c.loop-rest.rest ≡ [] = search rules in
    rw none (no-more f (contents_of_rows c.loop-rest.rows.items) c.loop-rest.rest _ c.loop-rest.invariant none)
