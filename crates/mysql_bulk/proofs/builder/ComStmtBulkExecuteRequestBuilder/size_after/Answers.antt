use Rattle.std.proofs.Common.{◌≡◌, ◌++◌, ◌∷◌, ℕ, [], map, sym, subst, sum_by, unwrap_or}
use Rattle.std.specs.Prelude.{MatchOption}
use Rattle.std.proofs.lemmas.List.{length-map}
use Rattle.mysql_values.specs.Value.{contents_of}
use Rattle.mysql_cuts.specs.Cut.{PartFits}
use Rattle.mysql_bulk.specs.Row.{row_size}
use Rattle.mysql_bulk.specs.BuilderRows.{waiting_rows}
use Rattle.mysql_bulk.specs.Row.{rows_packing}
use Rattle.mysql_bulk.proofs.BuilderRows.{length-rows_of}
use Rattle.mysql_bulk.proofs.builder.ComStmtBulkExecuteRequestBuilder.size_after.Goals as goal

pub returns : goal.returns
returns g c =
    let rows = waiting_rows c.self.inside.arity c.self.inside.count (contents_of c.self.inside.values.items) in
    let row = map g.V.RowValue.content c.args.row.now in
    let P : ℕ → Type 0 = λ n. MatchOption c.size_with.result (PartFits (rows_packing c.self.inside.rule c.self.inside.limit n) c.self.inside.types_due (rows ++ row ∷ []) → ⊥)
    (λ m. PartFits (rows_packing c.self.inside.rule c.self.inside.limit n) c.self.inside.types_due (rows ++ row ∷ []) × (m ≡ sum_by row_size (rows ++ row ∷ []))) in
    rw (← c.self.view_is)
    (subst P (sym (length-map c.args.row.now g.V.RowValue.content))
    (c.size_with.ensures.fits rows (length-rows_of (unwrap_or c.self.inside.arity 0) c.self.inside.count (contents_of c.self.inside.values.items)) c.self.invariant.flat.size_is))
