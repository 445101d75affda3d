use Rattle.std.proofs.Common.{◌≡◌, ◌+◌, ◌≤◌, ◌++◌, ◌∷◌, true, false, List, [], None, Some, inl, inr, length, map, sym, ◌∙◌, ap, arith, subst, sum_by, if◌then◌else◌}
use Rattle.std.specs.Option.{option_copied}
use Rattle.std.proofs.lemmas.List.{length-map}
use Rattle.std.proofs.lemmas.List.Sums.{sum_by-append}
use Rattle.mysql_values.specs.declared.value.Value.{Value}
use Rattle.mysql_values.specs.Value.{content_of, contents_of}
use Rattle.mysql_values.specs.declared.param_type.ParamType.{ParamType}
use Rattle.mysql_bulk.specs.ColumnTypes.{types_after_row}
use Rattle.mysql_bulk.specs.Row.{row_size}
use Rattle.mysql_bulk.specs.Builder.{BuilderState, RowFits, after_row}
use Rattle.mysql_bulk.specs.BuilderRows.{waiting_rows}
use Rattle.mysql_bulk.proofs.BuilderSteps.{same_state, stored_before, stored_countable, stored_not_full, stored_room, stored_next, state_next}
use Rattle.mysql_bulk.proofs.RequestBytes.{size_of_contents}
use Rattle.mysql_bulk.proofs.builder.ComStmtBulkExecuteRequestBuilder.takes_copy.Goals as goal

pub join_types-requires-clause-may_follow : goal.join_types-requires-clause-may_follow
join_types-requires-clause-may_follow g c = λ due.
    rw c.find_capacity.ensures.types (stored_before c.self.invariant (map g.V.RowValue.content c.args.row.now) (rw (sym (same_state c.self.view_is)) at c.requires) due)

pub invariant_of-self-2 : goal.invariant_of-self-2
invariant_of-self-2 g c =
    let row = map g.V.RowValue.content c.args.row.now in
    let long = length-map c.args.row.now g.V.RowValue.content in
    let rows = waiting_rows c.self.inside.arity c.self.inside.count (contents_of c.self.inside.values.items) in
    let bytes : c.in-Some-append_copies.size ≡ row_size row = c.in-Some-append_copies.ensures.size.0 ∙ size_of_contents g.V.RowValue.content c.args.row.now in
    let fits = (stored_room c.self.invariant (length c.args.row.now) row (Some c.in-Some.most) (sym long) c.in-Some.ensures.fits).1 (rw bytes at c.in-Some-append_copies.ensures.size.1) in
    let total : c.self.inside.size + c.in-Some-append_copies.size ≡ sum_by row_size (rows ++ row ∷ []) = omega (arith, sum_by-append row_size rows (row ∷ []), c.self.invariant.flat.size_is, bytes) in
    let held : contents_of c.append_copies.new.values.items ≡ contents_of c.self.inside.values.items ++ row =
    c.in-Some-append_copies.ensures.copies ∙ ap (λ (l : List Value). contents_of l ++ row) c.find_capacity.ensures.values in
    let types : c.join_types.new.types.items ≡ (if c.self.inside.types_due then types_after_row (option_copied c.self.inside.columns) c.self.inside.types.items row else c.self.inside.types.items) =
    c.join_types.ensures.items ∙ ap (λ (l : List ParamType). if c.self.inside.types_due then types_after_row (option_copied c.self.inside.columns) l row else l) c.find_capacity.ensures.types in
    stored_next c.self.invariant (c.self.inside.size + c.in-Some-append_copies.size) (length c.args.row.now) c.in-Some-checked_add.count row (contents_of c.append_copies.new.values.items) c.join_types.new.types.items
    (rw (sym (same_state c.self.view_is)) at c.requires) fits total (sym long) c.in-Some-checked_add.ensures.1 held types

pub returns-clause-waits : goal.returns-clause-waits
returns-clause-waits g c =
    let row = map g.V.RowValue.content c.args.row.now in
    let long = length-map c.args.row.now g.V.RowValue.content in
    let F : BuilderState → Type 0 = λ s. RowFits s row in
    let bytes : c.in-Some-append_copies.size ≡ row_size row = c.in-Some-append_copies.ensures.size.0 ∙ size_of_contents g.V.RowValue.content c.args.row.now in
    let fits = (stored_room c.self.invariant (length c.args.row.now) row (Some c.in-Some.most) (sym long) c.in-Some.ensures.fits).1 (rw bytes at c.in-Some-append_copies.ensures.size.1) in
    let held : contents_of c.append_copies.new.values.items ≡ contents_of c.self.inside.values.items ++ row =
    c.in-Some-append_copies.ensures.copies ∙ ap (λ (l : List Value). contents_of l ++ row) c.find_capacity.ensures.values in (
      subst F (same_state c.self.view_is) fits,
      state_next c.self.invariant (length c.args.row.now) c.in-Some-checked_add.count row (contents_of c.append_copies.new.values.items) (rw (sym (same_state c.self.view_is)) at c.requires).0 (sym long)
          c.in-Some-checked_add.ensures.1 held
          ∙ ap (λ (s : BuilderState). after_row s row) (same_state c.self.view_is),
    )

-- each refusal is that of a row that doesn't fit, or takes memory

pub returns-in_default-clause-no_memory : goal.returns-in_default-clause-no_memory
returns-in_default-clause-no_memory g c = λ spare fits.
    let row = map g.V.RowValue.content c.args.row.now in
    let long = length-map c.args.row.now g.V.RowValue.content in
    absurd (stored_room c.self.invariant (length c.args.row.now) row None (sym long) c.in_default.ensures.fits (rw (sym (same_state c.self.view_is)) at fits))

pub returns-in_default-checked_add-clause-no_memory : goal.returns-in_default-checked_add-clause-no_memory
returns-in_default-checked_add-clause-no_memory g c = λ spare fits.
    let counted = stored_countable c.self.invariant _ _ _ (rw (← c.self.view_is) at spare.0) in
    let all = c.in_default-checked_add.ensures in
    absurd (omega (arith, counted, all))

pub returns-in_default-find_capacity-clause-no_memory : goal.returns-in_default-find_capacity-clause-no_memory
returns-in_default-find_capacity-clause-no_memory g c = λ spare fits.
    let has = rw (length-map c.args.row.now g.V.RowValue.content, ← c.self.view_is) at spare.0 in
    let held = c.self.inside.values.ok.0 ∙ sym (length-map c.self.inside.values.items content_of) in
    absurd (stored_not_full c.self.invariant _ _ (length c.args.row.now) _ held has c.in_default-find_capacity.ensures.full)

pub returns-in_default-append_copies-clause-no_memory : goal.returns-in_default-append_copies-clause-no_memory
returns-in_default-append_copies-clause-no_memory g c = λ spare fits.
    let row = map g.V.RowValue.content c.args.row.now in
    let long = length-map c.args.row.now g.V.RowValue.content in
    let short : row_size row ≤ c.in-Some.most = (stored_room c.self.invariant (length c.args.row.now) row (Some c.in-Some.most) (sym long) c.in-Some.ensures.fits).0 (rw (sym (same_state c.self.view_is)) at fits) in
    elim c.in_default-append_copies.ensures.refused [
      | inl more ↦ absurd (omega (arith, short, more))
      | inr bytes ↦ let e : true ≡ false = sym bytes ∙ spare.1 in cc
    ]
