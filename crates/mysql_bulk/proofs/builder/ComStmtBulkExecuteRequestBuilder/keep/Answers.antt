use Rattle.std.proofs.Common.{◌≡◌, ◌++◌, List, sym, ◌∙◌, ap, arith, if◌then◌else◌}
use Rattle.std.specs.Option.{option_copied}
use Rattle.std.proofs.lemmas.List.{length-map}
use Rattle.mysql_values.specs.declared.value.Value.{Value}
use Rattle.mysql_values.specs.Value.{content_of, contents_of}
use Rattle.mysql_values.specs.declared.param_type.ParamType.{ParamType}
use Rattle.mysql_bulk.specs.ColumnTypes.{types_after_row}
use Rattle.mysql_bulk.specs.Row.{contents_of_row}
use Rattle.mysql_bulk.specs.Builder.{BuilderState, after_row}
use Rattle.mysql_bulk.proofs.BuilderSteps.{same_state, stored_before, stored_countable, stored_not_full, stored_next, state_next, held_after}
use Rattle.mysql_bulk.proofs.builder.ComStmtBulkExecuteRequestBuilder.keep.Goals as goal

pub join_types-requires-clause-may_follow : goal.join_types-requires-clause-may_follow
join_types-requires-clause-may_follow c = λ due.
    rw (c.find_capacity.ensures.types, c.as_slice.ensures.value) (stored_before c.self.invariant (contents_of_row c.args.row) (rw (← c.self.view_is) at c.requires.takes) due)

pub invariant_of-self-2 : goal.invariant_of-self-2
invariant_of-self-2 c =
    let back = sym (same_state c.self.view_is) in
    let taken = rw back at c.requires.takes in
    let fits = rw back at c.requires.fits in
    let total = rw back at c.requires.size in
    let declared = option_copied c.self.inside.columns in
    let joined : c.join_types.new.types.items ≡ (if c.self.inside.types_due then types_after_row declared c.self.inside.types.items (contents_of_row c.args.row) else c.self.inside.types.items) =
    c.join_types.ensures.items
    ∙ ap (λ (l : List ParamType). if c.self.inside.types_due then types_after_row declared l (contents_of c.as_slice.result.now) else l) c.find_capacity.ensures.types
    ∙ ap (λ (r : List Value). if c.self.inside.types_due then types_after_row declared c.self.inside.types.items (contents_of r) else c.self.inside.types.items) c.as_slice.ensures.value in
    stored_next c.self.invariant c.args.size c.len-arity.result c.in-Some.count (contents_of_row c.args.row) (contents_of c.append_row.new.values.items) c.join_types.new.types.items taken fits total
    (c.len-arity.ensures ∙ c.args.row.ok.0 ∙ sym (length-map c.args.row.items content_of)) c.in-Some.ensures.1
    (held_after c.append_row.new.values.items c.self.inside.values.items c.args.row.items (c.append_row.ensures.items ∙ ap (λ (l : List Value). l ++ c.args.row.items) c.find_capacity.ensures.values)) joined

pub returns-clause-kept : goal.returns-clause-kept
returns-clause-kept c =
    let taken = rw (sym (same_state c.self.view_is)) at c.requires.takes in
    state_next c.self.invariant c.len-arity.result c.in-Some.count (contents_of_row c.args.row) (contents_of c.append_row.new.values.items) taken.0 (c.len-arity.ensures ∙ c.args.row.ok.0 ∙ sym (length-map c.args.row.items content_of)) c.in-Some.ensures.1
    (held_after c.append_row.new.values.items c.self.inside.values.items c.args.row.items (c.append_row.ensures.items ∙ ap (λ (l : List Value). l ++ c.args.row.items) c.find_capacity.ensures.values))
    ∙ ap (λ (s : BuilderState). after_row s (contents_of_row c.args.row)) (same_state c.self.view_is)

pub returns-in_default-clause-no_memory : goal.returns-in_default-clause-no_memory
returns-in_default-clause-no_memory c = λ spare.
    let counted = stored_countable c.self.invariant _ _ _ (rw (← c.self.view_is) at spare) in
    let all = c.in_default.ensures in
    absurd (omega (arith, counted, all))

pub returns-in_default-find_capacity-clause-no_memory : goal.returns-in_default-find_capacity-clause-no_memory
returns-in_default-find_capacity-clause-no_memory c = λ spare.
    let has = rw (sym (c.len-arity.ensures ∙ c.args.row.ok.0), ← c.self.view_is) at spare in
    let held = c.self.inside.values.ok.0 ∙ sym (length-map c.self.inside.values.items content_of) in
    absurd (stored_not_full c.self.invariant _ _ c.len-arity.result _ held has c.in_default-find_capacity.ensures.full)
