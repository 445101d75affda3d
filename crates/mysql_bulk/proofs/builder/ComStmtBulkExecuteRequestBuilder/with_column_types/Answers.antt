use Rattle.std.proofs.Common.{true, length, Some, sym, ◌∙◌, ap}
use Rattle.mysql_bulk.specs.Builder.{BuilderState}
use Rattle.mysql_bulk.proofs.BuilderSteps.{same_state, stored_declared, state_declared}
use Rattle.mysql_bulk.proofs.ColumnTypes.{none_refused}
use Rattle.mysql_bulk.proofs.builder.ComStmtBulkExecuteRequestBuilder.with_column_types.Goals as goal

pub invariant_of-builder : goal.invariant_of-builder
invariant_of-builder c = stored_declared c.builder.invariant c.args.types.now (ap (λ (s : BuilderState). s.waiting) (same_state c.builder.view_is) ∙ c.requires)

pub returns-clause-declares : goal.returns-clause-declares
returns-clause-declares c =
    let none = ap (λ (s : BuilderState). s.waiting) (same_state c.builder.view_is) ∙ c.requires in (
      none_refused c.args.types.now (sym c.first_refused.ensures ∙ c.in_default.is),
      state_declared c.builder.invariant c.args.types.now none
          ∙ ap (λ (s : BuilderState). record s { columns = Some c.args.types.now; arity = Some (length c.args.types.now); types_due = true }) (same_state c.builder.view_is),
    )
