use Rattle.std.proofs.Common.{List, ◌∙◌, ap}
use Rattle.std.specs.List.{each_same}
use Rattle.std.specs.Option.{option_copied}
use Rattle.mysql_values.specs.Value.{Content}
use Rattle.mysql_bulk.specs.Builder.{BuilderState}
use Rattle.mysql_bulk.specs.BuilderRows.{waiting_rows}
use Rattle.mysql_bulk.proofs.BuilderSteps.{same_state, held_by_copies}
use Rattle.mysql_bulk.proofs.builder.ComStmtBulkExecuteRequestBuilderClone.clone.Goals as goal

pub invariant_of-result : goal.invariant_of-result
invariant_of-result c =
    let values = held_by_copies c.self.inside.values.items c.in_ok-clone_list.field-0.items c.in_ok-clone_list.ensures.items in
    let types = each_same c.self.inside.types.items c.in_ok-clone_list-2.field-0.items c.in_ok-clone_list-2.ensures.items in
    rw (values, types) c.self.invariant

pub returns : goal.returns
returns c =
    let values = held_by_copies c.self.inside.values.items c.in_ok-clone_list.field-0.items c.in_ok-clone_list.ensures.items in
    let state : List Content → BuilderState = λ held. record {
      stmt_id = c.self.inside.stmt_id;
      limit = c.self.inside.limit;
      results = c.self.inside.results;
      rule = c.self.inside.rule;
      names = option_copied c.self.inside.names;
      columns = option_copied c.self.inside.columns;
      arity = c.self.inside.arity;
      types_due = c.self.inside.types_due;
      waiting = waiting_rows c.self.inside.arity c.self.inside.count held;
    } in
    record { cases = ap state values ∙ same_state c.self.view_is }
