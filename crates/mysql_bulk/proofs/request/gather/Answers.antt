use Rattle.std.proofs.Common.{◌≡◌, ◌∷◌, ◌++◌, List, [], if◌then◌else◌, ◌∙◌, ap}
use Rattle.std.specs.Prelude.{fold}
use Rattle.std.specs.Vec.Iter.{into_iter_items}
use Rattle.mysql_cuts.specs.Cut.{rows_in}
use Rattle.mysql_values.specs.declared.value.Value.{Value}
use Rattle.mysql_values.specs.Value.{contents_of}
use Rattle.mysql_values.specs.declared.param_type.ParamType.{ParamType}
use Rattle.mysql_bulk.specs.DeclaredTypes.{types_with_row}
use Rattle.mysql_bulk.specs.Row.{contents_of_row, contents_of_rows}
use Rattle.mysql_bulk.proofs.RequestNew.{next_types, next_before, next_values}
use Rattle.mysql_bulk.proofs.BuilderSteps.{held_after}
use Rattle.mysql_bulk.proofs.request.gather.Goals as goal

pub loop-row-preserved : goal.loop-row-preserved
loop-row-preserved c =
    let sent = c.args.sent in
    let types = c.loop-row.types.items in
    let rest = contents_of_rows (into_iter_items c.next.new.self) in
    let step : into_iter_items c.loop-row.row-iterator ≡ c.in-Some.row ∷ into_iter_items c.next.new.self = c.in-Some.ensures.steps.0 in
    let more : c.join_row.new.types.items ≡ (if sent then types_with_row types (contents_of_row c.in-Some.row) else types) =
    c.join_row.ensures.items
    ∙ ap (λ (l : List ParamType). if sent then types_with_row l (contents_of c.as_slice.result.now) else l) c.find_capacity.ensures.types
    ∙ ap (λ (r : List Value). if sent then types_with_row types (contents_of r) else types) c.as_slice.ensures.value in
    let equal = rw step at c.loop-row.invariant.equal in
    record {
      types = next_types sent types c.join_row.new.types.items (contents_of_row c.in-Some.row) rest (if sent then fold types_with_row [] (contents_of_rows c.args.rows.items) else []) more (rw step at c.loop-row.invariant.types);
      values = next_values (contents_of c.loop-row.values.items) (contents_of c.append_row.new.values.items) (contents_of_row c.in-Some.row) rest (rows_in (contents_of_rows c.args.rows.items))
          (held_after c.append_row.new.values.items c.loop-row.values.items c.in-Some.row.items (c.append_row.ensures.items ∙ ap (λ (l : List Value). l ++ c.in-Some.row.items) c.find_capacity.ensures.values)) (rw step at c.loop-row.invariant.values);
      equal = equal.1;
      before = next_before sent c.args.arity types c.join_row.new.types.items (contents_of_row c.in-Some.row) more equal.0 c.loop-row.invariant.before;
    }
