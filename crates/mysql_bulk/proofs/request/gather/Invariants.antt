use Rattle.std.proofs.Common.{◌≡◌, ◌++◌, ◌⊎◌, [], true, length, if◌then◌else◌}
use Rattle.std.specs.Prelude.{fold}
use Rattle.std.specs.Vec.Iter.{into_iter_items}
use Rattle.mysql_cuts.specs.Cut.{rows_in}
use Rattle.mysql_bulk.specs.Row.{EqualLengths}
use Rattle.mysql_bulk.specs.DeclaredTypes.{types_with_row}
use Rattle.mysql_values.specs.Value.{contents_of}
use Rattle.mysql_bulk.specs.Row.{contents_of_rows}
use Rattle.mysql_bulk.proofs.request.gather.Given as goal

abbrev pub invariant-loop-row : goal.invariant-loop-row
invariant-loop-row l = record {
  types : (if l.fn.sent then fold types_with_row l.types.items (contents_of_rows (into_iter_items l.row-iterator)) else l.types.items) ≡ (if l.fn.sent then fold types_with_row [] (contents_of_rows l.fn.rows.items) else []);
  values : contents_of l.values.items ++ rows_in (contents_of_rows (into_iter_items l.row-iterator)) ≡ rows_in (contents_of_rows l.fn.rows.items);
  equal : EqualLengths l.fn.arity (contents_of_rows (into_iter_items l.row-iterator));
  before : l.fn.sent ≡ true → (length l.types.items ≡ l.fn.arity) ⊎ (l.types.items ≡ []);
}
