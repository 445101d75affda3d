use Rattle.std.proofs.Common.{◌≡◌, ◌+◌, ◌++◌, ◌∷◌, length, take, drop}
use Rattle.mysql_stmt.specs.RowView.{refs_held}
use Rattle.mysql_stmt.proofs.binary_row_view.BinaryRowView.read_rest.Given as goal

abbrev pub invariant-loop-self : goal.invariant-loop-self
invariant-loop-self g l = record {
  count : l.place + l.self.left ≡ l.fn.self.left;
  good : l.fn.self.values ≡ refs_held (take l.place l.values) ++ l.self.values;
  end : l.self.end ≡ l.fn.self.end;
  rest : drop l.place (l.fn.self.rest ∷ l.fn.self.tails) ≡ l.self.rest ∷ l.self.tails;
  others : drop l.place l.values ≡ drop l.place l.fn.values;
  len : length l.values ≡ length l.fn.values;
}

abbrev pub decreases-loop-self : goal.decreases-loop-self
decreases-loop-self g l = l.self.left
