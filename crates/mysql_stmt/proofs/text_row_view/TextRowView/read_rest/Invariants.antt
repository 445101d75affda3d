use Rattle.std.proofs.Common.{◌≡◌, ◌+◌, ◌++◌, ◌∷◌, length, take, drop}
use Rattle.mysql_stmt.specs.RowView.{refs_held}
use Rattle.mysql_stmt.proofs.text_row_view.TextRowView.read_rest.Given as goal

abbrev pub invariant-loop-value : goal.invariant-loop-value
invariant-loop-value l = record {
  count : l.place + l.self.left ≡ l.fn.self.left;
  good : l.fn.self.values ≡ refs_held (take l.place l.values) ++ l.self.values;
  end : l.self.end ≡ l.fn.self.end;
  rest : drop l.place (l.fn.self.rest ∷ l.fn.self.tails) ≡ l.self.rest ∷ l.self.tails;
  others : drop l.place l.values ≡ drop l.place l.fn.values;
  len : length l.values ≡ length l.fn.values;
}

abbrev pub decreases-loop-value : goal.decreases-loop-value
decreases-loop-value l = l.self.left
