-- What a table keeps of a prepared statement.
use Rattle.std.specs.Prelude.{ℕ, Bool, List}
use Rattle.mysql_stmt.specs.declared.execute_view.BoundParam.{BoundParam}
use Rattle.mysql_statements.specs.declared.row_column.RowColumn.{RowColumn}

pub record Kept : Type 0 where
  -- the number that the server assigned
  pub id : ℕ
  -- each parameter with its type, and whether long data was sent for it
  pub params : List BoundParam
  -- an execution has sent the types
  pub is_bound : Bool
  -- the number of columns of its last result, and those whose definitions were received
  pub width : ℕ
  pub columns : List RowColumn
