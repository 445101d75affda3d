-- The head of a bulk execution, in C.
use Rattle.std.specs.Prelude.{◌≡◌, ℕ, List}
use Rattle.mysql_commands.specs.BulkExecute as bulk
use Rattle.mysql_commands.specs.declared.bulk_execute.ComStmtBulkExecuteRef.{ComStmtBulkExecuteRef}
use Rattle.mysql_packets_c.specs.declared.bulk_head.CBulkHead.{CBulkHead}

pub record IsBulkHead (p : ComStmtBulkExecuteRef) (rest : List ℕ) (out : CBulkHead) : Type 0 where
  pub rows : out.rows.now ≡ bulk.rows p
  pub statement_id : out.statement_id ≡ bulk.stmt_id p
  pub flags : out.flags ≡ (bulk.bulk_flags p).0
