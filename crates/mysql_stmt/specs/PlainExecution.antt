-- When an execution with options has nothing but its values.
use Rattle.std.specs.Prelude.{◌≡◌, ◌<◌, ◌≤◌, ◌^◌, length}
use Rattle.std.specs.List.{All}
use Rattle.mysql_values.specs.Value.{contents_of}
use Rattle.mysql_stmt.specs.ExecuteParams.{sent_values}
use Rattle.mysql_stmt.specs.ExecuteWithOptions.{asked_plainly}
use Rattle.mysql_stmt.specs.Execute as plain
use Rattle.mysql_stmt.specs.Execution.{Execution}
use Rattle.mysql_stmt.specs.NullMarks.{MarksNulls}
use Rattle.mysql_stmt.specs.declared.execute.ComStmtExecuteRequest.{ComStmtExecuteRequest}

-- Both execute the statement with the same values, the plain request as it is built. (It writes at most 8,192 bytes of its bitmap,
-- which are those of 65,535 values.)
pub record AsksForNothing (e : Execution) (r : ComStmtExecuteRequest) : Type 0 where
  pub execution : e ≡ asked_plainly (plain.stmt_id r) (sent_values (plain.params r)) (plain.as_long_data r)
  pub flags : plain.flags r ≡ 0
  pub bitmap : MarksNulls 0 (contents_of (plain.params r)) (plain.bitmap r)
  pub bytes : All (λ b. b < 2 ^ 8) (plain.bitmap r)
  pub short : length (plain.bitmap r) ≤ 8192
