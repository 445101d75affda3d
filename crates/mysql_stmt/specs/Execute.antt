-- One execution of a prepared statement.
use Rattle.std.specs.Prelude.{ℕ, Bool, List, ◌++◌}
use Rattle.mysql_wire.specs.Int.{raw_int}
use Rattle.mysql_values.specs.declared.value.Value.{Value}
use Rattle.mysql_stmt.specs.ExecuteHead.{execute_head}
use Rattle.mysql_stmt.specs.ExecuteParams.{params_bytes}
use Rattle.mysql_stmt.specs.declared.execute_head.ComStmtExecuteHead.{ComStmtExecuteHead}
use Rattle.mysql_stmt.specs.declared.execute.ComStmtExecuteRequest.{ComStmtExecuteRequest}

-- ---- the request

abbrev pub stmt_id : ComStmtExecuteRequest → ℕ
stmt_id r = r.stmt_id.0

abbrev pub flags : ComStmtExecuteRequest → ℕ
flags r = r.flags.0.0

abbrev pub bitmap : ComStmtExecuteRequest → List ℕ
bitmap r = r.params.bitmap.bytes

abbrev pub params_flags : ComStmtExecuteRequest → ℕ
params_flags r = r.params.flags.0.0

abbrev pub params : ComStmtExecuteRequest → List Value
params r = r.params.values.now

abbrev pub as_long_data : ComStmtExecuteRequest → Bool
as_long_data r = r.params.as_long_data

-- ---- bytes

-- what precedes the parameters
abbrev pub head_of : ComStmtExecuteRequest → ComStmtExecuteHead
head_of r = record { header = r.header; stmt_id = r.stmt_id; flags = r.flags; iteration_count = raw_int 1 }

-- that, and the parameters
abbrev pub execute_bytes : ComStmtExecuteRequest → List ℕ
execute_bytes r = execute_head.bytes (head_of r) ++ params_bytes r.params
