-- The bitmap of an execution is preceded by ten bytes.
use Rattle.std.proofs.Common.{◌≡◌, ℕ, List, ◌+◌, ◌++◌, length, arith}
use Rattle.std.proofs.lemmas.List.{length-append}
use Rattle.mysql_wire.specs.LittleEndian.{length-le_bytes}
use Rattle.mysql_stmt.specs.declared.execute_head.ComStmtExecuteHead.{ComStmtExecuteHead}
use Rattle.mysql_stmt.specs.ExecuteHead.{execute_head}

pub head-length : (h : ComStmtExecuteHead) → length (execute_head.bytes h) ≡ 10
unfolding execute_head
head-length h = simp (length-append, length-le_bytes)

pub length-after_head : (h : ComStmtExecuteHead) (params : List ℕ) → length (execute_head.bytes h ++ params) ≡ 10 + length params
length-after_head h params = omega (arith, length-append (execute_head.bytes h) params, head-length h)

pub ruleset head_length = (head-length)
