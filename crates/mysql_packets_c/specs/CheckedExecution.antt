-- An execution whose parameters were checked.
use Rattle.std.specs.Prelude.{ℕ, List, [], ◌++◌, if◌then◌else◌}
use Rattle.std.specs.List.{flat_map}
use Rattle.mysql_stmt.specs.ExecuteHead.{execute_head}
use Rattle.mysql_stmt.specs.ExecuteParams.{where_some}
use Rattle.mysql_stmt.specs.Execution.{Execution}
use Rattle.mysql_wire.specs.Writing.{le_bytes}
use Rattle.mysql_packets_c.specs.CheckedParams.{bitmap_for, plainly, type_sent}
use Rattle.mysql_packets_c.specs.declared.checked_execution.CheckedExecution.{CheckedExecution}

-- what it sends
abbrev pub plain_of : CheckedExecution → Execution
plain_of e = plainly e.head e.params.items.now e.sends_types

-- what precedes the types and the values: the head, and if there are parameters, the bitmap and whether types follow
abbrev pub front_bytes : CheckedExecution → List ℕ
front_bytes e = execute_head.bytes e.head ++ where_some e.params.items.now (bitmap_for e.params.items.now ++ le_bytes 1 (if e.sends_types then 1 else 0))

-- the types, if they are sent
abbrev pub types_of : CheckedExecution → List ℕ
types_of e = if e.sends_types then flat_map type_sent e.params.items.now else []
