use Rattle.std.proofs.Common.{◌+◌, ◌++◌, length, option_to_list}
use Rattle.std.specs.Vec.Iter.{into_iter_len}
use Rattle.mysql_bulk.specs.Row.{contents_of_rows}
use Rattle.mysql_bulk.proofs.WholeRunOfVec.{RunSoFar}
use Rattle.mysql_bulk.proofs.builder.ComStmtBulkExecuteRequestBuilder.send_rows.Given as goal

abbrev pub invariant-rows : goal.invariant-rows
invariant-rows l = RunSoFar l.fn.self.state (l.fn.self.state.waiting ++ contents_of_rows l.fn.rows.items) l.requests.items l.ends.items l.sent l.self.state l.carried l.input

abbrev pub decreases-rows : goal.decreases-rows
decreases-rows l = length l.self.state.waiting + length (option_to_list l.carried) + into_iter_len l.input
