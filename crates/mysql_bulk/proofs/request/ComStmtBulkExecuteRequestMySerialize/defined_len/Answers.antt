use Rattle.std.proofs.Common.{length, sym, ◌∙◌, ap}
use Rattle.mysql_wire.specs.Writing.{saturated}
use Rattle.mysql_bulk.specs.Request.{BulkRequest, request_bytes}
use Rattle.mysql_bulk.proofs.RequestBytes.{length-request}
use Rattle.mysql_bulk.proofs.request.ComStmtBulkExecuteRequestMySerialize.defined_len.Goals as goal

pub returns : goal.returns
returns c = c.self.invariant ∙ sym (ap saturated (length-request _)) ∙ ap (λ (r : BulkRequest). saturated (length (request_bytes r))) c.self.view_is
