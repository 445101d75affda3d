use Rattle.std.proofs.Common.{length, sym, ◌∙◌, ap, unwrap_or}
use Rattle.mysql_values.specs.Value.{contents_of}
use Rattle.mysql_bulk.specs.Builder.{BuilderState}
use Rattle.mysql_bulk.proofs.BuilderRows.{length-rows_of}
use Rattle.mysql_bulk.proofs.BuilderSteps.{same_state}
use Rattle.mysql_bulk.proofs.builder.ComStmtBulkExecuteRequestBuilder.rows_waiting.Goals as goal

pub returns : goal.returns
returns c = sym (length-rows_of (unwrap_or c.self.inside.arity 0) c.self.inside.count (contents_of c.self.inside.values.items)) ∙ ap (λ (s : BuilderState). length s.waiting) (same_state c.self.view_is)
