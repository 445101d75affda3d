use Rattle.std.proofs.Common.{sym, ◌∙◌, ap}
use Rattle.mysql_values.specs.Value.{contents_of}
use Rattle.mysql_bulk.specs.ParamValue.{contents}
use Rattle.mysql_bulk.specs.Request.{BulkRequest}
use Rattle.mysql_bulk.proofs.SentValues.{contents_of_sent}
use Rattle.mysql_bulk.proofs.request.ComStmtBulkExecuteRequest.values.Goals as goal

pub returns : goal.returns
returns c = record {
  value = ap contents_of c.as_slice.ensures.value
      ∙ sym (contents_of_sent c.self.inside.indicators.items (contents_of c.self.inside.values.items))
      ∙ ap (λ (r : BulkRequest). contents r.values) c.self.view_is;
}
