use Rattle.std.proofs.Common.{sym, ◌∙◌, ap, subst}
use Rattle.mysql_bulk.specs.RequestWriter.{WriterState, as_builder, IsBuilt}
use Rattle.mysql_bulk.proofs.RequestWriter.{holds_request}
use Rattle.mysql_bulk.proofs.WrittenRows.{some_counted}
use Rattle.mysql_bulk.proofs.request_writer.BulkRequestWriter.request.Goals as goal

pub returns-else-self-eq0-clause-built : goal.returns-else-self-eq0-clause-built
returns-else-self-eq0-clause-built c = λ rows h.
    let w = c.args.self.now in
    let some = some_counted rows h.count (λ e. c.if-self-eq0.false (ap (λ (w : WriterState). w.count) c.self.view_is ∙ e)) in
    subst (IsBuilt (as_builder w rows)) (sym (c.as_slice.ensures.value ∙ ap (λ (w : WriterState). w.bytes) c.self.view_is)) (holds_request w rows h some)
