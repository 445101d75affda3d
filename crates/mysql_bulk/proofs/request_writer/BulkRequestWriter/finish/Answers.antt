use Rattle.std.proofs.Common.{vec_capacity, sym, ◌∙◌, ap, subst}
use Rattle.mysql_bulk.specs.RequestWriter.{WriterState, FinishesAsBuilder}
use Rattle.mysql_bulk.proofs.RequestWriter.{nothing_finished, request_finished}
use Rattle.mysql_bulk.proofs.request_writer.BulkRequestWriter.finish.Goals as goal

pub returns-then-self-eq0-clause-finishes : goal.returns-then-self-eq0-clause-finishes
returns-then-self-eq0-clause-finishes c = nothing_finished c.args.self.now (sym (ap (λ (w : WriterState). w.count) c.self.view_is) ∙ c.if-self-eq0.true)

pub returns-clause-finishes : goal.returns-clause-finishes
returns-clause-finishes c =
    let was : WriterState = record {
      stmt_id = c.self.inside.stmt_id;
      limit = c.self.inside.limit;
      results = c.self.inside.results;
      rule = c.self.inside.rule;
      types = c.self.inside.types.now;
      types_due = c.self.inside.types_due;
      count = c.self.inside.count;
      size = c.self.inside.size;
      bytes = c.self.inside.bytes.items;
      capacity = vec_capacity c.self.inside.bytes;
    } in
    let is : WriterState = record was { types_due = was.rule.types_always; count = 0; size = 0; bytes = c.clear.new.self.items; capacity = vec_capacity c.clear.new.self } in
    subst (λ w. FinishesAsBuilder w is) c.self.view_is (request_finished was c.clear.new.self.items (vec_capacity c.clear.new.self) c.if-self-eq0.false c.clear.ensures.items)
