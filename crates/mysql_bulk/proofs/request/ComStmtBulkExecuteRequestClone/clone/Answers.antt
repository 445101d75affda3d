use Rattle.std.proofs.Common.{List, ◌∙◌}
use Rattle.std.specs.List.{each_same}
use Rattle.mysql_values.specs.declared.param_type.ParamType.{ParamType}
use Rattle.mysql_bulk.specs.ParamValue.{ParamValue}
use Rattle.mysql_bulk.specs.Request.{BulkRequest}
use Rattle.mysql_bulk.proofs.BuilderSteps.{held_by_copies}
use Rattle.mysql_bulk.proofs.SentValues.{sent_copies}
use Rattle.mysql_bulk.proofs.request.ComStmtBulkExecuteRequestClone.clone.Goals as goal

pub invariant_of-result : goal.invariant_of-result
invariant_of-result c =
    let types = each_same c.self.inside.types.items c.in_ok-clone_list.field-0.items c.in_ok-clone_list.ensures.items in
    let values = held_by_copies c.self.inside.values.items c.in_ok-clone_list-2.field-0.items c.in_ok-clone_list-2.ensures.items in
    let sent = sent_copies c.in_ok-clone_indicators.field-0.items c.self.inside.indicators.items _ _ c.in_ok-clone_list-2.field-0.items values c.as_slice.ensures.value c.in_ok-clone_indicators.ensures.same in
    rw (types, sent) c.self.invariant

pub returns : goal.returns
returns c =
    let types = each_same c.self.inside.types.items c.in_ok-clone_list.field-0.items c.in_ok-clone_list.ensures.items in
    let values = held_by_copies c.self.inside.values.items c.in_ok-clone_list-2.field-0.items c.in_ok-clone_list-2.ensures.items in
    let sent = sent_copies c.in_ok-clone_indicators.field-0.items c.self.inside.indicators.items _ _ c.in_ok-clone_list-2.field-0.items values c.as_slice.ensures.value c.in_ok-clone_indicators.ensures.same in
    let request : List ParamType → List ParamValue → BulkRequest = λ t v. record { stmt_id = c.self.inside.stmt_id; bulk_flags = c.self.inside.bulk_flags; types = t; values = v } in
    record { cases = (λ i. request (types i) (sent i)) ∙ c.self.view_is }
