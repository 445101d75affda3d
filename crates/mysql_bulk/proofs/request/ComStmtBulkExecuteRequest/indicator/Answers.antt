use Rattle.std.proofs.Common.{length, sym, ap, arith}
use Rattle.std.proofs.lemmas.Option.{slice_get_past}
use Rattle.std.specs.Option.{option_map}
use Rattle.mysql_bulk.specs.ParamValue.{ParamValue}
use Rattle.mysql_bulk.specs.Request.{BulkRequest}
use Rattle.mysql_bulk.proofs.SentValues.{sent_length}
use Rattle.mysql_bulk.proofs.request.ComStmtBulkExecuteRequest.indicator.Goals as goal

pub at-requires : goal.at-requires
at-requires c =
    let held = ap (λ (r : BulkRequest). length r.values) c.self.view_is in
    let inside = sent_length c.self.inside.indicators.items c.self.inside.values.items in
    let sent = sent_length c.sent.result.indicators.now c.sent.result.values.now in
    omega (arith, held, inside, sent, ap length c.sent.ensures, c.len.ensures, c.self.inside.values.ok.0, c.if-place-len.true)

pub returns-else-place-len : goal.returns-else-place-len
returns-else-place-len c =
    let held = ap (λ (r : BulkRequest). length r.values) c.self.view_is in
    let inside = sent_length c.self.inside.indicators.items c.self.inside.values.items in
    let past = slice_get_past c.args.self.now.values c.args.place (omega (arith, held, inside, c.len.ensures, c.self.inside.values.ok.0, c.if-place-len.false)) in
    record { value = sym (ap (option_map (λ (v : ParamValue). v.indicator)) past) }
