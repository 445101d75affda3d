use Rattle.std.proofs.Common.{ℕ, Bool, List, length, ap, ◌∙◌, arith}
use Rattle.mysql_wire.specs.LenEnc.{lenenc_string_bytes}
use Rattle.mysql_wire.specs.Writing.{saturated}
use Rattle.mysql_stmt.specs.SentParam.{sent_param, type_bytes}
use Rattle.mysql_stmt.proofs.SentBytes.{length-named, length-typed}
use Rattle.mysql_stmt.proofs.sent_params.AsTypesItemForm.item_len.Goals as goal

pub returns-then-self : goal.returns-then-self
unfolding saturated
returns-then-self g c =
    let p = sent_param g.V.AsExecuteParam.param g.V.AsExecuteParam.named_type c.args.value.now in
    let long = ap (λ (b : Bool). length (type_bytes b p)) c.if-self.true ∙ length-named p in
    let name = ap (λ (l : List ℕ). length (lenenc_string_bytes l)) c.name.ensures.value in
    record { value = omega (arith, long, name, c.written_len.ensures, c.saturating_add.ensures) }

pub returns-else-self : goal.returns-else-self
unfolding saturated
returns-else-self g c =
    let p = sent_param g.V.AsExecuteParam.param g.V.AsExecuteParam.named_type c.args.value.now in
    let long = ap (λ (b : Bool). length (type_bytes b p)) c.if-self.false ∙ length-typed p in
    record { value = omega (arith, long) }
