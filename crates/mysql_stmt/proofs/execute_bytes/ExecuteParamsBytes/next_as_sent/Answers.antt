use Rattle.std.proofs.Common.{◌≡◌, ◌∙◌, sym, ap, subst, ℕ, List}
use Rattle.mysql_wire.specs.Reading.{IsTail}
use Rattle.mysql_stmt.specs.ExecuteRead.{ParamsBytes, read_as}
use Rattle.mysql_stmt.proofs.ParamViews.{others-of, tail-given}
use Rattle.mysql_stmt.proofs.execute_bytes.ExecuteParamsBytes.next_as_sent.Goals as goal

pub bytes_before-requires : goal.bytes_before-requires
bytes_before-requires c =
    let old = c.args.self.now in
    let new = c.next_param.new.self in
    let others = others-of c.args.bound old.left c.requires.some in
    let given = c.in_ok-read.ensures.value others.0 others.1 in
    let tail : IsTail new.values old.values = tail-given old new c.args.bound others.0 (read_as c.in_ok-read.read) given in
    let whole : c.rest-values.result ≡ old.values = c.rest-values.ensures ∙ ap (λ (b : ParamsBytes). b.values) c.self.view_is in
    let left : c.self-2.inside.buf ≡ new.values = ap (λ (b : ParamsBytes). b.values) c.self-2.view_is in
    subst (λ (l : List ℕ). IsTail c.self-2.inside.buf l) (sym whole) (subst (λ (l : List ℕ). IsTail l old.values) (sym left) tail)
