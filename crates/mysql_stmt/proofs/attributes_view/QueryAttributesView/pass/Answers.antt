use Rattle.std.proofs.Common.{◌≡◌, arith}
use Rattle.mysql_stmt.proofs.AttributeViews.{all-read}
use Rattle.mysql_stmt.proofs.attributes_view.QueryAttributesView.pass.Goals as goal

pub returns : goal.returns
returns c =
    let none : c.loop.view.left ≡ 0 = omega (arith, c.loop.invariant.left, c.loop-test.false, c.left-end.ensures.value) in
    record { value = all-read c.args.self.now.all c.loop.view.all c.rest.result c.loop.invariant.passed (c.rest.ensures.done none) }
