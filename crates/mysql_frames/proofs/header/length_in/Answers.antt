use Rattle.std.proofs.Common.{ap, arith, ◌∙◌, get_or}
use Rattle.mysql_frames.specs.Frames.{header}
use Rattle.mysql_frames.proofs.Peel.{head_is, length_by_bytes}
use Rattle.mysql_frames.proofs.header.length_in.Goals as goal

pub returns-clause-header : goal.returns-clause-header
returns-clause-header c =
    let head = c.args.head.now in
    λ four. head_is head four (λ i. omega (arith, c.type_inv.head i)) ∙ ap (λ l. header l (get_or head 3 0)) (length_by_bytes head four)
