use Rattle.std.proofs.Common.{◌∙◌, ℕ, get_or, ap, arith}
use Rattle.mysql_frames.specs.Frames.{header}
use Rattle.mysql_frames.proofs.Peel.{head_is, length_by_bytes}
use Rattle.mysql_packets_c.proofs.header.numbers_in.Goals as goal

pub returns : goal.returns
returns c =
    let head = c.args.head.now in
    head_is head c.requires (λ i. omega (arith, c.type_inv.head i)) ∙ ap (λ (n : ℕ). header n (get_or head 3 0)) (length_by_bytes head c.requires)
