use Rattle.std.proofs.Common.{◌≡◌, sym, ◌∙◌, arith}
use Rattle.mysql_wire.specs.Varlen.{varlen_size}
use Rattle.mysql_wire.proofs.Varlens.{size_is_length}
use Rattle.mysql_wire.proofs.varlen.varlen_uint_size.Goals as goal

pub returns-in-4398046511104-to-562949953421311-clause-len : goal.returns-in-4398046511104-to-562949953421311-clause-len
unfolding varlen_size
returns-in-4398046511104-to-562949953421311-clause-len c =
    let size : 7 ≡ varlen_size c.args.value = grind arith in
    size ∙ sym (size_is_length c.args.value)

pub returns-in-562949953421312-to-72057594037927935-clause-len : goal.returns-in-562949953421312-to-72057594037927935-clause-len
unfolding varlen_size
returns-in-562949953421312-to-72057594037927935-clause-len c =
    let size : 8 ≡ varlen_size c.args.value = grind arith in
    size ∙ sym (size_is_length c.args.value)

pub returns-in_default-clause-len : goal.returns-in_default-clause-len
unfolding varlen_size
returns-in_default-clause-len c =
    let size : 9 ≡ varlen_size c.args.value = grind arith in
    size ∙ sym (size_is_length c.args.value)
