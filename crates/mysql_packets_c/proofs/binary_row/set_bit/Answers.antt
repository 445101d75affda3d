use Rattle.std.proofs.Common.{rules, ◌<◌, ◌*◌, ◌^◌, ◌%◌, ◌∙◌, ℕ, arith, w8, bit_or, slice_index_or}
use Rattle.std.proofs.lemmas.Nat.{or_of_8}
use Rattle.std.proofs.lemmas.Nat.Bits.{bit_at_set_same, bit_at_set_other}
use Rattle.mysql_stmt.proofs.Cells.{IsBytes, cell-set_same, cell-set_other}
use Rattle.mysql_packets_c.proofs.binary_row.set_bit.Goals as goal

set_small : (b k : ℕ) → b < 256 → bit_or b (1 * 2 ^ k % 256) < 256
set_small b k small = or_of_8 b (1 * 2 ^ k % 256) small (omega arith)

pub returns-clause-this : goal.returns-clause-this
returns-clause-this c =
    let fits : IsBytes c.args.bytes.now = search rules in
    let b : ℕ = slice_index_or c.args.bytes.now c.args.at 0 in
    cell-set_same c.args.bytes.now fits c.args.at c.args.bit _ c.requires.bit c.requires.at (set_small b c.args.bit (fits c.args.at).fits) ∙ bit_at_set_same w8 b c.args.bit c.requires.bit

pub returns-clause-others : goal.returns-clause-others
returns-clause-others c =
    let fits : IsBytes c.args.bytes.now = search rules in
    let b : ℕ = slice_index_or c.args.bytes.now c.args.at 0 in
    cell-set_other c.args.bytes.now fits c.args.at c.args.bit _ c.requires.at (set_small b c.args.bit (fits c.args.at).fits) (λ k low other. bit_at_set_other w8 b c.args.bit c.requires.bit k other)
