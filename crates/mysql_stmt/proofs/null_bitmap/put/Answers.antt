use Rattle.std.proofs.Common.{rules, ◌<◌, ◌*◌, ◌^◌, ◌%◌, ◌∙◌, ℕ, arith, w8, bit_and, bit_or, slice_index_or}
use Rattle.std.proofs.lemmas.Nat.{or_of_8, and_le_l}
use Rattle.std.proofs.lemmas.Nat.Bits.{bit_at_set_same, bit_at_set_other, bit_at_clear_same, bit_at_clear_other}
use Rattle.mysql_stmt.proofs.Cells.{IsBytes, cell-set_same, cell-set_other}
use Rattle.mysql_stmt.proofs.null_bitmap.put.Goals as goal

set_small : (b k : ℕ) → b < 256 → bit_or b (1 * 2 ^ k % 256) < 256
set_small b k small = or_of_8 b (1 * 2 ^ k % 256) small (omega arith)

clear_small : (b m : ℕ) → b < 256 → bit_and b m < 256
clear_small b m small = omega (arith, and_le_l b m)

pub returns-then-one-clause-this : goal.returns-then-one-clause-this
returns-then-one-clause-this c =
    let fits : IsBytes c.args.bytes.now = search rules in
    let b : ℕ = slice_index_or c.args.bytes.now c.args.at 0 in
    rw c.if-one.true (cell-set_same c.args.bytes.now fits c.args.at c.args.bit _ c.requires.bit c.requires.at (set_small b c.args.bit (fits c.args.at).fits) ∙ bit_at_set_same w8 b c.args.bit c.requires.bit)

pub returns-then-one-clause-others : goal.returns-then-one-clause-others
returns-then-one-clause-others c =
    let fits : IsBytes c.args.bytes.now = search rules in
    let b : ℕ = slice_index_or c.args.bytes.now c.args.at 0 in
    cell-set_other c.args.bytes.now fits c.args.at c.args.bit _ c.requires.at (set_small b c.args.bit (fits c.args.at).fits) (λ k low other. bit_at_set_other w8 b c.args.bit c.requires.bit k other)

pub returns-else-one-clause-this : goal.returns-else-one-clause-this
returns-else-one-clause-this c =
    let fits : IsBytes c.args.bytes.now = search rules in
    let b : ℕ = slice_index_or c.args.bytes.now c.args.at 0 in
    rw c.if-one.false (cell-set_same c.args.bytes.now fits c.args.at c.args.bit _ c.requires.bit c.requires.at (clear_small b _ (fits c.args.at).fits) ∙ bit_at_clear_same w8 b c.args.bit c.requires.bit)

pub returns-else-one-clause-others : goal.returns-else-one-clause-others
returns-else-one-clause-others c =
    let fits : IsBytes c.args.bytes.now = search rules in
    let b : ℕ = slice_index_or c.args.bytes.now c.args.at 0 in
    cell-set_other c.args.bytes.now fits c.args.at c.args.bit _ c.requires.at (clear_small b _ (fits c.args.at).fits) (λ k low other. bit_at_clear_other w8 b c.args.bit c.requires.bit k low other)
