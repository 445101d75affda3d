use Rattle.std.proofs.Common.{◌≡◌, ◌+◌, ◌*◌, ◌/◌, ◌%◌, ◌∷◌, [], refl, Bool, if◌then◌else◌, ℕ, List, map, take, get_or, sym, ap, ◌∙◌, arith}
use Rattle.std.proofs.lemmas.List.{get_or_default, length-map, take_all}
use Rattle.std.proofs.lemmas.Simd.{map-map}
use Rattle.mysql_stmt.specs.Bitmap.{bytes_for, cell}
use Rattle.mysql_stmt.specs.NullMarks.{null_bit}
use Rattle.mysql_stmt.proofs.Nulls.{bit-zeros, cell-zeros, next_marked, next_unmarked}
use Rattle.mysql_packets_c.specs.Value.{value_content}
use Rattle.mysql_packets_c.specs.declared.value.CValue.{CValue}
use Rattle.mysql_packets_c.proofs.BinaryRows.{no_value}
use Rattle.mysql_packets_c.proofs.binary_row.mark_nulls.Goals as goal
use Rattle.mysql_packets_c.proofs.binary_row.mark_nulls.Goals.{then-holds_null, else-holds_null}

pub loop-i-init : goal.loop-i-init
loop-i-init c = record {
  len = refl;
  cells = λ k. ap (λ (b : List ℕ). cell b k) c.requires.clear ∙ cell-zeros _ k ∙ sym (bit-zeros 2 k);
}

pub loop-i-preserved : goal.loop-i-preserved
loop-i-preserved c =
    let f : CValue → ℕ = λ v. null_bit (value_content v) in
    let front : List ℕ = 0 ∷ 0 ∷ [] in
    let values = c.args.values.now in
    let i = c.loop-i.i in
    let value = get_or values i no_value in
    let is : value ≡ get_or values i value = get_or_default values i no_value value c.loop-i-test.true in
    let old = c.loop-i.nulls in
    let bit : f value ≡ (if c.holds_null.result then 1 else 0) = ap (λ (b : Bool). if b then 1 else 0) (sym c.holds_null.ensures) in
    elim c.if-holds_null.branch [
      | then-holds_null w ↦
          let new = w.set_bit.new.bytes in
          let set : f value ≡ 1 = bit ∙ ap (λ (b : Bool). if b then 1 else 0) w.if-holds_null.true in
          let place : (i + 2) / 8 * 8 + (i + 2) % 8 ≡ 2 + i = omega arith in
          rw (w.nulls-is) (record {
            len = w.set_bit.ensures.len ∙ c.loop-i.invariant.len;
            cells = next_marked f front values i value old new c.loop-i-test.true is c.loop-i.invariant.cells
                (ap (cell new) (sym place) ∙ w.set_bit.ensures.this ∙ sym set)
                (λ k other. w.set_bit.ensures.others k (λ e. other (e ∙ place)));
          })
      | else-holds_null w ↦
          rw (w.nulls-is) (record {
            len = c.loop-i.invariant.len;
            cells = next_unmarked f front values i value old c.loop-i-test.true is c.loop-i.invariant.cells
                (bit ∙ ap (λ (b : Bool). if b then 1 else 0) w.if-holds_null.false);
          })
    ]

pub returns : goal.returns
returns c =
    let f : CValue → ℕ = λ v. null_bit (value_content v) in
    let values = c.args.values.now in
    let all : take c.loop-i.i values ≡ values = take_all c.loop-i.i values (omega (arith, c.loop-i-test.false)) in
    record {
      len = c.loop-i.invariant.len ∙ c.requires.len ∙ ap (bytes_for 2) (sym (length-map values value_content));
      cells = λ k. c.loop-i.invariant.cells k
          ∙ ap (λ (l : List CValue). get_or (0 ∷ 0 ∷ map f l) k 0) all
          ∙ ap (λ (l : List ℕ). get_or (0 ∷ 0 ∷ l) k 0) (sym (map-map null_bit value_content values));
    }
