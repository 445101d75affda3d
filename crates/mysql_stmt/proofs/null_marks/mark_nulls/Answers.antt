use Rattle.std.proofs.Common.{◌≡◌, ◌+◌, ◌*◌, ◌/◌, ◌%◌, refl, Bool, if◌then◌else◌, ℕ, List, ◌++◌, length, map, take, get_or, sym, ap, ◌∙◌, arith}
use Rattle.std.proofs.lemmas.List.{append-nil, take_all}
use Rattle.std.proofs.lemmas.Simd.{map-map}
use Rattle.mysql_stmt.specs.Bitmap.{cell}
use Rattle.mysql_stmt.specs.ExecuteParam.{value_of}
use Rattle.mysql_stmt.specs.NullMarks.{null_bit}
use Rattle.mysql_stmt.proofs.Nulls.{next_marked, next_unmarked}
use Rattle.mysql_stmt.proofs.null_marks.mark_nulls.Goals as goal
use Rattle.mysql_stmt.proofs.null_marks.mark_nulls.Goals.{then-is_null, else-is_null}

pub loop-i-init : goal.loop-i-init
loop-i-init g c = record {
  len = refl;
  cells = λ front long start k. start k ∙ ap (λ (l : List ℕ). get_or l k 0) (sym (append-nil front));
}

pub loop-i-preserved : goal.loop-i-preserved
loop-i-preserved g c =
    let f : g.row.V.Denot → ℕ = λ v. null_bit (value_of (g.V.AsExecuteParam.param v)) in
    let values = c.args.values.now in
    let i = c.loop-i.i in
    let value = c.index-values-i.result in
    let old = c.loop-i.nulls in
    let bit : f value ≡ (if c.is_null.result then 1 else 0) = ap (λ (b : Bool). if b then 1 else 0) (sym c.is_null.ensures.value) in
    elim c.if-is_null.branch [
      | then-is_null w ↦
          let new = w.put.new.bytes in
          let set : f value ≡ 1 = bit ∙ ap (λ (b : Bool). if b then 1 else 0) w.if-is_null.true in
          rw (w.nulls-is) (record {
            len = w.put.ensures.len ∙ c.loop-i.invariant.len;
            cells = λ front long start.
                let place : (c.args.before + i) / 8 * 8 + (c.args.before + i) % 8 ≡ length front + i = omega (arith, long) in
                next_marked f front values i value old new c.loop-i-test.true c.index-values-i.is
                (c.loop-i.invariant.cells front long start)
                (ap (cell new) (sym place) ∙ w.put.ensures.this ∙ sym set)
                (λ k other. w.put.ensures.others k (λ e. other (e ∙ place)));
          })
      | else-is_null w ↦
          rw (w.nulls-is) (record {
            len = c.loop-i.invariant.len;
            cells = λ front long start.
                next_unmarked f front values i value old c.loop-i-test.true c.index-values-i.is
                (c.loop-i.invariant.cells front long start)
                (bit ∙ ap (λ (b : Bool). if b then 1 else 0) w.if-is_null.false);
          })
    ]

pub returns-clause-cells : goal.returns-clause-cells
returns-clause-cells g c = λ front long start k.
    let f : g.row.V.Denot → ℕ = λ v. null_bit (value_of (g.V.AsExecuteParam.param v)) in
    let values = c.args.values.now in
    let all : take c.loop-i.i values ≡ values = take_all c.loop-i.i values (omega (arith, c.loop-i-test.false)) in
    c.loop-i.invariant.cells front long start k
    ∙ ap (λ (l : List g.row.V.Denot). get_or (front ++ map f l) k 0) all
    ∙ ap (λ (l : List ℕ). get_or (front ++ l) k 0) (sym (map-map null_bit (λ v. value_of (g.V.AsExecuteParam.param v)) values))
