use Rattle.std.proofs.Common.{rules, ◌≡◌, ◌+◌, ◌-◌, ◌*◌, ◌++◌, ℕ, List, Some, None, Ok, length, subst, sym, ap, ◌∙◌, arith}
use Rattle.mysql_wire.specs.LittleEndian.{length-le_bytes}
use Rattle.mysql_wire.specs.Writing.{le_bytes}
use Rattle.mysql_stmt.specs.RowView.{RowLeft}
use Rattle.mysql_stmt.specs.StoredRow.{HoldsRow, PassesOne, entry_number}
use Rattle.mysql_stmt.proofs.FilledBlocks.{Filling, filling-none, filling-more, filling-all}
use Rattle.mysql_stmt.proofs.stored_row.filled.Goals as goal

pub values-init : goal.values-init
values-init g c =
    let row = g.V.RowView.remains c.args.view in
    record {
      filling = subst (λ (b : List ℕ). Filling row row b) (sym c.requires.empty) (filling-none row);
      capacity = omega arith;
    }

pub append-requires : goal.append-requires
append-requires g c =
    let row = g.V.RowView.remains c.args.view in
    let old = g.V.RowView.remains c.values.view in
    let new = g.V.RowView.remains c.next_form.new.self in
    let passed : PassesOne old (Ok (Some c.in-Some.form)) new = rw c.in-Some.is at c.in_ok-form.ensures.value in
    let f = c.values.invariant.filling in
    omega (arith, f.count, f.len, passed.1.0, length-le_bytes 8 c.entry_of.result, c.requires.capacity, c.values.invariant.capacity)

pub values-preserved : goal.values-preserved
values-preserved g c =
    let row = g.V.RowView.remains c.args.view in
    let old = g.V.RowView.remains c.values.view in
    let new = g.V.RowView.remains c.next_form.new.self in
    let passed : PassesOne old (Ok (Some c.in-Some.form)) new = rw c.in-Some.is at c.in_ok-form.ensures.value in
    let place : ℕ = 8 * c.left.result + c.len.result - c.len-in-values.result in
    let place_is : place ≡ 8 * row.left + length row.rest - length old.rest =
    let a : c.len.result ≡ length row.rest = c.len.ensures ∙ ap length c.rest-source.ensures.read in
    let b : c.len-in-values.result ≡ length old.rest = c.len-in-values.ensures ∙ ap length c.rest.ensures.read in
    rw (c.left.ensures.value, a, b) (search rules) in
    let entry = c.entry_of.ensures.value in
    let block_is : c.append.new.out.items ≡ c.values.block.items ++ le_bytes 8 (entry_number entry.0 place) =
    c.append.ensures.items ∙ ap (λ (n : ℕ). c.values.block.items ++ le_bytes 8 n) entry.2 in
    record {
      filling = subst (λ (b : List ℕ). Filling row new b) (sym block_is) (filling-more row old new c.values.block.items c.in-Some.form entry.0 place entry.1 c.values.invariant.filling passed place_is c.requires.small);
      capacity = omega (arith, c.values.invariant.capacity, c.append.ensures.capacity);
    }

pub returns-clause-holds : goal.returns-clause-holds
returns-clause-holds g c =
    let row = g.V.RowView.remains c.args.view in
    let old = g.V.RowView.remains c.values.view in
    let new = g.V.RowView.remains c.next_form.new.self in
    let passed : PassesOne old (Ok None) new = rw c.in_default.is at c.in_ok-form.ensures.value in
    let same : new ≡ old = passed.1 in
    let end : old.end ≡ Ok c.rest-2.result = ap (λ (r : RowLeft). r.end) (sym same) ∙ c.rest-2.ensures.value (ap (λ (r : RowLeft). r.left) same ∙ passed.0.0) in
    let block_is : c.push_bytes.new.self.items ≡ c.values.block.items ++ row.rest =
    c.push_bytes.ensures.items ∙ ap (λ (b : List ℕ). c.values.block.items ++ b) (c.eat_all.ensures.value ∙ c.rest-source.ensures.read) in
    subst (HoldsRow row) (sym block_is) (filling-all row old c.values.block.items c.rest-2.result c.values.invariant.filling passed.0.0 passed.0.1 end)
