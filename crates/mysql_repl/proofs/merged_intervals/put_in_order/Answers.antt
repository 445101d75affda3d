use Rattle.std.proofs.Common.{◌≡◌, ℕ, filter, true, sym, ap, ◌∙◌}
use Rattle.std.specs.List.Sorted.{IsNonDecreasingBy, IsPermutation}
use Rattle.mysql_repl.specs.GnoInterval.{start}
use Rattle.mysql_repl.specs.MergedIntervals.{has_any, any_has, are_apart, merged}
use Rattle.mysql_repl.proofs.Merging.{none-permuted, put-same, put-apart, over-ok}
use Rattle.mysql_repl.proofs.merged_intervals.put_in_order.Goals as goal

pub returns-clause-in_order : goal.returns-clause-in_order
returns-clause-in_order c =
    let sorted = c.as_slice.result.now in
    let some : c.in_ok-sorted.sorted.items ≡ filter has_any c.args.intervals.now = c.in_ok-sorted.ensures.value in
    let is : c.sort.new.intervals.items ≡ sorted = sym c.as_slice.ensures.value in
    let permuted : IsPermutation (filter has_any c.args.intervals.now) sorted = rw (← some, ← is) c.sort.ensures.permutation in
    over-ok c.merged.result (λ v. v.items ≡ merged sorted) (λ v. are_apart v.items ≡ true) (λ v e. ap are_apart e ∙ put-apart c.args.intervals.now sorted permuted) c.merged.ensures.value

pub returns-clause-no_memory : goal.returns-clause-no_memory
returns-clause-no_memory c none =
    let sorted = c.as_slice.result.now in
    let some : c.in_ok-sorted.sorted.items ≡ filter has_any c.args.intervals.now = c.in_ok-sorted.ensures.value in
    let is : c.sort.new.intervals.items ≡ sorted = sym c.as_slice.ensures.value in
    let permuted : IsPermutation (filter has_any c.args.intervals.now) sorted = rw (← some, ← is) c.sort.ensures.permutation in
    c.merged.ensures.no_memory (none-permuted (filter has_any c.args.intervals.now) sorted permuted none)

pub returns-clause-same : goal.returns-clause-same
returns-clause-same c =
    let sorted = c.as_slice.result.now in
    let some : c.in_ok-sorted.sorted.items ≡ filter has_any c.args.intervals.now = c.in_ok-sorted.ensures.value in
    let is : c.sort.new.intervals.items ≡ sorted = sym c.as_slice.ensures.value in
    let permuted : IsPermutation (filter has_any c.args.intervals.now) sorted = rw (← some, ← is) c.sort.ensures.permutation in
    let rises : IsNonDecreasingBy start sorted = rw (← is) c.sort.ensures.sorted in
    over-ok c.merged.result (λ v. v.items ≡ merged sorted) (λ v. (n : ℕ) → any_has n v.items ≡ any_has n c.args.intervals.now)
    (λ v e n. ap (any_has n) e ∙ put-same n c.args.intervals.now sorted permuted rises) c.merged.ensures.value
