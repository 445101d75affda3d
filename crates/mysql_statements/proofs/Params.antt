-- Parameters at their places.
use Rattle.std.proofs.Common.{◌≡◌, ℕ, zero, suc, ◌+◌, ◌<◌, ◌≤◌, List, [], ◌∷◌, ◌++◌, length, get_or, set, take, drop, map, refl, sym, ap, arith}
use Rattle.std.proofs.lemmas.List.{get_or_default}
use Rattle.std.proofs.lemmas.List.Edits.{map_over_more}
use Rattle.mysql_stmt.specs.declared.execute_view.BoundParam.{BoundParam}
use Rattle.mysql_statements.specs.Statement.{at, without_data}

at_read : (k : ℕ) (f : BoundParam → BoundParam) (ps : List BoundParam) (p : BoundParam) → k < length ps → p ≡ get_or ps k p → at k f ps ≡ set ps k (f p)
at_read k f [] p lt r = absurd (omega arith)
at_read zero f (q ∷ ps) p lt r = ap (λ x. f x ∷ ps) (sym r)
at_read (suc k) f (q ∷ ps) p lt r = ap (λ l. q ∷ l) (at_read k f ps p (omega arith) r)

pub at_place : (k : ℕ) (f : BoundParam → BoundParam) (ps : List BoundParam) (d : BoundParam) → k < length ps → set ps k (f (get_or ps k d)) ≡ at k f ps
at_place k f ps d lt = sym (at_read k f ps (get_or ps k d) lt (get_or_default ps k d (get_or ps k d) lt))

pub at_nowhere : (k : ℕ) (f : BoundParam → BoundParam) (ps : List BoundParam) → length ps ≤ k → at k f ps ≡ ps
at_nowhere k f [] le = refl
at_nowhere zero f (q ∷ ps) le = absurd (omega arith)
at_nowhere (suc k) f (q ∷ ps) le = ap (λ l. q ∷ l) (at_nowhere k f ps (omega arith))

pub data_step : (xs ys : List BoundParam) (i : ℕ) (d : BoundParam) → i < length xs → length ys ≡ length xs → ys ≡ map without_data (take i xs) ++ drop i xs
    → set ys i (without_data (get_or ys i d)) ≡ map without_data (take (i + 1) xs) ++ drop (i + 1) xs
data_step xs ys i d lt n h = map_over_more without_data xs ys i (get_or ys i d) lt h (get_or_default ys i d (get_or ys i d) (omega arith))

pub ruleset params = (at_place, at_nowhere)
