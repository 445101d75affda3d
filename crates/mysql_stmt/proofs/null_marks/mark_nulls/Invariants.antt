use Rattle.std.proofs.Common.{◌≡◌, ◌++◌, ℕ, List, length, map, take, get_or}
use Rattle.mysql_stmt.specs.Bitmap.{cell}
use Rattle.mysql_stmt.specs.ExecuteParam.{value_of}
use Rattle.mysql_stmt.specs.NullMarks.{null_bit}
use Rattle.mysql_stmt.proofs.null_marks.mark_nulls.Given as goal

abbrev pub invariant-loop-i : goal.invariant-loop-i
invariant-loop-i g l =
    record {
      len : length l.nulls ≡ length l.initial.nulls;
      cells : (front : List ℕ) → length front ≡ l.before → ((k : ℕ) → cell l.initial.nulls k ≡ get_or front k 0)
          → (k : ℕ) → cell l.nulls k ≡ get_or (front ++ map (λ v. null_bit (value_of (g.V.AsExecuteParam.param v))) (take l.i l.values)) k 0;
    }
