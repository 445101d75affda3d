use Rattle.std.proofs.Common.{◌≡◌, ◌∷◌, ℕ, length, map, take, get_or}
use Rattle.mysql_stmt.specs.Bitmap.{cell}
use Rattle.mysql_stmt.specs.NullMarks.{null_bit}
use Rattle.mysql_packets_c.specs.Value.{value_content}
use Rattle.mysql_packets_c.proofs.binary_row.mark_nulls.Given as goal

abbrev pub invariant-loop-i : goal.invariant-loop-i
invariant-loop-i l =
    record {
      len : length l.nulls ≡ length l.fn.nulls;
      cells : (k : ℕ) → cell l.nulls k ≡ get_or (0 ∷ 0 ∷ map (λ v. null_bit (value_content v)) (take l.i l.values)) k 0;
    }
