use Rattle.std.proofs.Common.{◌≡◌, ◌+◌, ◌*◌, ◌/◌, ◌≤◌, ◌++◌, ℕ, List, length, vec_len}
use Rattle.std.specs.Prelude.{vec_capacity}
use Rattle.mysql_frames.specs.Frames.{most, FramedIn}
use Rattle.mysql_frames.proofs.writer.write_long.Given as goal

-- the bytes written, followed by the frames of the rest, are the payload's frames
abbrev pub Goes : ℕ → List ℕ → ℕ → List ℕ → List ℕ → Type 0
Goes number payload now left done =
    (i after : ℕ) (bytes rest : List ℕ) → FramedIn most i now left after bytes rest → (j : ℕ) × FramedIn most j number payload after (done ++ bytes) rest

abbrev pub invariant-loop-left : goal.invariant-loop-left
invariant-loop-left l = record {
  capacity : vec_len l.out + length l.left + 4 * (length l.left / 16777215 + 1) ≤ vec_capacity l.out;
  grown : vec_capacity l.fn.out ≤ vec_capacity l.out;
  written : (done : List ℕ) × (l.out.items ≡ l.fn.out.items ++ done) × Goes l.fn.number l.payload l.number l.left done;
}

abbrev pub decreases-loop-left : goal.decreases-loop-left
decreases-loop-left l = length l.left
