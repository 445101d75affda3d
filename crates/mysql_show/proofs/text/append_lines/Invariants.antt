use Rattle.std.proofs.Common.{◌≡◌, ◌++◌, ℕ, List, drop, string_bytes}
use Rattle.mysql_show.specs.Appended.{Stays}
use Rattle.mysql_show.specs.FieldText.{AreLines}
use Rattle.mysql_show.proofs.text.append_lines.Given as goal

-- the lines so far, followed by the remaining ones
abbrev pub invariant-loop-field : goal.invariant-loop-field
invariant-loop-field l = record {
  lines : (rest : List ℕ) → AreLines (drop l.field-index l.fields) rest → (text : List ℕ) × AreLines l.fields text × (string_bytes l.out ++ rest ≡ string_bytes l.initial.out ++ text);
  stays : Stays (string_bytes l.initial.out) (string_bytes l.out);
}
