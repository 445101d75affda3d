-- Sums as they are shown.
use Rattle.std.specs.Prelude.{◌≡◌, ◌≤◌, ℕ, List, ◌++◌, Some, codes, decimal}
use Rattle.serde_json.specs.Data.{Data, number, object, string, unsigned, member, no_members, depth}
use Rattle.serde_json.specs.Read.{max_depth, read}
use Rattle.serde_json.specs.Written.{IsInOrder}
use Rattle.mysql_recorder.specs.Entries.{Begins}
use Rattle.mysql_recorder.specs.declared.entry.Layout.{Layout}
use Rattle.mysql_recorder.specs.declared.entry.Layout.TheVariants as layout

-- the number of packets counted
abbrev pub count_line : ℕ → List ℕ
count_line count = codes "sum: " ++ (decimal count ++ codes " packets\n")

-- the members that may have any value
pub record OtherSums : Type 0 where
  pub errors : Data
  pub exchanges : Data
  pub kinds : Data
  pub largest : Data
  pub open_statements : Data
  pub rows : ℕ

-- the object with the number of packets counted
abbrev pub sum_data : ℕ → OtherSums → Data
sum_data count others =
    object (member (codes "errors") others.errors (member (codes "exchanges") others.exchanges (member (codes "kind") (string (codes "sum"))
    (member (codes "kinds") others.kinds (member (codes "largest") others.largest (member (codes "open_statements") others.open_statements
    (member (codes "packets") (number (unsigned count)) (member (codes "rows") (number (unsigned others.rows)) no_members))))))))

-- the text has the object's members, each once and in order, and parses as the object
abbrev pub IsSumText : ℕ → OtherSums → List ℕ → Type 0
IsSumText count others text = IsInOrder text (sum_data count others) × (depth (sum_data count others) ≤ max_depth → read text ≡ Some (sum_data count others))

-- Sums are appended: as lines they begin with the number of packets; in JSON they are one line with an object.
abbrev pub AppendsSums : Layout → ℕ → List ℕ → List ℕ → Type 0
AppendsSums layout.Lines count before after = Begins (count_line count) before after
AppendsSums layout.Json count before after = (others : OtherSums) × (text : List ℕ) × IsSumText count others text × (after ≡ before ++ (text ++ codes "\n"))

-- for some number of packets
abbrev pub AppendsSomeSums : Layout → List ℕ → List ℕ → Type 0
AppendsSomeSums layout before after = (count : ℕ) × AppendsSums layout count before after
