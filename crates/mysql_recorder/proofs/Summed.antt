-- Sums that are appended.
use Rattle.std.proofs.Common.{◌≡◌, ◌≤◌, ℕ, List, ◌++◌, is_ok, if◌then◌else◌, Some, Result, Ok, Err, OnOk, String, Global, string_bytes, refl, ap, subst, ◌∙◌, append_assoc, codes, rules}
use Rattle.serde_json.specs.Data.{Data, object, string, number, unsigned, Members, no_members, put, depth}
use Rattle.serde_json.specs.Read.{max_depth, read}
use Rattle.serde_json.specs.View.{view}
use Rattle.serde_json.specs.Written.{IsInOrder}
use Rattle.serde_json.specs.declared.value.Value as Value
use Rattle.serde_json.specs.declared.value.Value.{the_lemmas}
use Rattle.mysql_show.specs.Appended.{Stays}
use Rattle.mysql_recorder.specs.declared.entry.Layout.{Layout}
use Rattle.mysql_recorder.specs.declared.entry.Layout.TheVariants as layout
use Rattle.mysql_recorder.specs.Sums.{AppendsSomeSums, AppendsSums, OtherSums, sum_data}

pub on_ok_some : {E : Type 0} (r : Result (Unit {0}) E) (how : Layout) (count : ℕ) (a b : List ℕ) → OnOk r (AppendsSums how count a b) → OnOk r (AppendsSomeSums how a b)
on_ok_some (Ok u) how count a b h = (count, h)
on_ok_some (Err e) how count a b h = tt

pub view-text : (text : String Global) → view (Value.String text) ≡ string (string_bytes text)
view-text text = search (rules, the_lemmas)

-- the members in the order of their names, put in that of the code
pub all_members : (count : ℕ) (others : OtherSums) (v kind packets rows : Data) (a b c d e f g h i : Members) → v ≡ object i
    → kind ≡ string (codes "sum") → packets ≡ number (unsigned count) → rows ≡ number (unsigned others.rows)
    → a ≡ no_members → b ≡ put (codes "kind") kind a → c ≡ put (codes "packets") packets b → d ≡ put (codes "rows") rows c
    → e ≡ put (codes "exchanges") others.exchanges d → f ≡ put (codes "kinds") others.kinds e → g ≡ put (codes "errors") others.errors f
    → h ≡ put (codes "largest") others.largest g → i ≡ put (codes "open_statements") others.open_statements h
    → v ≡ sum_data count others
all_members count others v kind packets rows a b c d e f g h i is is_kind is_packets is_rows ea eb ec ed ee ef eg eh ei =
    rw (is, ei, eh, eg, ef, ee, ed, ec, eb, ea, is_kind, is_packets, is_rows) refl

-- a text and a line feed
pub line_stays : {E : Type 0} (r : Result (Unit {0}) E) (text before mid after : List ℕ) → mid ≡ before ++ text → after ≡ (if is_ok r then mid ++ codes "\n" else mid) → Stays before after
line_stays (Ok u) text before mid after h g = (text ++ codes "\n", g ∙ ap (λ t. t ++ codes "\n") h ∙ append_assoc before text (codes "\n"))
line_stays (Err e) text before mid after h g = (text, g ∙ h)

pub object_appended : {E : Type 0} (r : Result (Unit {0}) E) (count : ℕ) (others : OtherSums) (sum : Data) (text before mid after : List ℕ) → sum ≡ sum_data count others
    → IsInOrder text sum → (depth sum ≤ max_depth → read text ≡ Some sum) → mid ≡ before ++ text → after ≡ (if is_ok r then mid ++ codes "\n" else mid)
    → OnOk r (AppendsSums layout.Json count before after)
object_appended (Ok u) count others sum text before mid after is in_order reads_back h g = (
  others,
  text,
  (subst (λ d. IsInOrder text d) is in_order, subst (λ d. depth d ≤ max_depth → read text ≡ Some d) is reads_back),
  g ∙ ap (λ t. t ++ codes "\n") h ∙ append_assoc before text (codes "\n"),
)
object_appended (Err e) count others sum text before mid after is in_order reads_back h g = tt
