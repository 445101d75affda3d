-- How the sids of a text are written while they are read.
use Rattle.std.proofs.Common.{◌≡◌, ℕ, zero, suc, ◌+◌, ◌%◌, ◌^◌, ◌<◌, List, [], ◌∷◌, Ok, Err, Bool, true, false, ◌||◌, nat_lt, refl, sym, ap, ◌∙◌, arith}
use Rattle.std.specs.List.{list_any}
use Rattle.std.proofs.lemmas.Bool.{lt-ltb}
use Rattle.mysql_repl.specs.GtidSetEntries.{Entry}
use Rattle.mysql_repl.specs.declared.gtid_set_entries.GtidSetEntry.{GtidSetEntry}
use Rattle.mysql_repl.specs.declared.sid_text.InvalidSid.{InvalidSid}
use Rattle.mysql_packets_c.specs.GtidEntries.{has_tag, heads, is_refused, one_if_head}
use Rattle.mysql_packets_c.specs.TextDump.{Adds, IsLayout}
use Rattle.mysql_packets_c.specs.declared.text_dump.Layout.{Layout}

-- what was read and the rest are all of it
pub record LayoutSoFar (l : Layout) (left all : List Entry) : Type 0 where
  pub read : list_any is_refused left ≡ list_any is_refused all
  pub some : (l.some || nat_lt 0 (heads left)) ≡ nat_lt 0 (heads all)
  pub tagged : (l.tagged || list_any has_tag left) ≡ list_any has_tag all
  pub count : (l.count + heads left) % 2 ^ 64 ≡ heads all % 2 ^ 64
  pub few : l.count < 2 ^ 64

pub layout-begins : (l : Layout) (left all : List Entry) → left ≡ all → l.some ≡ false → l.tagged ≡ false → l.count ≡ 0 → LayoutSoFar l left all
layout-begins l left all same s t n =
    rw (same) (record {
      read = refl;
      some = ap (λ (b : Bool). b || nat_lt 0 (heads all)) s;
      tagged = ap (λ (b : Bool). b || list_any has_tag all) t;
      count = omega (arith, n);
      few = omega (arith, n);
    })

or-sum : (b : Bool) (m n : ℕ) → ((b || nat_lt 0 m) || nat_lt 0 n) ≡ (b || nat_lt 0 (m + n))
or-sum true m n = refl
or-sum false zero n = let e : 0 + n ≡ n = omega arith in rw e refl
or-sum false (suc m) n = rw (lt-ltb 0 (suc m) (omega arith), lt-ltb 0 (suc m + n) (omega arith)) refl

or-assoc : (a b c : Bool) → ((a || b) || c) ≡ (a || (b || c))
or-assoc true b c = refl
or-assoc false b c = refl

module _ (l : Layout) (left more all : List Entry) (so_far : LayoutSoFar l left all) where
  pub layout-refused : (e : InvalidSid) → left ≡ Err e ∷ more → list_any is_refused all ≡ true
  layout-refused e split = sym so_far.read ∙ ap (list_any is_refused) split

  pub layout-next : (x : GtidSetEntry) → left ≡ Ok x ∷ more → (next : Layout) → Adds l x next → LayoutSoFar next more all
  layout-next x split next adds =
      let e : Entry = Ok x in
      record {
        read = ap (list_any is_refused) (sym split) ∙ so_far.read;
        some = ap (λ (b : Bool). b || nat_lt 0 (heads more)) adds.some ∙ or-sum l.some (one_if_head e) (heads more) ∙ ap (λ (k : List Entry). l.some || nat_lt 0 (heads k)) (sym split) ∙ so_far.some;
        tagged = ap (λ (b : Bool). b || list_any has_tag more) adds.tagged ∙ or-assoc l.tagged (has_tag e) (list_any has_tag more) ∙ ap (λ (k : List Entry). l.tagged || list_any has_tag k) (sym split) ∙ so_far.tagged;
        count = omega (arith, adds.count, ap heads split, so_far.count);
        few = omega (arith, adds.count);
      }

pub or-false : (b : Bool) → (b || false) ≡ b
or-false true = refl
or-false false = refl

pub layout-ends : (l : Layout) (left all : List Entry) → left ≡ [] → LayoutSoFar l left all → IsLayout l all
layout-ends l left all none so_far =
    record {
      read = sym so_far.read ∙ ap (list_any is_refused) none;
      some = sym (or-false l.some) ∙ ap (λ (k : List Entry). l.some || nat_lt 0 (heads k)) (sym none) ∙ so_far.some;
      tagged = sym (or-false l.tagged) ∙ ap (λ (k : List Entry). l.tagged || list_any has_tag k) (sym none) ∙ so_far.tagged;
      count = omega (arith, so_far.count, so_far.few, ap heads none);
    }

pub ruleset layouts = (layout-begins, layout-ends)

pub ruleset adds = (or-false)
