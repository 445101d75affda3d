-- The entries of a GTID set's text, in order.
use Rattle.std.proofs.Common.{◌≡◌, ℕ, ◌+◌, List, [], ◌∷◌, ◌++◌, length, map, Option, Some, None, Err, Bool, true, false, nat_lt, if◌then◌else◌, refl, sym, ap, ◌∙◌, arith}
use Rattle.std.specs.Char.{to_ascii_lowercase}
use Rattle.std.proofs.lemmas.Bool.{le-ltb, lt-ltb}
use Rattle.uuid.specs.Text.{parsed}
use Rattle.mysql_repl.specs.GtidSetEntries.{Entry, sid, lead, tag_entry, first_entry, piece_entries, pieces_entries, word_entries}
use Rattle.mysql_repl.specs.GtidSetText.{interval_follows, is_interval, server_tag, tag_or, trimmed, words}
use Rattle.mysql_repl.specs.SidText.{after, before, colon, has}
use Rattle.mysql_repl.specs.Tag.{tag_fault}
use Rattle.mysql_repl.specs.declared.sid_text.InvalidSid.TheVariants as fault
use Rattle.mysql_repl.specs.declared.tag.InvalidTag.{InvalidTag}

-- ---- tags

follows-step : (b : Bool) (n : ℕ) → b ≡ nat_lt 0 (if b then n + 1 else 0)
follows-step true n = sym (lt-ltb 0 (n + 1) (omega arith))
follows-step false n = refl

follows : (more : List (List ℕ)) → interval_follows more ≡ nat_lt 0 (lead more)
follows [] = refl
follows (word ∷ more) = follows-step (is_interval word) (lead more)

tag-word : (id word : List ℕ) (more : List (List ℕ)) (o : Option InvalidTag) (n : ℕ) → (length word ≡ 0 → ⊥) → n ≡ lead more → tag_fault (map to_ascii_lowercase word) ≡ o
    → tag_entry id word (server_tag word more) n ≡ tag_entry id word (tag_or o (map to_ascii_lowercase word) (nat_lt 0 n)) n
unfolding server_tag
tag-word id [] more o n some is e = absurd (some refl)
tag-word id (c ∷ cs) more o n some is e =
    let lower = map to_ascii_lowercase (c ∷ cs) in
    ap (λ (b : Bool). tag_entry id (c ∷ cs) (tag_or (tag_fault lower) lower b) n) (follows more ∙ ap (nat_lt 0) (sym is)) ∙ ap (λ (f : Option InvalidTag). tag_entry id (c ∷ cs) (tag_or f lower (nat_lt 0 n)) n) e

-- the empty text is no tag
pub tag-empty : (id word : List ℕ) (more : List (List ℕ)) (n : ℕ) → length word ≡ 0 → Err fault.Empty ≡ tag_entry id word (server_tag word more) n
unfolding server_tag
tag-empty id [] more n none = refl
tag-empty id (c ∷ cs) more n none = absurd (omega (arith, none))

pub tag-refused : (id word : List ℕ) (more : List (List ℕ)) (e : InvalidTag) → (length word ≡ 0 → ⊥) → tag_fault (map to_ascii_lowercase word) ≡ Some e
    → Err (fault.Tag e) ≡ tag_entry id word (server_tag word more) (lead more)
tag-refused id word more e some is = sym (tag-word id word more (Some e) (lead more) some refl is)

pub tag-alone : (id word : List ℕ) (more : List (List ℕ)) (n : ℕ) → (length word ≡ 0 → ⊥) → tag_fault (map to_ascii_lowercase word) ≡ None → n ≡ lead more → n ≡ 0
    → Err fault.NoIntervals ≡ tag_entry id word (server_tag word more) (lead more)
tag-alone id word more n some e is none =
    let f : nat_lt 0 (lead more) ≡ false = le-ltb 0 (lead more) (omega (arith, is, none)) in
    sym (tag-word id word more None (lead more) some refl e ∙ ap (λ (b : Bool). tag_entry id word (tag_or None (map to_ascii_lowercase word) b) (lead more)) f)

pub tag-there : (id word : List ℕ) (more : List (List ℕ)) (n : ℕ) → (length word ≡ 0 → ⊥) → tag_fault (map to_ascii_lowercase word) ≡ None → n ≡ lead more → (n ≡ 0 → ⊥)
    → sid id (Some word) n ≡ tag_entry id word (server_tag word more) (lead more)
tag-there id word more n some e is there =
    let f : nat_lt 0 (lead more) ≡ true = lt-ltb 0 (lead more) (omega (arith, is, there)) in
    ap (sid id (Some word)) is
    ∙ sym (tag-word id word more None (lead more) some refl e ∙ ap (λ (b : Bool). tag_entry id word (tag_or None (map to_ascii_lowercase word) b) (lead more)) f)

-- ---- pieces

pub piece-no_colon : (piece : List ℕ) → (piece ≡ [] → ⊥) → has colon piece ≡ false → piece_entries piece ≡ Err fault.NoColon ∷ []
unfolding piece_entries
piece-no_colon [] some h = absurd (some refl)
piece-no_colon (c ∷ cs) some h = rw h refl

pub piece-no_uuid : (piece front word : List ℕ) → has colon piece ≡ true → front ≡ before colon piece → word ≡ trimmed front → None ≡ parsed word → piece_entries piece ≡ Err fault.Uuid ∷ []
unfolding piece_entries
piece-no_uuid [] front word h f w p = absurd cc
piece-no_uuid (c ∷ cs) front word h f w p = rw (h, ← f, ← w, ← p) refl

piece-uuid : (piece front word text id : List ℕ) → has colon piece ≡ true → front ≡ before colon piece → word ≡ trimmed front → Some id ≡ parsed word → text ≡ after colon piece
    → piece_entries piece ≡ first_entry id (lead (words colon text)) ++ word_entries id (words colon text)
unfolding piece_entries
piece-uuid [] front word text id h f w p t = absurd cc
piece-uuid (c ∷ cs) front word text id h f w p t = rw (h, ← f, ← w, ← p, ← t) refl

first-none : (id : List ℕ) (n : ℕ) → n ≡ 0 → first_entry id n ≡ []
first-none id n none = rw (le-ltb 0 n (omega (arith, none))) refl

first-some : (id : List ℕ) (n : ℕ) → (n ≡ 0 → ⊥) → first_entry id n ≡ sid id None n ∷ []
first-some id n some = rw (lt-ltb 0 n (omega (arith, some))) refl

-- the words begin with a tag
pub piece-tag : (piece front word text id : List ℕ) (n : ℕ) → has colon piece ≡ true → front ≡ before colon piece → word ≡ trimmed front → Some id ≡ parsed word → text ≡ after colon piece
    → n ≡ lead (words colon text) → n ≡ 0 → piece_entries piece ≡ word_entries id (words colon text)
piece-tag piece front word text id n h f w p t is none =
    piece-uuid piece front word text id h f w p t ∙ ap (λ (l : List Entry). l ++ word_entries id (words colon text)) (first-none id (lead (words colon text)) (sym is ∙ none))

-- they begin with an interval
pub piece-interval : (piece front word text id : List ℕ) (n : ℕ) → has colon piece ≡ true → front ≡ before colon piece → word ≡ trimmed front → Some id ≡ parsed word → text ≡ after colon piece
    → n ≡ lead (words colon text) → (n ≡ 0 → ⊥) → piece_entries piece ≡ sid id None n ∷ word_entries id (words colon text)
piece-interval piece front word text id n h f w p t is some =
    piece-uuid piece front word text id h f w p t
    ∙ ap (λ (k : ℕ). first_entry id k ++ word_entries id (words colon text)) (sym is)
    ∙ ap (λ (l : List Entry). l ++ word_entries id (words colon text)) (first-some id n some)

blank : piece_entries [] ≡ []
unfolding piece_entries
blank = refl

-- a blank piece has no entry
pub blank-step : (all : List (List ℕ)) (word : List ℕ) (more : List (List ℕ)) → all ≡ word ∷ more → length word ≡ 0 → pieces_entries all ≡ pieces_entries more
blank-step all [] more split none = ap pieces_entries split ∙ ap (λ (l : List Entry). l ++ pieces_entries more) blank
blank-step all (c ∷ cs) more split none = absurd (omega (arith, none))

pub ruleset entries = (tag-empty, tag-refused, tag-alone, tag-there, piece-no_colon)
