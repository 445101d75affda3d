-- The text of a GTID set, written from the caller's structs.
use Rattle.std.proofs.Common.{◌≡◌, ℕ, ◌+◌, ◌-◌, ◌^◌, ◌<◌, ◌≤◌, min, List, [], ◌∷◌, ◌++◌, length, take, drop, get_or, Option, Some, None, true, refl, sym, ap, ◌∙◌, append_assoc, arith}
use Rattle.std.proofs.lemmas.List.{append-nil, drop-drop, get_or-map, length-append, length-map, take-append-drop, take_all}
use Rattle.std.proofs.lemmas.List.Folds.{flat_map-map}
use Rattle.std.specs.List.{flat_map}
use Rattle.std.specs.Prelude.{codes, is_some}
use Rattle.mysql_repl.specs.declared.sid.Sid.{Sid}
use Rattle.mysql_repl.specs.SidText.{interval_text, tag_text}
use Rattle.mysql_repl.specs.TagString.{tag_bytes}
use Rattle.mysql_repl.specs.GtidSetWritten.{next_text, set_text, texts_after, words_text}
use Rattle.mysql_repl.proofs.GtidSetWritings.{last_from, last-next, texts-next}
use Rattle.mysql_wire.specs.Writing.{saturated}
use Rattle.mysql_packets_c.specs.Sid.{interval_of, sid_or, sids_or, tag_or}
use Rattle.mysql_packets_c.specs.declared.sid.CSid.{CSid}

-- a tag, after its colon
tag-shown : (tag : Option (List ℕ)) → is_some tag ≡ true → tag_text tag ≡ codes ":" ++ tag_bytes tag
tag-shown None some = absurd cc
tag-shown (Some tag) some = refl

pub words-with-tag : (s : CSid) (colon tag : List ℕ) → is_some (tag_or s) ≡ true → colon ≡ codes ":" → tag ≡ tag_bytes (tag_or s)
    → colon ++ (tag ++ (flat_map (λ i. interval_text (interval_of i)) s.intervals.now ++ [])) ≡ words_text (sid_or s)
words-with-tag s colon tag some is same = rw (is, same, tag-shown (tag_or s) some) (simp (append-nil, flat_map-map))

pub ruleset parts = (flat_map-map, length-map)

texts-parts : (before : Option Sid) (xs ys : List Sid) → texts_after before (xs ++ ys) ≡ texts_after before xs ++ texts_after (last_from before xs) ys
texts-parts before [] ys = refl
texts-parts before (s ∷ xs) ys =
    ap (λ (t : List ℕ). next_text before s ++ t) (texts-parts (Some s) xs ys) ∙ sym (append_assoc (next_text before s) (texts_after (Some s) xs) (texts_after (last_from (Some s) xs) ys))

module _ (list : List CSid) (k : ℕ) (s d : CSid) (lt : k < length list) (is : s ≡ get_or list k d) where
  fits-list : k < length (sids_or list)
  fits-list = omega (arith, lt, length-map list sid_or)

  is-sid : sid_or s ≡ get_or (sids_or list) k (sid_or s)
  is-sid = ap sid_or is ∙ sym (get_or-map sid_or list k d (sid_or s) lt)

  pub next-last : last_from None (take (k + 1) (sids_or list)) ≡ Some (sid_or s)
  next-last = last-next (sids_or list) k (sid_or s) fits-list is-sid

  pub next-texts : (before : Option Sid) → before ≡ last_from None (take k (sids_or list)) → texts_after None (take k (sids_or list)) ++ next_text before (sid_or s) ≡ texts_after None (take (k + 1) (sids_or list))
  next-texts before b = texts-next (sids_or list) k (sid_or s) before fits-list is-sid b

  next-length : (before : Option Sid) → before ≡ last_from None (take k (sids_or list)) → length (texts_after None (take k (sids_or list))) + length (next_text before (sid_or s)) ≡ length (texts_after None (take (k + 1) (sids_or list)))
  next-length before b = sym (length-append (texts_after None (take k (sids_or list))) (next_text before (sid_or s))) ∙ ap length (next-texts before b)

  pub next-total : (before : Option Sid) → before ≡ last_from None (take k (sids_or list)) → (total len sum : ℕ) → total ≡ saturated (length (texts_after None (take k (sids_or list)))) → len ≡ saturated (length (next_text before (sid_or s)))
      → sum ≡ min (total + len) (2 ^ 64 - 1) → sum ≡ saturated (length (texts_after None (take (k + 1) (sids_or list))))
  unfolding saturated
  next-total before b total len sum is next added = omega (arith, is, next, added, next-length before b)

  -- there is capacity for it if there is for all of it
  pub next-fits : (before : Option Sid) → before ≡ last_from None (take k (sids_or list)) → (held now : List ℕ) (capacity grown : ℕ) → now ≡ held ++ texts_after None (take k (sids_or list)) → capacity ≤ grown
      → length held + length (set_text (sids_or list)) ≤ capacity → length now + length (next_text before (sid_or s)) ≤ grown
  unfolding set_text
  next-fits before b held now capacity grown is more fits =
      let front = take (k + 1) (sids_or list) in
      let whole : texts_after None (sids_or list) ≡ texts_after None front ++ texts_after (last_from None front) (drop (k + 1) (sids_or list)) =
      sym (ap (texts_after None) (take-append-drop (k + 1) (sids_or list))) ∙ texts-parts None front (drop (k + 1) (sids_or list)) in
      let long = ap length whole ∙ length-append (texts_after None front) (texts_after (last_from None front) (drop (k + 1) (sids_or list))) in
      let so_far = ap length is ∙ length-append held (texts_after None (take k (sids_or list))) in
      omega (arith, long, next-length before b, so_far, more, fits)

  pub next-held : (before : Option Sid) → before ≡ last_from None (take k (sids_or list)) → (held now after : List ℕ) → now ≡ held ++ texts_after None (take k (sids_or list)) → after ≡ now ++ next_text before (sid_or s)
      → after ≡ held ++ texts_after None (take (k + 1) (sids_or list))
  next-held before b held now after is put =
      let next = next_text before (sid_or s) in
      let texts = texts_after None (take k (sids_or list)) in
      put ∙ ap (λ (l : List ℕ). l ++ next) is ∙ append_assoc held texts next ∙ ap (λ (l : List ℕ). held ++ l) (next-texts before b)

  pub next-after : (before : Option Sid) → before ≡ last_from None (take k (sids_or list)) → (places now after : List ℕ) → now ≡ drop (length (texts_after None (take k (sids_or list)))) places
      → after ≡ drop (length (next_text before (sid_or s))) now → after ≡ drop (length (texts_after None (take (k + 1) (sids_or list)))) places
  next-after before b places now after is put =
      let next = next_text before (sid_or s) in
      let texts = texts_after None (take k (sids_or list)) in
      put ∙ ap (drop (length next)) is ∙ drop-drop (length next) (length texts) places ∙ ap (λ (n : ℕ). drop n places) (next-length before b)

pub all-texts : (list : List CSid) (k : ℕ) → length list ≤ k → texts_after None (take k (sids_or list)) ≡ set_text (sids_or list)
unfolding set_text
all-texts list k past = ap (texts_after None) (take_all k (sids_or list) (omega (arith, past, length-map list sid_or)))
