-- The text of a GTID set is read as the sids of its entries in order.
use Rattle.std.proofs.Common.{◌≡◌, ℕ, ◌+◌, List, [], ◌∷◌, ◌++◌, length, map, Option, Some, None, Result, Ok, Err, Bool, true, false, nat_lt, if◌then◌else◌, refl, sym, ap, subst, ◌∙◌, arith}
use Rattle.std.proofs.lemmas.Bool.{ltb-false}
use Rattle.std.proofs.lemmas.List.{map-append}
use Rattle.uuid.specs.Text.{parsed}
use Rattle.mysql_repl.specs.GtidSetEntries.{Entry, alone, counts, sid, sids_of, with_entry, interval_entry, lead, tag_entry, word_entries, first_entry, uuid_entries, piece_entries, pieces_entries, text_entries}
use Rattle.std.specs.Char.{to_ascii_lowercase}
use Rattle.mysql_repl.specs.Tag.{tag_fault}
use Rattle.mysql_repl.specs.declared.tag.InvalidTag.{InvalidTag}
use Rattle.mysql_repl.specs.GtidSetText.{Found, interval_follows, is_interval, server_interval, server_tag, tag_or, with_interval, with_tag, found_in, sids_found, read_uuid, read_piece, joined, read_pieces, read_sids, words, trimmed}
use Rattle.mysql_repl.specs.Sid.{intervals}
use Rattle.mysql_repl.specs.SidText.{after, before, colon, comma, has}
use Rattle.mysql_repl.specs.declared.gno_interval.GnoInterval.{GnoInterval}
use Rattle.mysql_repl.specs.declared.gtid_set_entries.GtidSetEntry.{GtidSetEntry}
use Rattle.mysql_repl.specs.declared.gtid_set_entries.GtidSetEntry.TheVariants as entry
use Rattle.mysql_repl.specs.declared.sid.Sid.{Sid}
use Rattle.mysql_repl.specs.declared.sid_text.InvalidSid.{InvalidSid}
use Rattle.mysql_repl.specs.declared.sid_text.InvalidSid.TheVariants as fault

abbrev lengths : List Sid → List ℕ
lengths sids = map (λ s. length (intervals s)) sids

-- ---- the words after a uuid

-- the intervals before the first sid, and those of each sid, are counted
abbrev Counted : List Entry → ℕ → Result Found InvalidSid → Type 0
Counted list n (Ok found) = (n ≡ length found.0) × (counts list ≡ lengths found.1)
Counted list n (Err e) = Unit {0}

record Tells (list : List Entry) (n : ℕ) (r : Result Found InvalidSid) : Type 0 where
  pub read : sids_of list ≡ r
  pub counted : Counted list n r

-- a tag is the word in lower case
abbrev IsLowered : (word : List ℕ) → Result (List ℕ) InvalidSid → Type 0
IsLowered word (Ok tag) = map to_ascii_lowercase word ≡ tag
IsLowered word (Err e) = Unit {0}

lowered-or : (word : List ℕ) (o : Option InvalidTag) (follows : Bool) → IsLowered word (tag_or o (map to_ascii_lowercase word) follows)
lowered-or word (Some e) follows = tt
lowered-or word None false = tt
lowered-or word None true = refl

lowered : (word : List ℕ) (more : List (List ℕ)) → IsLowered word (server_tag word more)
unfolding server_tag
lowered [] more = tt
lowered (c ∷ cs) more = lowered-or (c ∷ cs) (tag_fault (map to_ascii_lowercase (c ∷ cs))) (interval_follows more)

abbrev as_sid : (id : List ℕ) (found : Found) → List ℕ → Result Found InvalidSid
as_sid id found tag = Ok ([], record { uuid = id; tag = Some tag; intervals = found.0 } ∷ found.1)

step : (id word : List ℕ) (b : Bool) (i : Result GnoInterval InvalidSid) (g : Result (List ℕ) InvalidSid) (r : Result Found InvalidSid) (list : List Entry) (n : ℕ) → IsLowered word g → Tells list n r
    → Tells ((if b then interval_entry i else tag_entry id word g n) ∷ list) (if b then n + 1 else 0) (if b then with_interval i r else with_tag id g r)
step id word true (Ok i) g (Ok found) list n low h = record { read = ap (with_entry (entry.Interval i)) h.read; counted = (omega (arith, h.counted.0), h.counted.1) }
step id word true (Ok i) g (Err e) list n low h = record { read = ap (with_entry (entry.Interval i)) h.read; counted = tt }
step id word true (Err e) g r list n low h = record { read = refl; counted = tt }
step id word false i (Ok tag) (Ok found) list n low h =
    record {
      read = ap (with_entry (entry.Sid (record { uuid = id; tag = Some word; intervals = n }))) h.read ∙ ap (as_sid id found) low;
      counted = (refl, rw (h.counted.0, h.counted.1) refl);
    }
step id word false i (Ok tag) (Err e) list n low h = record { read = ap (with_entry (entry.Sid (record { uuid = id; tag = Some word; intervals = n }))) h.read; counted = tt }
step id word false i (Err e) r list n low h = record { read = refl; counted = tt }

words-read : (id : List ℕ) (list : List (List ℕ)) → Tells (word_entries id list) (lead list) (found_in id list)
words-read id [] = record { read = refl; counted = (refl, refl) }
words-read id (word ∷ more) =
    step id word (is_interval word) (server_interval word) (server_tag word more) (found_in id more) (word_entries id more) (lead more) (lowered word more) (words-read id more)

-- ---- sids

abbrev AllCounted : List Entry → Result (List Sid) InvalidSid → Type 0
AllCounted list (Ok sids) = counts list ≡ lengths sids
AllCounted list (Err e) = Unit {0}

record ReadAs (list : List Entry) (r : Result (List Sid) InvalidSid) : Type 0 where
  pub read : sids_of list ≡ alone r
  pub counted : AllCounted list r

none-there : (is : List GnoInterval) → nat_lt 0 (length is) ≡ false → is ≡ []
none-there [] h = refl
none-there (i ∷ is) h = absurd (omega (arith, ltb-false 0 (length (i ∷ is)) h))

kept-read : (id : List ℕ) (b : Bool) (n : ℕ) (list : List Entry) (found : Found) → nat_lt 0 (length found.0) ≡ b → Tells list n (Ok found)
    → ReadAs ((if b then sid id None n ∷ [] else []) ++ list) (Ok ((if b then (record { uuid = id; tag = None; intervals = found.0 }) ∷ [] else []) ++ found.1))
kept-read id true n list found e h =
    record { read = ap (with_entry (entry.Sid (record { uuid = id; tag = None; intervals = n }))) h.read; counted = rw (h.counted.0, h.counted.1) refl }
kept-read id false n list found e h =
    record { read = h.read ∙ ap (λ (is : List GnoInterval). Ok (is, found.1)) (none-there found.0 e); counted = h.counted.1 }

refused-read : (id : List ℕ) (b : Bool) (n : ℕ) (list : List Entry) (e : InvalidSid) → sids_of list ≡ Err e → sids_of ((if b then sid id None n ∷ [] else []) ++ list) ≡ Err e
refused-read id true n list e h = ap (with_entry (entry.Sid (record { uuid = id; tag = None; intervals = n }))) h
refused-read id false n list e h = h

uuid-read : (id : List ℕ) (n : ℕ) (list : List Entry) (r : Result Found InvalidSid) → Tells list n r → ReadAs (first_entry id n ++ list) (sids_found id r)
uuid-read id n list (Err e) h = record { read = refused-read id (nat_lt 0 n) n list e h.read; counted = tt }
uuid-read id n list (Ok found) h =
    let s : Sid = record { uuid = id; tag = None; intervals = found.0 } in
    subst (λ (k : ℕ). ReadAs ((if nat_lt 0 k then sid id None n ∷ [] else []) ++ list) (Ok ((if nat_lt 0 (length found.0) then s ∷ [] else []) ++ found.1))) (sym h.counted.0)
    (kept-read id (nat_lt 0 (length found.0)) n list found refl h)

piece-step : (b : Bool) (o : Option (List ℕ)) (text : List ℕ) → ReadAs (if b then uuid_entries o (words colon text) else Err fault.NoColon ∷ []) (if b then read_uuid o text else Err fault.NoColon)
piece-step true None text = record { read = refl; counted = tt }
piece-step true (Some id) text = uuid-read id (lead (words colon text)) (word_entries id (words colon text)) (found_in id (words colon text)) (words-read id (words colon text))
piece-step false o text = record { read = refl; counted = tt }

piece-read : (piece : List ℕ) → ReadAs (piece_entries piece) (read_piece piece)
unfolding piece_entries read_piece
piece-read [] = record { read = refl; counted = refl }
piece-read (c ∷ cs) = piece-step (has colon (c ∷ cs)) (parsed (trimmed (before colon (c ∷ cs)))) (after colon (c ∷ cs))

-- ---- pieces

-- sids after those that were found
abbrev followed : Result Found InvalidSid → Result (List Sid) InvalidSid → Result Found InvalidSid
followed (Err e) q = Err e
followed (Ok found) (Err e) = Err e
followed (Ok found) (Ok sids) = Ok (found.0, found.1 ++ sids)

followed-none : (q : Result (List Sid) InvalidSid) → alone q ≡ followed (Ok ([], [])) q
followed-none (Err e) = refl
followed-none (Ok sids) = refl

followed-entry : (x : GtidSetEntry) (r : Result Found InvalidSid) (q : Result (List Sid) InvalidSid) → with_entry x (followed r q) ≡ followed (with_entry x r) q
followed-entry (entry.Interval i) (Err e) q = refl
followed-entry (entry.Interval i) (Ok found) (Err e) = refl
followed-entry (entry.Interval i) (Ok found) (Ok sids) = refl
followed-entry (entry.Sid s) (Err e) q = refl
followed-entry (entry.Sid s) (Ok found) (Err e) = refl
followed-entry (entry.Sid s) (Ok found) (Ok sids) = refl

followed-all : (xs ys : List Entry) (q : Result (List Sid) InvalidSid) → sids_of ys ≡ alone q → sids_of (xs ++ ys) ≡ followed (sids_of xs) q
followed-all [] ys q h = h ∙ followed-none q
followed-all (Err e ∷ xs) ys q h = refl
followed-all (Ok x ∷ xs) ys q h = ap (with_entry x) (followed-all xs ys q h) ∙ followed-entry x (sids_of xs) q

followed-joined : (r q : Result (List Sid) InvalidSid) → followed (alone r) q ≡ alone (joined r q)
followed-joined (Err e) q = refl
followed-joined (Ok sids) (Err e) = refl
followed-joined (Ok sids) (Ok more) = refl

counts-append : (xs ys : List Entry) → counts (xs ++ ys) ≡ counts xs ++ counts ys
counts-append [] ys = refl
counts-append (Err e ∷ xs) ys = counts-append xs ys
counts-append (Ok (entry.Interval i) ∷ xs) ys = counts-append xs ys
counts-append (Ok (entry.Sid s) ∷ xs) ys = ap (λ (l : List ℕ). s.intervals ∷ l) (counts-append xs ys)

joined-counted : (xs ys : List Entry) (r q : Result (List Sid) InvalidSid) → AllCounted xs r → AllCounted ys q → AllCounted (xs ++ ys) (joined r q)
joined-counted xs ys (Err e) q h k = tt
joined-counted xs ys (Ok sids) (Err e) h k = tt
joined-counted xs ys (Ok sids) (Ok more) h k = counts-append xs ys ∙ rw (h, k) (sym (map-append (λ s. length (intervals s)) sids more))

pieces-read : (pieces : List (List ℕ)) → ReadAs (pieces_entries pieces) (read_pieces pieces)
pieces-read [] = record { read = refl; counted = refl }
pieces-read (piece ∷ pieces) =
    let one = piece-read piece in
    let others = pieces-read pieces in
    record {
      read = followed-all (piece_entries piece) (pieces_entries pieces) (read_pieces pieces) others.read ∙ ap (λ (r : Result Found InvalidSid). followed r (read_pieces pieces)) one.read
          ∙ followed-joined (read_piece piece) (read_pieces pieces);
      counted = joined-counted (piece_entries piece) (pieces_entries pieces) (read_piece piece) (read_pieces pieces) one.counted others.counted;
    }

text-read : (text : List ℕ) → ReadAs (text_entries text) (read_sids text)
unfolding text_entries read_sids
text-read text = pieces-read (words comma text)

pub entries-read : (text : List ℕ) → sids_of (text_entries text) ≡ alone (read_sids text)
entries-read text = (text-read text).read

counted-of : (list : List Entry) (r : Result (List Sid) InvalidSid) (sids : List Sid) → AllCounted list r → r ≡ Ok sids → counts list ≡ lengths sids
counted-of list (Ok given) sids h is = h ∙ ap lengths (cc)
counted-of list (Err e) sids h is = absurd cc

pub entries-counted : (text : List ℕ) (sids : List Sid) → read_sids text ≡ Ok sids → counts (text_entries text) ≡ map (λ s. length (intervals s)) sids
entries-counted text sids is = counted-of (text_entries text) (read_sids text) sids (text-read text).counted is

pub ruleset entries_read = (entries-read, entries-counted)
