-- A set of transactions is read back from its own text.
use Rattle.std.proofs.Common.{◌≡◌, ◌⊎◌, inl, inr, ℕ, ◌<◌, ◌^◌, List, [], ◌∷◌, ◌++◌, length, Option, Some, None, Result, Ok, Err, Bool, true, false, nat_lt, if◌then◌else◌, refl, sym, subst, ◌∙◌, arith}
use Rattle.std.specs.List.{All}
use Rattle.std.proofs.lemmas.Bool.{ltb-true, ltb-false}
use Rattle.uuid.specs.Text.{parsed}
use Rattle.mysql_repl.specs.declared.gno_interval.GnoInterval.{GnoInterval}
use Rattle.mysql_repl.specs.declared.sid.Sid.{Sid}
use Rattle.mysql_repl.specs.declared.sid_text.InvalidSid.{InvalidSid}
use Rattle.mysql_repl.specs.declared.sid_text.InvalidSid.TheVariants as fault
use Rattle.mysql_repl.specs.declared.tag.InvalidTag.{InvalidTag}
use Rattle.mysql_repl.specs.GnoInterval.{end}
use Rattle.mysql_repl.specs.GtidSetText.{Found, trimmed, words, plain_number, server_numbers, server_interval, is_interval, interval_follows, tag_or, server_tag, with_interval, with_tag, found_in, kept, sids_found, read_uuid, read_piece, joined, read_pieces, read_sids}
use Rattle.mysql_repl.specs.GtidSetWritten.{set_text, EndsFit, SidInSet, SidsInSet}
use Rattle.mysql_repl.specs.ProperSid.{ProperInterval, AllProper, ProperIntervals}
use Rattle.mysql_repl.specs.Sid.{uuid, intervals, AreSids}
use Rattle.mysql_repl.specs.SidText.{colon, hyphen, comma, has, before, after, checked}
use Rattle.mysql_repl.proofs.GtidSetAgain.{set-text-again}
use Rattle.mysql_repl.proofs.SidTextRead.{checked-from, interval-by, same-ok}
use Rattle.mysql_repl.proofs.UuidBytes.{uuid-is}

-- ---- an interval

-- a nonempty one, which ends below 2^63
abbrev Fits : GnoInterval → Type 0
Fits i = ProperInterval i × (end i < 2 ^ 63)

server-by : (b : Bool) (first last : ℕ) (i : GnoInterval) → nat_lt 9223372036854775806 last ≡ b → (if b then Err fault.TooLarge else checked first last) ≡ Ok i → Fits i
server-by true first last i large h = absurd cc
server-by false first last i large h =
    let le = ltb-false 9223372036854775806 last large in
    let f = checked-from first last i (omega (arith, le)) h in
    (f.2, omega (arith, le, f.1))

numbers-fit : (first last : Option ℕ) (i : GnoInterval) → server_numbers first last ≡ Ok i → Fits i
numbers-fit None last i h = absurd cc
numbers-fit (Some first) None i h = absurd cc
numbers-fit (Some first) (Some last) i h = server-by (nat_lt 9223372036854775806 last) first last i refl h

interval-fits : (word : List ℕ) (i : GnoInterval) → server_interval word ≡ Ok i → Fits i
unfolding server_interval
interval-fits word i h =
    elim (interval-by (has hyphen word) (has hyphen (after hyphen word)) (server_numbers (plain_number (trimmed (before hyphen word))) (plain_number (trimmed (after hyphen word))))
    (server_numbers (plain_number word) (plain_number word)) i h) [
      | inl two ↦ numbers-fit (plain_number (trimmed (before hyphen word))) (plain_number (trimmed (after hyphen word))) i two.1
      | inr one ↦ numbers-fit (plain_number word) (plain_number word) i one
    ]

abbrev AllFit : List GnoInterval → Type 0
AllFit [] = Unit {0}
AllFit (i ∷ is) = Fits i × AllFit is

-- ---- the sids of a uuid

-- a sid that was read, except for its tag
record IsRead (s : Sid) : Type 0 where
  pub size : length (uuid s) ≡ 16
  pub bytes : All (λ b. b < 256) (uuid s)
  pub some : 0 < length (intervals s)
  pub fit : AllFit (intervals s)

abbrev AllRead : List Sid → Type 0
AllRead [] = Unit {0}
AllRead (s ∷ sids) = IsRead s × AllRead sids

all_read-append : (xs ys : List Sid) → AllRead xs → AllRead ys → AllRead (xs ++ ys)
all_read-append [] ys h k = k
all_read-append (x ∷ xs) ys h k = (h.0, all_read-append xs ys h.1 k)

by-kind : (b : Bool) (x y : Result Found InvalidSid) (found : Found) → (if b then x else y) ≡ Ok found → ((b ≡ true) × (x ≡ Ok found)) ⊎ ((b ≡ false) × (y ≡ Ok found))
by-kind true x y found h = inl (refl, h)
by-kind false x y found h = inr (refl, h)

with_interval-from : (r : Result GnoInterval InvalidSid) (m : Result Found InvalidSid) (found : Found) → with_interval r m ≡ Ok found
    → (i : GnoInterval) × (f : Found) × (r ≡ Ok i) × (m ≡ Ok f) × (◌≡◌ {A = Found} (i ∷ f.0, f.1) found)
with_interval-from (Err e) m found h = absurd cc
with_interval-from (Ok i) (Err e) found h = absurd cc
with_interval-from (Ok i) (Ok f) found h = (i, f, refl, refl, same-ok (i ∷ f.0, f.1) found h)

abbrev tagged : List ℕ → List ℕ → List GnoInterval → Sid
tagged id name is = record { uuid = id; tag = Some name; intervals = is }

with_tag-from : (id : List ℕ) (r : Result (List ℕ) InvalidSid) (m : Result Found InvalidSid) (found : Found) → with_tag id r m ≡ Ok found
    → (name : List ℕ) × (f : Found) × (r ≡ Ok name) × (m ≡ Ok f) × (◌≡◌ {A = Found} ([], tagged id name f.0 ∷ f.1) found)
with_tag-from id (Err e) m found h = absurd cc
with_tag-from id (Ok name) (Err e) found h = absurd cc
with_tag-from id (Ok name) (Ok f) found h = (name, f, refl, refl, same-ok ([], tagged id name f.0 ∷ f.1) found h)

tag_or-follows : (o : Option InvalidTag) (name : List ℕ) (follows : Bool) (t : List ℕ) → tag_or o name follows ≡ Ok t → follows ≡ true
tag_or-follows (Some e) name follows t h = absurd cc
tag_or-follows None name true t h = refl
tag_or-follows None name false t h = absurd cc

tag-follows : (word : List ℕ) (more : List (List ℕ)) (t : List ℕ) → server_tag word more ≡ Ok t → interval_follows more ≡ true
unfolding server_tag
tag-follows [] more t h = absurd cc
tag-follows (c ∷ cs) more t h = tag_or-follows _ _ (interval_follows more) t h

module _ (id : List ℕ) (size : length id ≡ 16) (id_bytes : All (λ b. b < 256) id) where
  -- the intervals up to the first tag, and the sids of the tags
  abbrev AreFound : (words_left : List (List ℕ)) → Found → Type 0
  AreFound words_left found = AllFit found.0 × AllRead found.1 × (interval_follows words_left ≡ true → 0 < length found.0)

  found-from : (ws : List (List ℕ)) (found : Found) → found_in id ws ≡ Ok found → AreFound ws found
  found-from [] found h =
      let none : ◌≡◌ {A = Found} ([], []) found = same-ok ([], []) found h in
      subst (λ (f : Found). AreFound [] f) none (tt, tt, λ k. absurd cc)
  found-from (word ∷ more) found h =
      elim (by-kind (is_interval word) (with_interval (server_interval word) (found_in id more)) (with_tag id (server_tag word more) (found_in id more)) found h) [
        | inl one ↦
            let w = with_interval-from (server_interval word) (found_in id more) found one.1 in
            let rest = found-from more w.1 w.3 in
            subst (λ (f : Found). AreFound (word ∷ more) f) w.4 ((interval-fits word w.0 w.2, rest.0), rest.1, λ k. omega arith)
        | inr other ↦
            let w = with_tag-from id (server_tag word more) (found_in id more) found other.1 in
            let rest = found-from more w.1 w.3 in
            let s : IsRead (tagged id w.0 w.1.0) = record { size = size; bytes = id_bytes; some = rest.2 (tag-follows word more w.0 w.2); fit = rest.0 } in
            subst (λ (f : Found). AreFound (word ∷ more) f) w.4 (tt, (s, rest.1), λ k. let c : ◌≡◌ {A = Bool} false true = sym other.0 ∙ k in absurd cc)
      ]

  kept-by : (b : Bool) (is : List GnoInterval) → nat_lt 0 (length is) ≡ b → AllFit is → AllRead (if b then record { uuid = id; tag = None; intervals = is } ∷ [] else [])
  kept-by true is some fit = (record { size = size; bytes = id_bytes; some = ltb-true 0 (length is) some; fit = fit }, tt)
  kept-by false is none fit = tt

  found-read : (r : Result Found InvalidSid) (sids : List Sid) → sids_found id r ≡ Ok sids → (found : Found) × (r ≡ Ok found) × (kept (record { uuid = id; tag = None; intervals = found.0 }) ++ found.1 ≡ sids)
  found-read (Err e) sids h = absurd cc
  found-read (Ok found) sids h = (found, refl, same-ok (kept (record { uuid = id; tag = None; intervals = found.0 }) ++ found.1) sids h)

  words-read : (ws : List (List ℕ)) (sids : List Sid) → sids_found id (found_in id ws) ≡ Ok sids → AllRead sids
  words-read ws sids h =
      let f = found-read (found_in id ws) sids h in
      let all = found-from ws f.0 f.1 in
      subst AllRead f.2 (all_read-append (kept (record { uuid = id; tag = None; intervals = f.0.0 })) f.0.1 (kept-by (nat_lt 0 (length f.0.0)) f.0.0 refl all.0) all.1)

-- ---- the whole text

uuid-read : (o : Option (List ℕ)) (text : List ℕ) (sids : List Sid) → read_uuid o text ≡ Ok sids → (id : List ℕ) × (o ≡ Some id) × (sids_found id (found_in id (words colon text)) ≡ Ok sids)
uuid-read None text sids h = absurd cc
uuid-read (Some id) text sids h = (id, refl, h)

cut-read : (cut : Bool) (x : Result (List Sid) InvalidSid) (sids : List Sid) → (if cut then x else Err fault.NoColon) ≡ Ok sids → x ≡ Ok sids
cut-read true x sids h = h
cut-read false x sids h = absurd cc

piece-read : (piece : List ℕ) (sids : List Sid) → read_piece piece ≡ Ok sids → AllRead sids
unfolding read_piece
piece-read [] sids h = subst AllRead (same-ok [] sids h) tt
piece-read (c ∷ cs) sids h =
    let front = trimmed (before colon (c ∷ cs)) in
    let text = after colon (c ∷ cs) in
    let u = uuid-read (parsed front) text sids (cut-read (has colon (c ∷ cs)) (read_uuid (parsed front) text) sids h) in
    let id = uuid-is front u.0 u.1 in
    words-read u.0 id.size id.bytes (words colon text) sids u.2

joined-from : (r m : Result (List Sid) InvalidSid) (sids : List Sid) → joined r m ≡ Ok sids → (xs : List Sid) × (ys : List Sid) × (r ≡ Ok xs) × (m ≡ Ok ys) × (xs ++ ys ≡ sids)
joined-from (Err e) m sids h = absurd cc
joined-from (Ok xs) (Err e) sids h = absurd cc
joined-from (Ok xs) (Ok ys) sids h = (xs, ys, refl, refl, same-ok (xs ++ ys) sids h)

pieces-read : (pieces : List (List ℕ)) (sids : List Sid) → read_pieces pieces ≡ Ok sids → AllRead sids
pieces-read [] sids h = subst AllRead (same-ok [] sids h) tt
pieces-read (piece ∷ pieces) sids h =
    let j = joined-from (read_piece piece) (read_pieces pieces) sids h in
    subst AllRead j.4 (all_read-append j.0 j.1 (piece-read piece j.0 j.2) (pieces-read pieces j.1 j.3))

-- ---- and reading back

all-proper : (is : List GnoInterval) → AllFit is → AllProper is
all-proper [] h = tt
all-proper (i ∷ is) h = (h.0.0, all-proper is h.1)

some-proper : (is : List GnoInterval) → 0 < length is → AllFit is → ProperIntervals is
some-proper [] lt h = omega (arith, lt)
some-proper (i ∷ is) lt h = (h.0.0, all-proper is h.1)

ends-fit : (is : List GnoInterval) → AllFit is → EndsFit is
ends-fit [] h = tt
ends-fit (i ∷ is) h = (h.0.1, ends-fit is h.1)

in-set : (sids : List Sid) → AllRead sids → AreSids sids → SidsInSet sids
in-set [] h k = tt
in-set (s ∷ sids) h k =
    let proper = some-proper (intervals s) h.0.some h.0.fit in
    let one : SidInSet s = record { proper = record { uuid = h.0.size; bytes = h.0.bytes; tag = k.0.tag; intervals = proper }; ends = ends-fit (intervals s) h.0.fit } in
    (one, in-set sids h.1 k.1)

pub set-read-again : (text : List ℕ) (sids : List Sid) → AreSids sids → read_sids text ≡ Ok sids → read_sids (set_text sids) ≡ Ok sids
unfolding read_sids
set-read-again text sids are h = set-text-again sids (in-set sids (pieces-read (words comma text) sids h) are)

pub ruleset sets_read_again = (set-read-again)
