-- Sids are read back from their text.
use Rattle.std.proofs.Common.{◌≡◌, inl, ℕ, ◌+◌, ◌==◌, List, [], ◌∷◌, ◌++◌, length, map, nat_eq, Option, Some, None, is_some, Result, Ok, Bool, true, false, codes, if◌then◌else◌, refl, sym, ap, subst, ◌∙◌, arith, append_assoc}
use Rattle.std.specs.Cmp.Lexicographic.{pointwise}
use Rattle.std.specs.List.{flat_map}
use Rattle.std.proofs.lemmas.Bool.{and_parts, lt-ltb}
use Rattle.std.proofs.lemmas.Grind.{flat_map-append}
use Rattle.uuid.proofs.RoundTrips.{parses_hyphenated}
use Rattle.uuid.specs.Text.{hyphenated_text, lower}
use Rattle.mysql_wire.proofs.Same.{bytes-same}
use Rattle.mysql_repl.specs.declared.gno_interval.GnoInterval.{GnoInterval}
use Rattle.mysql_repl.specs.declared.sid.Sid.{Sid}
use Rattle.mysql_repl.specs.declared.sid_text.InvalidSid.{InvalidSid}
use Rattle.mysql_repl.specs.GnoInterval.{start, end}
use Rattle.mysql_repl.specs.GtidSetText.{Found, trimmed, words, server_interval, is_interval, interval_follows, tag_or, server_tag, found_in, sids_found, read_piece, joined, read_pieces, read_sids}
use Rattle.mysql_repl.specs.GtidSetWritten.{goes_on, words_text, next_text, texts_after, set_text, EndsFit, SidInSet, SidsInSet}
use Rattle.mysql_repl.specs.ProperSid.{AllProper, ProperIntervals}
use Rattle.mysql_repl.specs.Sid.{uuid, tag, intervals}
use Rattle.mysql_repl.specs.SidText.{colon, comma, is, interval_text, tag_text, sid_text}
use Rattle.mysql_repl.specs.Tag.{IsTag, tag_fault}
use Rattle.mysql_repl.specs.TagString.{OptionalTag}
use Rattle.mysql_repl.proofs.GtidSetTexts.{uuid-read}
use Rattle.mysql_repl.proofs.PlainWords.{Plain, NoWhite, plain-no_white, plain-lacks_colon, plain-lacks_comma, no_white-append, tag-plain, uuid-plain, trimmed-same, trimmed-newline, each_after, AllLack, split-joined, lowers-same}
use Rattle.mysql_repl.proofs.SidCuts.{Lacks, lacks-append, has-cut, before-cut, after-cut}
use Rattle.mysql_repl.proofs.SidSpelled.{no-digit}
use Rattle.mysql_repl.proofs.SidTextAgain.{body, text-is}
use Rattle.mysql_repl.proofs.Tags.{tag-parts, tag-no_fault, nothing}
use Rattle.mysql_repl.proofs.GtidIntervalsAgain.{interval-first, interval-read, plain-by}

-- ---- the words of a sid

abbrev tag_words : Option (List ℕ) → List (List ℕ)
tag_words None = []
tag_words (Some t) = t ∷ []

abbrev words_of : Option (List ℕ) → List GnoInterval → List (List ℕ)
words_of name is = tag_words name ++ map body is

abbrev sid_words : Sid → List (List ℕ)
sid_words s = words_of (tag s) (intervals s)

intervals-joined : (is : List GnoInterval) → flat_map interval_text is ≡ each_after 58 (map body is)
intervals-joined [] = refl
intervals-joined (i ∷ is) =
    ap (λ (t : List ℕ). t ++ flat_map interval_text is) (text-is i) ∙ ap (λ (t : List ℕ). 58 ∷ (body i ++ t)) (intervals-joined is)

parts-joined : (name : Option (List ℕ)) (is : List GnoInterval) → tag_text name ++ flat_map interval_text is ≡ each_after 58 (words_of name is)
parts-joined None is = intervals-joined is
parts-joined (Some t) is = ap (λ (x : List ℕ). 58 ∷ (t ++ x)) (intervals-joined is)

abbrev AllPlain : List (List ℕ) → Type 0
AllPlain [] = Unit {0}
AllPlain (w ∷ ws) = Plain w × AllPlain ws

all_plain-append : (xs ys : List (List ℕ)) → AllPlain xs → AllPlain ys → AllPlain (xs ++ ys)
all_plain-append [] ys h k = k
all_plain-append (x ∷ xs) ys h k = (h.0, all_plain-append xs ys h.1 k)

bodies-plain : (is : List GnoInterval) → AllProper is → AllPlain (map body is)
bodies-plain [] h = tt
bodies-plain (i ∷ is) h = (plain-by (end i == start i + 1) i h.0, bodies-plain is h.1)

all-proper : (is : List GnoInterval) → ProperIntervals is → AllProper is
all-proper [] h = tt
all-proper (i ∷ is) h = h

parts-plain : (name : Option (List ℕ)) (is : List GnoInterval) → OptionalTag name → AllProper is → AllPlain (words_of name is)
parts-plain None is h k = bodies-plain is k
parts-plain (Some t) is h k = (tag-plain t h, bodies-plain is k)

-- ---- how the words are read

interval-step : (id word : List ℕ) (more : List (List ℕ)) (i : GnoInterval) (found : Found) → is_interval word ≡ true → server_interval word ≡ Ok i → found_in id more ≡ Ok found
    → found_in id (word ∷ more) ≡ Ok (i ∷ found.0, found.1)
interval-step id word more i found h e f = rw (h, e, f) refl

tag-step : (id word name : List ℕ) (more : List (List ℕ)) (found : Found) → is_interval word ≡ false → server_tag word more ≡ Ok name → found_in id more ≡ Ok found
    → found_in id (word ∷ more) ≡ Ok ([], record { uuid = id; tag = Some name; intervals = found.0 } ∷ found.1)
tag-step id word name more found h e f = rw (h, e, f) refl

found-intervals : (id : List ℕ) (is : List GnoInterval) (ws : List (List ℕ)) (sids : List Sid) → AllProper is → EndsFit is → found_in id ws ≡ Ok ([], sids)
    → found_in id (map body is ++ ws) ≡ Ok (is, sids)
found-intervals id [] ws sids h k e = e
found-intervals id (i ∷ is) ws sids h k e =
    interval-step id (body i) (map body is ++ ws) i (is, sids) (interval-first i h.0) (interval-read i h.0 k.0) (found-intervals id is ws sids h.1 k.1 e)

tag-first : (name : List ℕ) → IsTag name → is_interval name ≡ false
tag-first [] h = absurd (nothing h)
tag-first (c ∷ cs) h = no-digit c (tag-parts c cs h).first

tag-server : (name : List ℕ) (more : List (List ℕ)) → IsTag name → interval_follows more ≡ true → server_tag name more ≡ Ok name
unfolding server_tag
tag-server [] more h f = absurd (nothing h)
tag-server (c ∷ cs) more h f =
    ap (λ (t : List ℕ). tag_or (tag_fault t) t (interval_follows more)) (lowers-same (c ∷ cs) (tag-plain (c ∷ cs) h))
    ∙ rw (tag-no_fault (c ∷ cs) h, f) refl

follows : (is : List GnoInterval) (ws : List (List ℕ)) → ProperIntervals is → interval_follows (map body is ++ ws) ≡ true
follows [] ws h = absurd h
follows (i ∷ is) ws h = interval-first i h.0

found-tagged : (id name : List ℕ) (is : List GnoInterval) (ws : List (List ℕ)) (sids : List Sid) → IsTag name → ProperIntervals is → EndsFit is → found_in id ws ≡ Ok ([], sids)
    → found_in id (name ∷ (map body is ++ ws)) ≡ Ok ([], record { uuid = id; tag = Some name; intervals = is } ∷ sids)
found-tagged id name is ws sids t h k e =
    tag-step id name name (map body is ++ ws) (is, sids) (tag-first name t) (tag-server name (map body is ++ ws) t (follows is ws h)) (found-intervals id is ws sids (all-proper is h) k e)

-- a sid that continues
found-next : (id : List ℕ) (name : Option (List ℕ)) (is : List GnoInterval) (ws : List (List ℕ)) (sids : List Sid) → is_some name ≡ true → OptionalTag name → ProperIntervals is → EndsFit is
    → found_in id ws ≡ Ok ([], sids) → found_in id (words_of name is ++ ws) ≡ Ok ([], record { uuid = id; tag = name; intervals = is } ∷ sids)
found-next id None is ws sids some t h k e = absurd cc
found-next id (Some name) is ws sids some t h k e = found-tagged id name is ws sids t h k e

kept-untagged : (id : List ℕ) (i : GnoInterval) (is : List GnoInterval) (sids : List Sid) → sids_found id (Ok (i ∷ is, sids)) ≡ Ok (record { uuid = id; tag = None; intervals = i ∷ is } ∷ sids)
kept-untagged id i is sids = rw (lt-ltb 0 (length (i ∷ is)) (omega arith)) refl

-- a sid after its uuid
found-first : (id : List ℕ) (name : Option (List ℕ)) (is : List GnoInterval) (ws : List (List ℕ)) (sids : List Sid) → OptionalTag name → ProperIntervals is → EndsFit is
    → found_in id ws ≡ Ok ([], sids) → sids_found id (found_in id (words_of name is ++ ws)) ≡ Ok (record { uuid = id; tag = name; intervals = is } ∷ sids)
found-first id None [] ws sids t h k e = absurd h
found-first id None (i ∷ is) ws sids t h k e = ap (sids_found id) (found-intervals id (i ∷ is) ws sids h k e) ∙ kept-untagged id i is sids
found-first id (Some name) [] ws sids t h k e = absurd h
found-first id (Some name) (i ∷ is) ws sids t h k e = ap (sids_found id) (found-tagged id name (i ∷ is) ws sids t h k e)

-- ---- words and pieces are split again

map-trimmed : (ws : List (List ℕ)) → AllPlain ws → map trimmed ws ≡ ws
map-trimmed [] h = refl
map-trimmed (w ∷ ws) h = rw (trimmed-same w (plain-no_white w h.0), map-trimmed ws h.1) refl

all-lack : (ws : List (List ℕ)) → AllPlain ws → AllLack 58 ws
all-lack [] h = tt
all-lack (w ∷ ws) h = (plain-lacks_colon w h.0, all-lack ws h.1)

words-again : (w : List ℕ) (ws : List (List ℕ)) → AllPlain (w ∷ ws) → words colon (w ++ each_after 58 ws) ≡ w ∷ ws
unfolding words
words-again w ws h = ap (λ (l : List (List ℕ)). map trimmed l) (split-joined 58 w ws (plain-lacks_colon w h.0) (all-lack ws h.1)) ∙ map-trimmed (w ∷ ws) h

abbrev IsPiece : List ℕ → Type 0
IsPiece p = NoWhite p × Lacks 44 p

abbrev ArePieces : List (List ℕ) → Type 0
ArePieces [] = Unit {0}
ArePieces (p ∷ ps) = IsPiece p × ArePieces ps

abbrev on_line : List ℕ → List ℕ
on_line p = 10 ∷ p

lines-trimmed : (ps : List (List ℕ)) → ArePieces ps → map trimmed (map on_line ps) ≡ ps
lines-trimmed [] h = refl
lines-trimmed (p ∷ ps) h = rw (trimmed-newline p h.0.0, lines-trimmed ps h.1) refl

lines-lack : (ps : List (List ℕ)) → ArePieces ps → AllLack 44 (map on_line ps)
lines-lack [] h = tt
lines-lack (p ∷ ps) h = ((refl, h.0.1), lines-lack ps h.1)

pieces-again : (p : List ℕ) (ps : List (List ℕ)) → ArePieces (p ∷ ps) → words comma (p ++ each_after 44 (map on_line ps)) ≡ p ∷ ps
unfolding words
pieces-again p ps h =
    ap (λ (l : List (List ℕ)). map trimmed l) (split-joined 44 p (map on_line ps) h.0.1 (lines-lack ps h.1))
    ∙ ap (λ (x : List ℕ). x ∷ map trimmed (map on_line ps)) (trimmed-same p h.0.0)
    ∙ ap (λ (x : List (List ℕ)). p ∷ x) (lines-trimmed ps h.1)

joined-piece : (ws : List (List ℕ)) → AllPlain ws → IsPiece (each_after 58 ws)
joined-piece [] h = (tt, tt)
joined-piece (w ∷ ws) h =
    let more = joined-piece ws h.1 in
    ((refl, no_white-append w (each_after 58 ws) (plain-no_white w h.0) more.0), (refl, lacks-append 44 w (each_after 58 ws) (plain-lacks_comma w h.0) more.1))

-- ---- a piece: a uuid, and words

abbrev piece : Sid → List (List ℕ) → List ℕ
piece s ws = hyphenated_text lower (uuid s) ++ each_after 58 (sid_words s ++ ws)

piece-is : (s : Sid) (ws : List (List ℕ)) → SidInSet s → AllPlain ws → IsPiece (piece s ws)
piece-is s ws h k =
    let id = hyphenated_text lower (uuid s) in
    let all = all_plain-append (sid_words s) ws (parts-plain (tag s) (intervals s) h.proper.tag (all-proper (intervals s) h.proper.intervals)) k in
    let more = joined-piece (sid_words s ++ ws) all in (
      no_white-append id (each_after 58 (sid_words s ++ ws)) (plain-no_white id (uuid-plain (uuid s))) more.0,
      lacks-append 44 id (each_after 58 (sid_words s ++ ws)) (plain-lacks_comma id (uuid-plain (uuid s))) more.1,
    )

first-word : (name : Option (List ℕ)) (is : List GnoInterval) (ws : List (List ℕ)) → ProperIntervals is → (w : List ℕ) × (vs : List (List ℕ)) × (words_of name is ++ ws ≡ w ∷ vs)
first-word None [] ws h = absurd h
first-word None (i ∷ is) ws h = (body i, map body is ++ ws, refl)
first-word (Some t) [] ws h = absurd h
first-word (Some t) (i ∷ is) ws h = (t, map body (i ∷ is) ++ ws, refl)

piece-reads : (s : Sid) (ws : List (List ℕ)) (sids : List Sid) → SidInSet s → AllPlain ws → found_in (uuid s) ws ≡ Ok ([], sids) → read_piece (piece s ws) ≡ Ok (s ∷ sids)
piece-reads s ws sids h k e =
    let id = hyphenated_text lower (uuid s) in
    let f = first-word (tag s) (intervals s) ws h.proper.intervals in
    let text = f.0 ++ each_after 58 f.1 in
    let lacks : Lacks 58 id = plain-lacks_colon id (uuid-plain (uuid s)) in
    let all : AllPlain (sid_words s ++ ws) = all_plain-append (sid_words s) ws (parts-plain (tag s) (intervals s) h.proper.tag (all-proper (intervals s) h.proper.intervals)) k in
    let cut : words colon text ≡ sid_words s ++ ws = words-again f.0 f.1 (subst AllPlain f.2 all) ∙ sym f.2 in
    ap (λ (l : List (List ℕ)). read_piece (id ++ each_after 58 l)) f.2
    ∙ uuid-read (id ++ 58 ∷ text) id id text (uuid s) (has-cut 58 id text lacks) (sym (before-cut 58 id text lacks)) (sym (trimmed-same id (plain-no_white id (uuid-plain (uuid s)))))
    (parses_hyphenated lower (uuid s) (inl refl) h.proper.uuid h.proper.bytes) (sym (after-cut 58 id text lacks))
    ∙ ap (λ (l : List (List ℕ)). sids_found (uuid s) (found_in (uuid s) l)) cut
    ∙ found-first (uuid s) (tag s) (intervals s) ws sids h.proper.tag h.proper.intervals h.ends e

-- ---- the sids after one

-- the remaining words, and the further pieces
abbrev Cut : Type 0
Cut = List (List ℕ) × List (List ℕ)

abbrev rest_by : Bool → Sid → Cut → Cut
rest_by true s r = (sid_words s ++ r.0, r.1)
rest_by false s r = ([], piece s r.0 ∷ r.1)

abbrev rest_of : Sid → List Sid → Cut
rest_of front [] = ([], [])
rest_of front (s ∷ sids) = rest_by (goes_on front s) s (rest_of s sids)

abbrev rest_text : Cut → List ℕ
rest_text r = each_after 58 r.0 ++ each_after 44 (map on_line r.1)

piece-text : (s : Sid) (ws : List (List ℕ)) (x : List ℕ) → sid_text s ++ (each_after 58 ws ++ x) ≡ piece s ws ++ x
piece-text s ws x =
    let id = hyphenated_text lower (uuid s) in
    let own = each_after 58 (sid_words s) in
    ap (λ (t : List ℕ). (id ++ t) ++ (each_after 58 ws ++ x)) (parts-joined (tag s) (intervals s))
    ∙ sym (append_assoc (id ++ own) (each_after 58 ws) x)
    ∙ ap (λ (t : List ℕ). t ++ x) (append_assoc id own (each_after 58 ws))
    ∙ ap (λ (t : List ℕ). (id ++ t) ++ x) (sym (flat_map-append (λ (w : List ℕ). 58 ∷ w) (sid_words s) ws))

rest-next : (b : Bool) (s : Sid) (r : Cut) → (if b then words_text s else codes ",\n" ++ sid_text s) ++ rest_text r ≡ rest_text (rest_by b s r)
rest-next true s r =
    let x = each_after 44 (map on_line r.1) in
    ap (λ (t : List ℕ). t ++ rest_text r) (parts-joined (tag s) (intervals s))
    ∙ sym (append_assoc (each_after 58 (sid_words s)) (each_after 58 r.0) x)
    ∙ ap (λ (t : List ℕ). t ++ x) (sym (flat_map-append (λ (w : List ℕ). 58 ∷ w) (sid_words s) r.0))
rest-next false s r = ap (λ (t : List ℕ). 44 ∷ 10 ∷ t) (piece-text s r.0 (each_after 44 (map on_line r.1)))

texts-are : (front : Sid) (sids : List Sid) → texts_after (Some front) sids ≡ rest_text (rest_of front sids)
texts-are front [] = refl
texts-are front (s ∷ sids) =
    ap (λ (t : List ℕ). next_text (Some front) s ++ t) (texts-are s sids) ∙ rest-next (goes_on front s) s (rest_of s sids)

record RestReads (id : List ℕ) (sids : List Sid) (r : Cut) : Type 0 where
  pub go : List Sid
  pub more : List Sid
  pub parts : go ++ more ≡ sids
  pub found : found_in id r.0 ≡ Ok ([], go)
  pub read : read_pieces r.1 ≡ Ok more
  pub plain : AllPlain r.0
  pub pieces : ArePieces r.1

rest-step : (b : Bool) (front s : Sid) (sids : List Sid) (r : Cut) → goes_on front s ≡ b → SidInSet s → RestReads (uuid s) sids r → RestReads (uuid front) (s ∷ sids) (rest_by b s r)
rest-step true front s sids r g h q =
    let p = and_parts (is_some (tag s)) (pointwise nat_eq (uuid front) (uuid s)) g in
    let same : uuid s ≡ uuid front = sym ((bytes-same (uuid front) (uuid s)).0 p.1) in
    let found : found_in (uuid s) (sid_words s ++ r.0) ≡ Ok ([], s ∷ q.go) =
    found-next (uuid s) (tag s) (intervals s) r.0 q.go p.0 h.proper.tag h.proper.intervals h.ends q.found in
    record {
      go = s ∷ q.go;
      more = q.more;
      parts = ap (λ (l : List Sid). s ∷ l) q.parts;
      found = subst (λ (id : List ℕ). found_in id (sid_words s ++ r.0) ≡ Ok ([], s ∷ q.go)) same found;
      read = q.read;
      plain = all_plain-append (sid_words s) r.0 (parts-plain (tag s) (intervals s) h.proper.tag (all-proper (intervals s) h.proper.intervals)) q.plain;
      pieces = q.pieces;
    }
rest-step false front s sids r g h q =
    record {
      go = [];
      more = s ∷ (q.go ++ q.more);
      parts = ap (λ (l : List Sid). s ∷ l) q.parts;
      found = refl;
      read = rw (piece-reads s r.0 q.go h q.plain q.found, q.read) refl;
      plain = tt;
      pieces = (piece-is s r.0 h q.plain, q.pieces);
    }

rest-reads : (front : Sid) (sids : List Sid) → SidsInSet sids → RestReads (uuid front) sids (rest_of front sids)
rest-reads front [] h = record { go = []; more = []; parts = refl; found = refl; read = refl; plain = tt; pieces = tt }
rest-reads front (s ∷ sids) h = rest-step (goes_on front s) front s sids (rest_of s sids) refl h.0 (rest-reads s sids h.1)

-- ---- the whole text

whole : (s : Sid) (sids : List Sid) → SidsInSet (s ∷ sids) → read_sids (set_text (s ∷ sids)) ≡ Ok (s ∷ sids)
unfolding read_sids set_text
whole s sids h =
    let r = rest_of s sids in
    let q = rest-reads s sids h.1 in
    let text : sid_text s ++ texts_after (Some s) sids ≡ piece s r.0 ++ each_after 44 (map on_line r.1) =
    ap (λ (t : List ℕ). sid_text s ++ t) (texts-are s sids) ∙ piece-text s r.0 (each_after 44 (map on_line r.1)) in
    ap (λ (t : List ℕ). read_pieces (words comma t)) text
    ∙ ap read_pieces (pieces-again (piece s r.0) r.1 (piece-is s r.0 h.0 q.plain, q.pieces))
    ∙ ap (λ (x : Result (List Sid) InvalidSid). joined x (read_pieces r.1)) (piece-reads s r.0 q.go h.0 q.plain q.found)
    ∙ ap (λ (x : Result (List Sid) InvalidSid). joined (Ok (s ∷ q.go)) x) q.read
    ∙ ap (λ (l : List Sid). Ok (s ∷ l)) q.parts

none : read_sids (set_text []) ≡ Ok []
unfolding read_sids set_text words trimmed read_piece
none = refl

pub set-text-again : (sids : List Sid) → SidsInSet sids → read_sids (set_text sids) ≡ Ok sids
set-text-again [] h = none
set-text-again (s ∷ sids) h = whole s sids h
