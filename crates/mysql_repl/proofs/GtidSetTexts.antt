-- Lemmas for the reader of a GTID set's text.
use Rattle.std.proofs.Common.{◌≡◌, ℕ, ◌+◌, ◌<◌, List, [], ◌∷◌, ◌++◌, length, map, Option, Some, None, Result, Ok, Err, true, false, refl, sym, ap, ◌∙◌, arith, append_assoc}
use Rattle.std.specs.List.{slice_split, position_or_len}
use Rattle.std.specs.Str.{IsTrimAsciiStart, IsTrimAsciiEnd}
use Rattle.std.proofs.lemmas.Bool.{ltb-true}
use Rattle.std.proofs.lemmas.List.{append-nil, length-drop}
use Rattle.std.proofs.lemmas.List.Splits.{slice_split_first}
use Rattle.std.proofs.lemmas.Str.Ascii.{trim_ascii_start_is, trim_ascii_end_is}
use Rattle.uuid.specs.Text.{parsed}
use Rattle.mysql_repl.specs.declared.binlog_dump_gtid.ComBinlogDumpGtid.{ComBinlogDumpGtid}
use Rattle.mysql_repl.specs.declared.sid.Sid.{Sid}
use Rattle.mysql_repl.specs.declared.sid_text.InvalidSid.{InvalidSid}
use Rattle.mysql_repl.specs.declared.sid_text.InvalidSid.TheVariants as fault
use Rattle.mysql_repl.specs.BinlogDumpGtid.{with_sids}
use Rattle.mysql_repl.specs.Sid.{new_sid, with_interval as sid_with_interval, with_tag as sid_with_tag, intervals}
use Rattle.mysql_repl.specs.SidText.{Answered, colon, comma, is, has, before, after, parts_of}
use Rattle.mysql_repl.specs.SidTextParts.{left_parts}
use Rattle.mysql_repl.specs.GtidSetText.{Found, trimmed, trimmed_start, words, server_interval, server_tag, is_interval, with_interval, with_tag, found_in, kept, sids_found, read_piece, joined, read_pieces, with_read_sids}
use Rattle.mysql_repl.specs.GtidSetTextParts.{left_words, with_front, finished}
use Rattle.mysql_repl.proofs.SidTexts.{one-part}

-- ---- words

pub trimmed-is : (s t r : List ℕ) → IsTrimAsciiStart s t → IsTrimAsciiEnd t r → r ≡ trimmed s
unfolding trimmed
trimmed-is s t r front back =
    let a : t ≡ trimmed_start s = trim_ascii_start_is s t front in
    rw (← a) (trim_ascii_end_is t r back)

pub ruleset trims = (trimmed-is)

pub word-first : (text part word : List ℕ) (left : Option (List ℕ)) → parts_of text ≡ part ∷ left_parts left → word ≡ trimmed part → words colon text ≡ word ∷ left_words colon left
unfolding words parts_of
word-first text part word None e w = ap (λ (ps : List (List ℕ)). map trimmed ps) e ∙ ap (λ (x : List ℕ). x ∷ []) (sym w)
word-first text part word (Some t) e w = ap (λ (ps : List (List ℕ)). map trimmed ps) e ∙ ap (λ (x : List ℕ). x ∷ map trimmed (slice_split (is colon) t)) (sym w)

pub piece-last : (text word : List ℕ) → has comma text ≡ false → word ≡ trimmed text → words comma text ≡ word ∷ []
unfolding words
piece-last text word h w = ap (λ (ps : List (List ℕ)). map trimmed ps) (one-part (is comma) text h) ∙ ap (λ (x : List ℕ). x ∷ []) (sym w)

pub piece-next : (text piece left word : List ℕ) → has comma text ≡ true → piece ≡ before comma text → left ≡ after comma text → word ≡ trimmed piece
    → words comma text ≡ word ∷ words comma left
unfolding words
piece-next text piece left word h p l w =
    rw (w, p, l) (ap (λ (ps : List (List ℕ)). map trimmed ps) (slice_split_first (is comma) text 0 (ltb-true _ _ h)))

pub piece-shorter : (text left : List ℕ) → has comma text ≡ true → left ≡ after comma text → length left + 1 < length text + 1
piece-shorter text left h e =
    let lt : position_or_len (is comma) text < length text = ltb-true _ _ h in
    rw e (omega (arith, lt, length-drop (position_or_len (is comma) text + 1) text))

pub ruleset first_words = (word-first, piece-last, piece-next, piece-shorter)

-- ---- refusals

pub answered-through : {A B : Type 0} (e : InvalidSid) (x : Result A InvalidSid) (y : Result B InvalidSid) → (x ≡ Err e → y ≡ Err e)
    → Answered {A = A} (Err e) x → Answered {A = B} (Err e) y
answered-through fault.Memory x y f h = tt
answered-through e x y f h = f h

pub answered-known : {A : Type 0} (e : InvalidSid) (x : Result A InvalidSid) → x ≡ Err e → Answered {A = A} (Err e) x
answered-known fault.Memory x h = tt
answered-known e x h = h

-- ---- accepted words

abbrev Reading : Type 0
Reading = Result Found InvalidSid

interval-found : (front : List Sid) (sid : Sid) (i : _) (r : Reading) → finished front (sid_with_interval i sid) r ≡ finished front sid (with_interval (Ok i) r)
interval-found front sid i (Err e) = refl
interval-found front sid i (Ok found) =
    ap (λ (is : List _). Ok (front ++ (kept (record sid { intervals = is }) ++ found.1))) (append_assoc (intervals sid) (i ∷ []) found.0)

pub interval-taken : (id : List ℕ) (front : List Sid) (sid : Sid) (word : List ℕ) (more : List (List ℕ)) (i : _) → is_interval word ≡ true → server_interval word ≡ Ok i
    → finished front (sid_with_interval i sid) (found_in id more) ≡ finished front sid (found_in id (word ∷ more))
interval-taken id front sid word more i h e = rw (h, e) (interval-found front sid i (found_in id more))

pub interval-refused : (id : List ℕ) (word : List ℕ) (more : List (List ℕ)) (e : InvalidSid) → is_interval word ≡ true → server_interval word ≡ Err e → found_in id (word ∷ more) ≡ Err e
interval-refused id word more e h is = rw (h, is) refl

tag-found : (id : List ℕ) (front : List Sid) (sid : Sid) (tag : List ℕ) (r : Reading)
    → finished (front ++ kept sid) (sid_with_tag tag (new_sid id)) r ≡ finished front sid (with_tag id (Ok tag) r)
tag-found id front sid tag (Err e) = refl
tag-found id front sid tag (Ok found) =
    let named : Sid = record { uuid = id; tag = Some tag; intervals = found.0 } in
    ap Ok (append_assoc front (kept sid) (named ∷ found.1))
    ∙ ap (λ (is : List _). Ok (front ++ (kept (record sid { intervals = is }) ++ named ∷ found.1))) (sym (append-nil (intervals sid)))

pub tag-taken : (id : List ℕ) (front sids : List Sid) (sid : Sid) (word : List ℕ) (more : List (List ℕ)) (tag : List ℕ) → is_interval word ≡ false → server_tag word more ≡ Ok tag
    → sids ≡ front ++ kept sid → finished sids (sid_with_tag tag (new_sid id)) (found_in id more) ≡ finished front sid (found_in id (word ∷ more))
tag-taken id front sids sid word more tag h e is = rw (is, h, e) (tag-found id front sid tag (found_in id more))

pub tag-refused : (id : List ℕ) (word : List ℕ) (more : List (List ℕ)) (e : InvalidSid) → is_interval word ≡ false → server_tag word more ≡ Err e → found_in id (word ∷ more) ≡ Err e
tag-refused id word more e h is = rw (h, is) refl

pub ruleset takes = (interval-taken, tag-taken, interval-refused, tag-refused, answered-known, answered-through)

-- ---- the words after a uuid

pub words-begin : (front : List Sid) (id : List ℕ) (r : Reading) → finished front (new_sid id) r ≡ with_front front (sids_found id r)
words-begin front id (Err e) = refl
words-begin front id (Ok found) = refl

pub words-end : (id : List ℕ) (front : List Sid) (sid : Sid) (total : Result (List Sid) InvalidSid) → finished front sid (found_in id []) ≡ total → total ≡ Ok (front ++ kept sid)
words-end id front sid total h =
    sym h ∙ ap (λ (is : List _). Ok (front ++ (kept (record sid { intervals = is }) ++ []))) (append-nil (intervals sid)) ∙ ap (λ (l : List Sid). Ok (front ++ l)) (append-nil (kept sid))

pub words-refused : (front : List Sid) (sid : Sid) (r : Reading) (e : InvalidSid) (total : Result (List Sid) InvalidSid) → finished front sid r ≡ total → r ≡ Err e → total ≡ Err e
words-refused front sid r e total h is = sym h ∙ ap (finished front sid) is

pub ruleset word_loops = (words-begin, words-end, words-refused)

-- ---- pieces

front-joined : (front sids : List Sid) (more : Result (List Sid) InvalidSid) → with_front (front ++ sids) more ≡ with_front front (joined (Ok sids) more)
front-joined front sids (Err e) = refl
front-joined front sids (Ok list) = ap Ok (append_assoc front sids list)

with-front-from : (front sids : List Sid) (r : Result (List Sid) InvalidSid) → with_front front r ≡ Ok sids → (more : List Sid) × (r ≡ Ok more) × (sids ≡ front ++ more)
with-front-from front sids (Err e) h = absurd cc
with-front-from front sids (Ok more) h = (more, refl, cc)

pub piece-read : (front sids : List Sid) (piece : List ℕ) (pieces : List (List ℕ)) (total : Result (List Sid) InvalidSid) → with_front front (read_pieces (piece ∷ pieces)) ≡ total
    → with_front front (read_piece piece) ≡ Ok sids → with_front sids (read_pieces pieces) ≡ total
piece-read front sids piece pieces total so_far h =
    let f = with-front-from front sids (read_piece piece) h in
    ap (λ (l : List Sid). with_front l (read_pieces pieces)) f.2
    ∙ front-joined front f.0 (read_pieces pieces)
    ∙ ap (λ (r : Result (List Sid) InvalidSid). with_front front (joined r (read_pieces pieces))) (sym f.1)
    ∙ so_far

front-refused : (front : List Sid) (r more : Result (List Sid) InvalidSid) (e : InvalidSid) → with_front front r ≡ Err e → with_front front (joined r more) ≡ Err e
front-refused front (Err e) more e' h = h
front-refused front (Ok sids) more e h = absurd cc

pub piece-refused : (front : List Sid) (piece : List ℕ) (pieces : List (List ℕ)) (e : InvalidSid) (total : Result (List Sid) InvalidSid) → with_front front (read_pieces (piece ∷ pieces)) ≡ total
    → with_front front (read_piece piece) ≡ Err e → total ≡ Err e
piece-refused front piece pieces e total so_far h = sym so_far ∙ front-refused front (read_piece piece) (read_pieces pieces) e h

pub pieces-end : (front : List Sid) (total : Result (List Sid) InvalidSid) → with_front front (read_pieces []) ≡ total → total ≡ Ok front
pieces-end front total so_far = sym so_far ∙ ap Ok (append-nil front)

-- ---- a uuid and its words

pub uuid-refused : (piece front word : List ℕ) → has colon piece ≡ true → front ≡ before colon piece → word ≡ trimmed front → None ≡ parsed word → read_piece piece ≡ Err fault.Uuid
unfolding read_piece
uuid-refused [] front word h f w p = absurd cc
uuid-refused (c ∷ cs) front word h f w p = rw (h, ← f, ← w, ← p) refl

pub uuid-read : (piece front word text id : List ℕ) → has colon piece ≡ true → front ≡ before colon piece → word ≡ trimmed front → Some id ≡ parsed word → text ≡ after colon piece
    → read_piece piece ≡ sids_found id (found_in id (words colon text))
unfolding read_piece
uuid-read [] front word text id h f w p t = absurd cc
uuid-read (c ∷ cs) front word text id h f w p t = rw (h, ← f, ← w, ← p, ← t) refl

pub ruleset piece_loops = (piece-read, piece-refused, pieces-end)

-- ---- dumps

pub dump-refused : (p : ComBinlogDumpGtid) (e : InvalidSid) (r : Result (List Sid) InvalidSid) → Answered {A = List Sid} (Err e) r → Answered {A = ComBinlogDumpGtid} (Err e) (with_read_sids r p)
dump-refused p e r h = answered-through e r (with_read_sids r p) (λ (is : r ≡ Err e). ap (λ (x : Result (List Sid) InvalidSid). with_read_sids x p) is) h

pub dump-read : (p : ComBinlogDumpGtid) (sids : List Sid) (r : Result (List Sid) InvalidSid) → r ≡ Ok sids → with_read_sids r p ≡ Ok (with_sids sids p)
dump-read p sids r is = ap (λ (x : Result (List Sid) InvalidSid). with_read_sids x p) is

pub ruleset dumps = (dump-refused, dump-read)
