-- Words of lowercase letters, digits, underscores and hyphens contain no separator and no blank.
use Rattle.std.proofs.Common.{◌≡◌, ℕ, zero, suc, ◌-◌, ◌<◌, ◌≤◌, ◌==◌, List, [], ◌∷◌, ◌++◌, length, get_or, map, Bool, true, false, ◌&&◌, ◌||◌, nat_le, refl, ap, ◌∙◌, if◌then◌else◌, arith}
use Rattle.std.specs.Char.{is_ascii_whitespace, to_ascii_lowercase}
use Rattle.std.specs.List.{flat_map, list_all, slice_split, prefix_len, suffix_len}
use Rattle.std.specs.Str.Parse.{AllDigits}
use Rattle.std.proofs.lemmas.Bool.{ltb-true, and_parts}
use Rattle.std.proofs.lemmas.Bool.Decides.{nat_tests}
use Rattle.std.proofs.lemmas.List.{append-nil, take_all}
use Rattle.std.proofs.lemmas.List.Splits.{slice_split_first}
use Rattle.std.proofs.lemmas.List.Sums.{suffix_len_is}
use Rattle.std.proofs.lemmas.Str.Parse.{digit_from_value}
use Rattle.uuid.proofs.TextLemmas.{by_index_length, by_index_at, nibble_small}
use Rattle.uuid.specs.Text.{hyphenated_text, lower, hex_digit, nibble, digit_place, is_hyphen_place}
use Rattle.mysql_repl.specs.SidText.{is, after}
use Rattle.mysql_repl.specs.GtidSetText.{trimmed, trimmed_start, trimmed_end}
use Rattle.mysql_repl.specs.Tag.{is_later, IsTag}
use Rattle.mysql_repl.proofs.SidCuts.{Lacks, no-cut, has-cut, before-cut, after-cut}
use Rattle.mysql_repl.proofs.SidTexts.{one-part}
use Rattle.mysql_repl.proofs.Tags.{tag-parts, first-later, nothing}

-- ---- characters

abbrev pub is_plain : ℕ → Bool
is_plain c = ((nat_le 48 c && nat_le c 57) || (nat_le 97 c && nat_le c 122)) || (c == 95 || c == 45)

abbrev pub Plain : List ℕ → Type 0
Plain [] = Unit {0}
Plain (c ∷ cs) = (is_plain c ≡ true) × Plain cs

abbrev pub NoWhite : List ℕ → Type 0
NoWhite [] = Unit {0}
NoWhite (c ∷ cs) = (is_ascii_whitespace c ≡ false) × NoWhite cs

plain-white : (c : ℕ) → is_plain c ≡ true → is_ascii_whitespace c ≡ false
plain-white c h = grind (arith, nat_tests)

plain-colon : (c : ℕ) → is_plain c ≡ true → is 58 c ≡ false
plain-colon c h = grind (arith, nat_tests)

plain-comma : (c : ℕ) → is_plain c ≡ true → is 44 c ≡ false
plain-comma c h = grind (arith, nat_tests)

pub plain-append : (xs ys : List ℕ) → Plain xs → Plain ys → Plain (xs ++ ys)
plain-append [] ys h k = k
plain-append (c ∷ xs) ys h k = (h.0, plain-append xs ys h.1 k)

pub plain-no_white : (xs : List ℕ) → Plain xs → NoWhite xs
plain-no_white [] h = tt
plain-no_white (c ∷ xs) h = (plain-white c h.0, plain-no_white xs h.1)

pub plain-lacks_colon : (xs : List ℕ) → Plain xs → Lacks 58 xs
plain-lacks_colon [] h = tt
plain-lacks_colon (c ∷ xs) h = (plain-colon c h.0, plain-lacks_colon xs h.1)

pub plain-lacks_comma : (xs : List ℕ) → Plain xs → Lacks 44 xs
plain-lacks_comma [] h = tt
plain-lacks_comma (c ∷ xs) h = (plain-comma c h.0, plain-lacks_comma xs h.1)

pub no_white-append : (xs ys : List ℕ) → NoWhite xs → NoWhite ys → NoWhite (xs ++ ys)
no_white-append [] ys h k = k
no_white-append (c ∷ xs) ys h k = (h.0, no_white-append xs ys h.1 k)

-- ---- plain words

digit-plain : (d : ℕ) → 48 ≤ d → d ≤ 57 → is_plain d ≡ true
digit-plain d low high = grind (arith, nat_tests)

pub digits-plain : (ds : List ℕ) → AllDigits 10 ds → Plain ds
digits-plain [] h = tt
digits-plain (d ∷ ds) h = let r = digit_from_value d h.0 in (digit-plain d r.0 r.1, digits-plain ds h.1)

later-plain : (c : ℕ) → is_later c ≡ true → is_plain c ≡ true
later-plain c h = grind (arith, nat_tests)

laters-plain : (cs : List ℕ) → list_all is_later cs ≡ true → Plain cs
laters-plain [] h = tt
laters-plain (c ∷ cs) h = let p = and_parts (is_later c) (list_all is_later cs) h in (later-plain c p.0, laters-plain cs p.1)

pub tag-plain : (tag : List ℕ) → IsTag tag → Plain tag
tag-plain [] h = absurd (nothing h)
tag-plain (c ∷ cs) h = let p = tag-parts c cs h in (later-plain c (first-later c p.first), laters-plain cs p.later)

plain-from : (xs : List ℕ) → ((k : ℕ) → k < length xs → is_plain (get_or xs k 0) ≡ true) → Plain xs
plain-from [] h = tt
plain-from (c ∷ xs) h = (h 0 (omega arith), plain-from xs (λ k lt. h (suc k) (omega (arith, lt))))

uuid-char : (b : Bool) (d : ℕ) → d < 16 → is_plain (if b then 45 else hex_digit lower d) ≡ true
uuid-char true d lt = refl
uuid-char false d lt = grind (arith, nat_tests)

pub uuid-plain : (id : List ℕ) → Plain (hyphenated_text lower id)
uuid-plain id = plain-from (hyphenated_text lower id) (λ k lt.
    let short : k < 36 = omega (arith, lt, by_index_length 36 (λ j. if is_hyphen_place j then 45 else hex_digit lower (nibble id (digit_place j)))) in
    rw (by_index_at 36 (λ j. if is_hyphen_place j then 45 else hex_digit lower (nibble id (digit_place j))) k 0 short) (uuid-char (is_hyphen_place k) (nibble id (digit_place k)) (nibble_small id (digit_place k))))

-- ---- trimming

no-prefix : (xs : List ℕ) → NoWhite xs → prefix_len is_ascii_whitespace xs ≡ 0
no-prefix [] h = refl
no-prefix (c ∷ xs) h = rw h.0 refl

white-at : (xs : List ℕ) (k : ℕ) → NoWhite xs → k < length xs → is_ascii_whitespace (get_or xs k 0) ≡ false
white-at [] k h lt = absurd (omega (arith, lt))
white-at (c ∷ xs) zero h lt = h.0
white-at (c ∷ xs) (suc k) h lt = white-at xs k h.1 (omega (arith, lt))

no-suffix : (xs : List ℕ) → NoWhite xs → suffix_len is_ascii_whitespace xs ≡ 0
no-suffix xs h =
    suffix_len_is is_ascii_whitespace xs (length xs) 0 (omega arith) (λ k le lt. absurd (omega (arith, le, lt))) (λ some. white-at xs (length xs - 1) h (omega (arith, some)))
    ∙ omega arith

end-stays : (xs : List ℕ) → NoWhite xs → trimmed_end xs ≡ xs
end-stays xs h = rw (no-suffix xs h) (take_all (length xs - 0) xs (omega arith))

start-stays : (xs : List ℕ) → NoWhite xs → trimmed_start xs ≡ xs
start-stays xs h = rw (no-prefix xs h) refl

pub trimmed-same : (xs : List ℕ) → NoWhite xs → trimmed xs ≡ xs
unfolding trimmed
trimmed-same xs h = ap trimmed_end (start-stays xs h) ∙ end-stays xs h

-- a preceding newline is trimmed
pub trimmed-newline : (xs : List ℕ) → NoWhite xs → trimmed (10 ∷ xs) ≡ xs
unfolding trimmed
trimmed-newline xs h =
    let start : trimmed_start (10 ∷ xs) ≡ xs = rw (no-prefix xs h) refl in
    ap trimmed_end start ∙ end-stays xs h

-- ---- words with separators between them

abbrev pub each_after : ℕ → List (List ℕ) → List ℕ
each_after c ws = flat_map (λ w. c ∷ w) ws

abbrev pub AllLack : ℕ → List (List ℕ) → Type 0
AllLack c [] = Unit {0}
AllLack c (w ∷ ws) = Lacks c w × AllLack c ws

pub split-joined : (c : ℕ) (w : List ℕ) (ws : List (List ℕ)) → Lacks c w → AllLack c ws → slice_split (is c) (w ++ each_after c ws) ≡ w ∷ ws
split-joined c w [] h k = rw (append-nil w) (one-part (is c) w (no-cut c w h))
split-joined c w (v ∷ vs) h k =
    let left = v ++ each_after c vs in
    let text = w ++ c ∷ left in
    slice_split_first (is c) text 0 (ltb-true _ _ (has-cut c w left h))
    ∙ ap (λ (x : List ℕ). x ∷ slice_split (is c) (after c text)) (before-cut c w left h)
    ∙ ap (λ (x : List ℕ). w ∷ slice_split (is c) x) (after-cut c w left h)
    ∙ ap (λ (x : List (List ℕ)). w ∷ x) (split-joined c v vs k.0 k.1)

-- ---- lower case

lower-same : (c : ℕ) → is_plain c ≡ true → to_ascii_lowercase c ≡ c
lower-same c h = grind (arith, nat_tests)

pub lowers-same : (xs : List ℕ) → Plain xs → map to_ascii_lowercase xs ≡ xs
lowers-same [] h = refl
lowers-same (c ∷ xs) h = rw (lower-same c h.0, lowers-same xs h.1) refl
