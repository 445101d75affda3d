-- Texts split at a separator.
use Rattle.std.proofs.Common.{◌≡◌, ◌≢◌, ℕ, suc, ◌+◌, ◌<◌, List, [], ◌∷◌, ◌++◌, length, take, drop, get_or, true, false, refl, sym, ap, ◌∙◌, arith, append_assoc}
use Rattle.std.specs.List.{position_or_len}
use Rattle.std.proofs.lemmas.Bool.{lt-ltb, le-ltb, ltb-true, eq-eqb, ne_eqb, eqb-true, eqb-false}
use Rattle.std.proofs.lemmas.List.{length-append, length-take, get_or-take, take_at, drop_at}
use Rattle.std.proofs.lemmas.List.Sums.{split_at_first, passes_at_first, fails_before_first}
use Rattle.std.proofs.lemmas.Str.{IsUtf8-take, IsUtf8-drop, IsCharBoundary-before_ascii, IsCharBoundary-after_ascii}
use Rattle.std.specs.Str.{IsUtf8}
use Rattle.mysql_repl.specs.SidText.{is, has, before, after}
use Rattle.mysql_repl.specs.SidGrammar.{NoColon}

-- ---- texts without a separator

abbrev pub Lacks : ℕ → List ℕ → Type 0
Lacks c [] = Unit {0}
Lacks c (x ∷ xs) = (is c x ≡ false) × Lacks c xs

pub lacks-append : (c : ℕ) (xs ys : List ℕ) → Lacks c xs → Lacks c ys → Lacks c (xs ++ ys)
lacks-append c [] ys h k = k
lacks-append c (x ∷ xs) ys h k = (h.0, lacks-append c xs ys h.1 k)

pub lacks-from : (c : ℕ) (xs : List ℕ) → ((k : ℕ) → k < length xs → is c (get_or xs k 0) ≡ false) → Lacks c xs
lacks-from c [] h = tt
lacks-from c (x ∷ xs) h = (h 0 (omega arith), lacks-from c xs (λ k lt. h (suc k) (omega (arith, lt))))

no-place : (c : ℕ) (xs : List ℕ) → Lacks c xs → position_or_len (is c) xs ≡ length xs
no-place c [] h = refl
no-place c (x ∷ xs) h = rw h.0 (omega (arith, no-place c xs h.1))

pub no-cut : (c : ℕ) (xs : List ℕ) → Lacks c xs → has c xs ≡ false
no-cut c xs h = le-ltb _ _ (omega (arith, no-place c xs h))

place : (c : ℕ) (xs ys : List ℕ) → Lacks c xs → position_or_len (is c) (xs ++ c ∷ ys) ≡ length xs
place c [] ys h = rw (eq-eqb c c refl) refl
place c (x ∷ xs) ys h = rw h.0 (omega (arith, place c xs ys h.1))

pub has-cut : (c : ℕ) (xs ys : List ℕ) → Lacks c xs → has c (xs ++ c ∷ ys) ≡ true
has-cut c xs ys h = lt-ltb _ _ (omega (arith, place c xs ys h, length-append xs (c ∷ ys)))

pub before-cut : (c : ℕ) (xs ys : List ℕ) → Lacks c xs → before c (xs ++ c ∷ ys) ≡ xs
before-cut c xs ys h = ap (λ (n : ℕ). take n (xs ++ c ∷ ys)) (place c xs ys h) ∙ take_at xs (c ∷ ys) (length xs) refl

pub after-cut : (c : ℕ) (xs ys : List ℕ) → Lacks c xs → after c (xs ++ c ∷ ys) ≡ ys
after-cut c xs ys h =
    let long : length (xs ++ c ∷ []) ≡ length xs + 1 = omega (arith, length-append xs (c ∷ [])) in
    let split : (xs ++ c ∷ []) ++ ys ≡ xs ++ c ∷ ys = append_assoc xs (c ∷ []) ys in
    ap (λ (n : ℕ). drop (n + 1) (xs ++ c ∷ ys)) (place c xs ys h)
    ∙ ap (λ (t : List ℕ). drop (length xs + 1) t) (sym split)
    ∙ drop_at (xs ++ c ∷ []) ys (length xs + 1) long

-- ---- the parts of a split text

-- the place of the first separator
found : (c : ℕ) (text : List ℕ) → has c text ≡ true → get_or text (position_or_len (is c) text) 0 ≡ c
found c text h = eqb-true _ _ (passes_at_first (is c) text 0 (ltb-true _ _ h))

pub cut-parts : (c : ℕ) (text : List ℕ) → has c text ≡ true → text ≡ before c text ++ c ∷ after c text
cut-parts c text h =
    split_at_first (is c) text 0 (ltb-true _ _ h) ∙ ap (λ (x : ℕ). before c text ++ x ∷ after c text) (found c text h)

pub utf8-before : (c : ℕ) (text : List ℕ) → c < 128 → has c text ≡ true → IsUtf8 text → IsUtf8 (before c text)
utf8-before c text low h utf8 =
    let place = position_or_len (is c) text in
    IsUtf8-take text place utf8 (IsCharBoundary-before_ascii text place (ltb-true _ _ h) (omega (arith, low, found c text h)))

pub utf8-after : (c : ℕ) (text : List ℕ) → c < 128 → has c text ≡ true → IsUtf8 text → IsUtf8 (after c text)
utf8-after c text low h utf8 =
    let place = position_or_len (is c) text in
    IsUtf8-drop text (place + 1) utf8 (IsCharBoundary-after_ascii text place utf8 (ltb-true _ _ h) (omega (arith, low, found c text h)))

-- ---- no colon, as in the grammar

pub no_colon-lacks : (text : List ℕ) → NoColon text → Lacks 58 text
no_colon-lacks [] h = tt
no_colon-lacks (c ∷ text) h = (ne_eqb c 58 h.0, no_colon-lacks text h.1)

pub no_colon-from : (text : List ℕ) → ((k : ℕ) → k < length text → get_or text k 0 ≢ 58) → NoColon text
no_colon-from [] h = tt
no_colon-from (c ∷ text) h = (h 0 (omega arith), no_colon-from text (λ k lt. h (suc k) (omega (arith, lt))))

pub no_colon-before : (text : List ℕ) → NoColon (before 58 text)
no_colon-before text =
    let place = position_or_len (is 58) text in
    no_colon-from (before 58 text) (λ k lt.
    let first : k < place = omega (arith, lt, length-take place text) in
    let fails : is 58 (get_or text k 0) ≡ false = fails_before_first (is 58) text k 0 first in
    rw (get_or-take place text k 0 first) (eqb-false (get_or text k 0) 58 fails))
