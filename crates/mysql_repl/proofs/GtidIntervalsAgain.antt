-- An interval is read back from its text.
use Rattle.std.proofs.Common.{◌≡◌, inl, ℕ, ◌+◌, ◌-◌, ◌<◌, ◌≤◌, ◌^◌, ◌==◌, List, [], ◌∷◌, ◌++◌, Option, Some, Result, Ok, Err, Bool, true, false, if◌then◌else◌, refl, sym, ap, ◌∙◌, arith}
use Rattle.std.specs.Fmt.{decimal}
use Rattle.std.specs.Str.Parse.{IsNumeral}
use Rattle.std.proofs.lemmas.Bool.{le-ltb, eqb-true, ne_eqb}
use Rattle.std.proofs.lemmas.Bool.Decides.{nat_tests}
use Rattle.std.proofs.lemmas.Fmt.{decimal_is_IsNumeral}
use Rattle.std.proofs.lemmas.List.{append-nil}
use Rattle.std.proofs.lemmas.Str.Parse.{digit_from_value}
use Rattle.mysql_repl.specs.declared.gno_interval.GnoInterval.{GnoInterval}
use Rattle.mysql_repl.specs.declared.sid_text.InvalidSid.{InvalidSid}
use Rattle.mysql_repl.specs.declared.sid_text.InvalidSid.TheVariants as fault
use Rattle.mysql_repl.specs.GnoInterval.{start, end, interval_of}
use Rattle.mysql_repl.specs.GtidSetText.{trimmed, plain_number, server_checked, server_numbers, server_interval, is_interval}
use Rattle.mysql_repl.specs.ProperSid.{ProperInterval}
use Rattle.mysql_repl.specs.SidText.{hyphen, has, before, after, number_of}
use Rattle.mysql_repl.proofs.PlainWords.{Plain, plain-append, plain-no_white, digits-plain, trimmed-same}
use Rattle.mysql_repl.proofs.SidCuts.{Lacks, no-cut, has-cut, before-cut, after-cut}
use Rattle.mysql_repl.proofs.SidSpelled.{number-spelled, checked-ok, lacks_hyphen}
use Rattle.mysql_repl.proofs.SidTextAgain.{body_by, body}

-- ---- numbers

plain-number : (ds : List ℕ) (n : ℕ) → IsNumeral 10 ds → number_of ds ≡ Some n → plain_number ds ≡ Some n
unfolding plain_number
plain-number [] n h e = absurd (omega (arith, h.0))
plain-number (d ∷ ds) n h e = let r = digit_from_value d h.1.0 in rw (ne_eqb d 43 (λ same. omega (arith, same, r.0))) e

decimal-number : (n : ℕ) → n < 2 ^ 64 → plain_number (decimal n) ≡ Some n
decimal-number n lt = let d = decimal_is_IsNumeral n lt in plain-number (decimal n) n d.0 (number-spelled (decimal n) n (inl d) lt)

decimal-lacks : (n : ℕ) → n < 2 ^ 64 → Lacks 45 (decimal n)
decimal-lacks n lt = lacks_hyphen (decimal n) n (inl (decimal_is_IsNumeral n lt))

decimal-plain : (n : ℕ) → n < 2 ^ 64 → Plain (decimal n)
decimal-plain n lt = digits-plain (decimal n) (decimal_is_IsNumeral n lt).0.1

decimal-trimmed : (n : ℕ) → n < 2 ^ 64 → plain_number (trimmed (decimal n)) ≡ Some n
decimal-trimmed n lt = ap plain_number (trimmed-same (decimal n) (plain-no_white (decimal n) (decimal-plain n lt))) ∙ decimal-number n lt

-- ---- intervals

server-ok : (first last : ℕ) → 0 < first → first ≤ last → last + 1 < 2 ^ 63 → server_checked first last ≡ Ok (interval_of first (last + 1))
server-ok first last some le lt = rw (le-ltb 9223372036854775806 last (omega (arith, lt))) (checked-ok first last some le (omega (arith, lt)))

pick-false : {A : Type 0} (h : Bool) (x y : A) → h ≡ false → (if h then x else y) ≡ y
pick-false true x y e = absurd cc
pick-false false x y e = refl

pick-true : {A : Type 0} (h : Bool) (x y : A) → h ≡ true → (if h then x else y) ≡ x
pick-true true x y e = refl
pick-true false x y e = absurd cc

abbrev pair_of : List ℕ → Result GnoInterval InvalidSid
pair_of text =
    if has hyphen (after hyphen text) then Err fault.Parts
    else server_numbers (plain_number (trimmed (before hyphen text))) (plain_number (trimmed (after hyphen text)))

server-one : (text : List ℕ) (n : ℕ) → Lacks 45 text → plain_number text ≡ Some n → server_interval text ≡ server_checked n n
unfolding server_interval
server-one text n lacks e =
    pick-false (has hyphen text) (pair_of text) (server_numbers (plain_number text) (plain_number text)) (no-cut 45 text lacks)
    ∙ ap (λ (x : Option ℕ). server_numbers x x) e

server-two : (front back : List ℕ) (m n : ℕ) → Lacks 45 front → Lacks 45 back → plain_number (trimmed front) ≡ Some m → plain_number (trimmed back) ≡ Some n
    → server_interval (front ++ 45 ∷ back) ≡ server_checked m n
unfolding server_interval
server-two front back m n lacks more first_is last_is =
    let text = front ++ 45 ∷ back in
    let in_front : before hyphen text ≡ front = before-cut 45 front back lacks in
    let at_back : after hyphen text ≡ back = after-cut 45 front back lacks in
    let whole : has hyphen (after hyphen text) ≡ false = ap (λ (t : List ℕ). has hyphen t) at_back ∙ no-cut 45 back more in
    let first : plain_number (trimmed (before hyphen text)) ≡ Some m = ap (λ (t : List ℕ). plain_number (trimmed t)) in_front ∙ first_is in
    let last : plain_number (trimmed (after hyphen text)) ≡ Some n = ap (λ (t : List ℕ). plain_number (trimmed t)) at_back ∙ last_is in
    pick-true (has hyphen text) (pair_of text) (server_numbers (plain_number text) (plain_number text)) (has-cut 45 front back lacks)
    ∙ pick-false (has hyphen (after hyphen text)) (Err fault.Parts) (server_numbers (plain_number (trimmed (before hyphen text))) (plain_number (trimmed (after hyphen text)))) whole
    ∙ ap (λ (x : Option ℕ). server_numbers x (plain_number (trimmed (after hyphen text)))) first
    ∙ ap (λ (y : Option ℕ). server_numbers (Some m) y) last

interval-by : (b : Bool) (i : GnoInterval) → (end i == start i + 1) ≡ b → ProperInterval i → end i < 2 ^ 63 → server_interval (body_by b i) ≡ Ok i
interval-by true i e h lt =
    let next : end i ≡ start i + 1 = eqb-true _ _ e in
    let small : start i < 2 ^ 64 = omega (arith, h.order, lt) in
    server-one (decimal (start i)) (start i) (decimal-lacks (start i) small) (decimal-number (start i) small)
    ∙ server-ok (start i) (start i) h.some (omega arith) (omega (arith, next, lt))
    ∙ ap (λ (n : ℕ). Ok (interval_of (start i) n)) (sym next)
interval-by false i e h lt =
    let small : start i < 2 ^ 64 = omega (arith, h.order, lt) in
    let last : end i - 1 < 2 ^ 64 = omega (arith, lt) in
    let next : end i - 1 + 1 ≡ end i = omega (arith, h.order) in
    server-two (decimal (start i)) (decimal (end i - 1)) (start i) (end i - 1) (decimal-lacks (start i) small) (decimal-lacks (end i - 1) last) (decimal-trimmed (start i) small) (decimal-trimmed (end i - 1) last)
    ∙ server-ok (start i) (end i - 1) h.some (omega (arith, h.order)) (omega (arith, next, lt))
    ∙ ap (λ (n : ℕ). Ok (interval_of (start i) n)) next

pub interval-read : (i : GnoInterval) → ProperInterval i → end i < 2 ^ 63 → server_interval (body i) ≡ Ok i
interval-read i h lt = interval-by (end i == start i + 1) i refl h lt

pub plain-by : (b : Bool) (i : GnoInterval) → ProperInterval i → Plain (body_by b i)
plain-by true i h = decimal-plain (start i) (omega (arith, h.order, h.fits))
plain-by false i h =
    plain-append (decimal (start i)) (45 ∷ decimal (end i - 1)) (decimal-plain (start i) (omega (arith, h.order, h.fits))) (refl, decimal-plain (end i - 1) (omega (arith, h.fits)))

digits-first : (ds rest : List ℕ) → IsNumeral 10 ds → is_interval (ds ++ rest) ≡ true
digits-first [] rest h = absurd (omega (arith, h.0))
digits-first (d ∷ ds) rest h =
    let r = digit_from_value d h.1.0 in
    let low : 48 ≤ d = r.0 in
    let high : d ≤ 57 = r.1 in
    grind (arith, nat_tests)

first-by : (b : Bool) (i : GnoInterval) → ProperInterval i → is_interval (body_by b i) ≡ true
first-by true i h =
    let d = (decimal_is_IsNumeral (start i) (omega (arith, h.order, h.fits))).0 in
    ap is_interval (sym (append-nil (decimal (start i)))) ∙ digits-first (decimal (start i)) [] d
first-by false i h = digits-first (decimal (start i)) (45 ∷ decimal (end i - 1)) (decimal_is_IsNumeral (start i) (omega (arith, h.order, h.fits))).0

pub interval-first : (i : GnoInterval) → ProperInterval i → is_interval (body i) ≡ true
interval-first i h = first-by (end i == start i + 1) i h
