-- A text that spells a sid is read as that sid.
use Rattle.std.proofs.Common.{◌≡◌, ◌⊎◌, inl, inr, ℕ, ◌+◌, ◌<◌, ◌≤◌, ◌^◌, ◌==◌, List, [], ◌∷◌, ◌++◌, length, get_or, Option, Some, None, Result, Ok, Err, Bool, true, false, codes, if◌then◌else◌, refl, sym, ap, subst, ◌∙◌, arith}
use Rattle.std.specs.Char.{is_ascii_digit}
use Rattle.std.specs.List.{list_all}
use Rattle.std.specs.Str.Parse.{IsNumeral, AllDigits, without_leading_plus}
use Rattle.std.proofs.lemmas.Bool.{lt-leb, ne_eqb, and_parts}
use Rattle.std.proofs.lemmas.Bool.Decides.{nat_tests}
use Rattle.std.proofs.lemmas.List.{append-nil}
use Rattle.std.proofs.lemmas.Str.Parse.{digit_from_value, without_leading_plus_none, without_leading_plus_plus}
use Rattle.uuid.specs.Text.{parsed}
use Rattle.mysql_repl.specs.declared.gno_interval.GnoInterval.{GnoInterval}
use Rattle.mysql_repl.specs.declared.sid.Sid.{Sid}
use Rattle.mysql_repl.specs.declared.sid_text.InvalidSid.{InvalidSid}
use Rattle.mysql_repl.specs.declared.sid_text.InvalidSid.TheVariants as fault
use Rattle.mysql_repl.specs.GnoInterval.{start, interval_of}
use Rattle.mysql_repl.specs.SidText.{colon, hyphen, has, before, after, number_of, checked, from_numbers, read_interval, read_intervals, SidParts, parts_with, tagged_parts, parts_after, parts_by, sid_parts, sid_with, sid_of, read_sid, tag_text}
use Rattle.mysql_repl.specs.ProperSid.{ProperInterval}
use Rattle.mysql_repl.specs.SidGrammar.{SpellsNumber, SpellsOne, SpellsTwo, SpellsInterval, SpellsEach, DigitAfterColon, SpellsSid}
use Rattle.mysql_repl.specs.TagString.{OptionalTag}
use Rattle.mysql_repl.specs.Tag.{is_first, is_later, IsTag, tag_fault}
use Rattle.mysql_repl.proofs.SidCuts.{Lacks, lacks-append, no-cut, has-cut, before-cut, after-cut, no_colon-lacks}
use Rattle.mysql_repl.proofs.SidTexts.{number-ok, last-part, next-part}
use Rattle.mysql_repl.proofs.Tags.{tag-parts, tag-no_fault, nothing, first-later}

-- ---- numbers

digits-lack : (c : ℕ) → ((d : ℕ) → 48 ≤ d → d ≤ 57 → d ≡ c → ⊥) → (ds : List ℕ) → AllDigits 10 ds → Lacks c ds
digits-lack c out [] h = tt
digits-lack c out (d ∷ ds) h = let r = digit_from_value d h.0 in (ne_eqb d c (out d r.0 r.1), digits-lack c out ds h.1)

-- a separator other than a digit and a plus sign is in no number
number-lacks : (c : ℕ) → ((d : ℕ) → 48 ≤ d → d ≤ 57 → d ≡ c → ⊥) → (43 ≡ c → ⊥) → (text : List ℕ) (n : ℕ) → SpellsNumber text n → Lacks c text
number-lacks c out plus text n (inl d) = digits-lack c out text d.0.1
number-lacks c out plus text n (inr p) = rw p.1 (ne_eqb 43 c plus, digits-lack c out p.0 p.2.0.1)

lacks_colon : (text : List ℕ) (n : ℕ) → SpellsNumber text n → Lacks 58 text
lacks_colon text n h = number-lacks 58 (λ d low high e. omega (arith, low, high, e)) (λ e. omega (arith, e)) text n h

pub lacks_hyphen : (text : List ℕ) (n : ℕ) → SpellsNumber text n → Lacks 45 text
lacks_hyphen text n h = number-lacks 45 (λ d low high e. omega (arith, low, high, e)) (λ e. omega (arith, e)) text n h

no-plus : (ds : List ℕ) → IsNumeral 10 ds → get_or ds 0 0 ≡ 43 → ⊥
no-plus [] h e = omega (arith, h.0)
no-plus (d ∷ ds) h e = let r = digit_from_value d h.1.0 in omega (arith, r.0, e)

pub number-spelled : (text : List ℕ) (n : ℕ) → SpellsNumber text n → n < 2 ^ 64 → number_of text ≡ Some n
unfolding number_of
number-spelled text n (inl d) lt =
    let plain : without_leading_plus text ≡ text = without_leading_plus_none text (no-plus text d.0) in
    rw plain (number-ok text d.0 (omega (arith, d.1, lt)) ∙ ap Some d.1)
number-spelled text n (inr p) lt =
    let plain : without_leading_plus (codes "+" ++ p.0) ≡ p.0 = without_leading_plus_plus (codes "+" ++ p.0) refl in
    rw (p.1, plain) (number-ok p.0 p.2.0 (omega (arith, p.2.1, lt)) ∙ ap Some p.2.1)

-- ---- intervals

pub checked-ok : (first last : ℕ) → 0 < first → first ≤ last → last + 1 < 2 ^ 64 → checked first last ≡ Ok (interval_of first (last + 1))
checked-ok first last some le lt =
    rw (ne_eqb last 18446744073709551615 (λ e. omega (arith, e, lt)), lt-leb (last + 1) first (omega (arith, le)), ne_eqb first 0 (λ e. omega (arith, e, some))) refl

one-number : (h : Bool) (g : Bool) (x y n : Option ℕ) → h ≡ false → (if h then (if g then Err fault.Parts else from_numbers x y) else from_numbers n n) ≡ from_numbers n n
one-number true g x y n e = absurd cc
one-number false g x y n e = refl

two-numbers : (h : Bool) (g : Bool) (x y n : Option ℕ) → h ≡ true → g ≡ false → (if h then (if g then Err fault.Parts else from_numbers x y) else from_numbers n n) ≡ from_numbers x y
two-numbers true true x y n e f = absurd cc
two-numbers true false x y n e f = refl
two-numbers false g x y n e f = absurd cc

one-read : (text : List ℕ) (n : ℕ) → Lacks 45 text → number_of text ≡ Some n → read_interval text ≡ checked n n
unfolding read_interval
one-read text n lacks is =
    one-number (has hyphen text) (has hyphen (after hyphen text)) (number_of (before hyphen text)) (number_of (after hyphen text)) (number_of text) (no-cut 45 text lacks)
    ∙ rw is refl

two-read : (front back : List ℕ) (m n : ℕ) → Lacks 45 front → Lacks 45 back → number_of front ≡ Some m → number_of back ≡ Some n → read_interval (front ++ 45 ∷ back) ≡ checked m n
unfolding read_interval
two-read front back m n lacks more first_is last_is =
    let text = front ++ 45 ∷ back in
    let in_front : before hyphen text ≡ front = before-cut 45 front back lacks in
    let at_back : after hyphen text ≡ back = after-cut 45 front back lacks in
    let whole : has hyphen (after hyphen text) ≡ false = ap (λ (t : List ℕ). has hyphen t) at_back ∙ no-cut 45 back more in
    let first : number_of (before hyphen text) ≡ Some m = ap number_of in_front ∙ first_is in
    let last : number_of (after hyphen text) ≡ Some n = ap number_of at_back ∙ last_is in
    two-numbers (has hyphen text) (has hyphen (after hyphen text)) (number_of (before hyphen text)) (number_of (after hyphen text)) (number_of text) (has-cut 45 front back lacks) whole
    ∙ ap (λ (x : Option ℕ). from_numbers x (number_of (after hyphen text))) first
    ∙ ap (λ (y : Option ℕ). from_numbers (Some m) y) last

numbers-spelled : (text : List ℕ) (i : GnoInterval) → SpellsOne text i ⊎ SpellsTwo text i → ProperInterval i → read_interval text ≡ Ok i
numbers-spelled text i (inl one) h =
    one-read text (start i) (lacks_hyphen text (start i) one.0) (number-spelled text (start i) one.0 (omega (arith, h.order, h.fits)))
    ∙ checked-ok (start i) (start i) h.some (omega arith) (omega (arith, one.1, h.fits))
    ∙ ap (λ (n : ℕ). Ok (interval_of (start i) n)) (sym one.1)
numbers-spelled text i (inr two) h =
    ap read_interval two.parts
    ∙ two-read two.first two.last (start i) two.last_gno (lacks_hyphen two.first (start i) two.first_number) (lacks_hyphen two.last two.last_gno two.last_number)
    (number-spelled two.first (start i) two.first_number (omega (arith, h.order, h.fits)))
    (number-spelled two.last two.last_gno two.last_number (omega (arith, two.end_after, h.fits)))
    ∙ checked-ok (start i) two.last_gno h.some (omega (arith, two.end_after, h.order)) (omega (arith, two.end_after, h.fits))
    ∙ ap (λ (n : ℕ). Ok (interval_of (start i) n)) (sym two.end_after)

interval-spelled : (text : List ℕ) (i : GnoInterval) → SpellsInterval text i → read_interval text ≡ Ok i
interval-spelled text i h = numbers-spelled text i h.numbers h.proper

numbers-lack : (text : List ℕ) (i : GnoInterval) → SpellsOne text i ⊎ SpellsTwo text i → Lacks 58 text
numbers-lack text i (inl one) = lacks_colon text (start i) one.0
numbers-lack text i (inr two) =
    rw two.parts (lacks-append 58 two.first (45 ∷ two.last) (lacks_colon two.first (start i) two.first_number) (refl, lacks_colon two.last two.last_gno two.last_number))

interval-lacks : (text : List ℕ) (i : GnoInterval) → SpellsInterval text i → Lacks 58 text
interval-lacks text i h = numbers-lack text i h.numbers

each-spelled : (i : GnoInterval) (is : List GnoInterval) (part rest : List ℕ) → SpellsInterval part i → SpellsEach is rest → read_intervals (part ++ rest) ≡ Ok (i ∷ is)
unfolding read_intervals
each-spelled i [] part rest h all =
    rw (all, append-nil part, last-part part (no-cut 58 part (interval-lacks part i h)), interval-spelled part i h) refl
each-spelled i (j ∷ js) part rest h all =
    let lacks = interval-lacks part i h in
    let left = all.0 ++ all.1 in
    let cut = next-part (part ++ 58 ∷ left) part left (has-cut 58 part left lacks) (sym (before-cut 58 part left lacks)) (sym (after-cut 58 part left lacks)) in
    rw (all.2, cut, interval-spelled part i h, each-spelled j js all.0 all.1 all.3 all.4) refl

-- ---- after the uuid

after-digit : (id text : List ℕ) → is_ascii_digit (get_or text 0 0) ≡ true → parts_after id text ≡ Ok (parts_with id None text)
unfolding parts_after
after-digit id [] h = absurd cc
after-digit id (c ∷ cs) h = rw h refl

other : (c : ℕ) → is_later c ≡ true → c == 58 ≡ false
other c h = ne_eqb c 58 (λ e. let wrong : is_later 58 ≡ true = rw e at h in absurd cc)

pub no-digit : (c : ℕ) → is_first c ≡ true → is_ascii_digit c ≡ false
no-digit c h = grind (arith, nat_tests)

-- after a uuid, a text that has a colon and doesn't begin with a digit begins with a tag
chosen : (id : List ℕ) (digit cut : Bool) (x y : Result SidParts InvalidSid) → digit ≡ false → cut ≡ true → (if digit then x else if cut then y else Err fault.NoIntervals) ≡ y
chosen id true cut x y d e = absurd cc
chosen id false true x y d e = refl
chosen id false false x y d e = absurd cc

tag-lacks : (cs : List ℕ) → list_all is_later cs ≡ true → Lacks 58 cs
tag-lacks [] h = tt
tag-lacks (c ∷ cs) h = let p = and_parts (is_later c) (list_all is_later cs) h in (other c p.0, tag-lacks cs p.1)

after-tag : (id tag text : List ℕ) → IsTag tag → parts_after id (tag ++ 58 ∷ text) ≡ Ok (parts_with id (Some tag) text)
unfolding parts_after
after-tag id [] text h = absurd (nothing h)
after-tag id (c ∷ cs) text h =
    let p = tag-parts c cs h in
    let lacks : Lacks 58 (c ∷ cs) = (other c (first-later c p.first), tag-lacks cs p.later) in
    let front : before colon ((c ∷ cs) ++ 58 ∷ text) ≡ c ∷ cs = before-cut 58 (c ∷ cs) text lacks in
    let back : after colon ((c ∷ cs) ++ 58 ∷ text) ≡ text = after-cut 58 (c ∷ cs) text lacks in
    chosen id (is_ascii_digit c) (has colon ((c ∷ cs) ++ 58 ∷ text)) _ _ (no-digit c p.first) (has-cut 58 (c ∷ cs) text lacks)
    ∙ ap (λ (t : List ℕ). tagged_parts id t (after colon ((c ∷ cs) ++ 58 ∷ text)) (tag_fault t)) front
    ∙ ap (λ (t : List ℕ). tagged_parts id (c ∷ cs) t (tag_fault (c ∷ cs))) back
    ∙ ap (λ (f : _). tagged_parts id (c ∷ cs) text f) (tag-no_fault (c ∷ cs) h)

digit-first : (text : List ℕ) → DigitAfterColon (58 ∷ text) → is_ascii_digit (get_or text 0 0) ≡ true
digit-first [] h = absurd h
digit-first (c ∷ text) h = h

intervals-of : (id : List ℕ) (tag : Option (List ℕ)) (text : List ℕ) (list : List GnoInterval) → read_intervals text ≡ Ok list
    → sid_of (Ok (parts_with id tag text)) ≡ Ok (record { uuid = id; tag = tag; intervals = list })
unfolding read_intervals
intervals-of id tag text list h = ap (λ (r : Result (List GnoInterval) InvalidSid). sid_with id tag r) h

after-spelled : (id : List ℕ) (tag : Option (List ℕ)) (is : List GnoInterval) (more : List ℕ) → OptionalTag tag → SpellsEach is more → 0 < length is → (tag ≡ None → DigitAfterColon more)
    → (rest : List ℕ) × (tag_text tag ++ more ≡ 58 ∷ rest) × (sid_of (parts_after id rest) ≡ Ok (record { uuid = id; tag = tag; intervals = is }))
after-spelled id tag [] more t h some digit = absurd (omega (arith, some))
after-spelled id None (i ∷ is) more t h some digit = (
  h.0 ++ h.1,
  h.2,
  ap sid_of (after-digit id (h.0 ++ h.1) (digit-first (h.0 ++ h.1) (subst DigitAfterColon h.2 (digit refl))))
      ∙ intervals-of id None (h.0 ++ h.1) (i ∷ is) (each-spelled i is h.0 h.1 h.3 h.4),
)
after-spelled id (Some tag) (i ∷ is) more t h some digit = (
  tag ++ 58 ∷ (h.0 ++ h.1),
  ap (λ (x : List ℕ). 58 ∷ (tag ++ x)) h.2,
  ap sid_of (after-tag id tag (h.0 ++ h.1) t) ∙ intervals-of id (Some tag) (h.0 ++ h.1) (i ∷ is) (each-spelled i is h.0 h.1 h.3 h.4),
)

-- ---- the whole text

cut-there : (cut : Bool) (x : Result SidParts InvalidSid) → cut ≡ true → (if cut then x else Err fault.NoColon) ≡ x
cut-there true x e = refl
cut-there false x e = absurd cc

with-uuid : (text front id rest : List ℕ) → Lacks 58 front → parsed front ≡ Some id → text ≡ front ++ 58 ∷ rest → sid_parts text ≡ parts_after id rest
unfolding sid_parts
with-uuid text front id rest lacks uuid e =
    let in_front : before colon (front ++ 58 ∷ rest) ≡ front = before-cut 58 front rest lacks in
    let at_back : after colon (front ++ 58 ∷ rest) ≡ rest = after-cut 58 front rest lacks in
    ap sid_parts e
    ∙ cut-there (has colon (front ++ 58 ∷ rest)) _ (has-cut 58 front rest lacks)
    ∙ ap (λ (t : List ℕ). parts_by (parsed t) (after colon (front ++ 58 ∷ rest))) in_front
    ∙ ap (λ (t : List ℕ). parts_by (parsed front) t) at_back
    ∙ ap (λ (o : Option (List ℕ)). parts_by o rest) uuid

pub sid-spelled : (text : List ℕ) (s : Sid) → SpellsSid text s → read_sid text ≡ Ok s
unfolding read_sid
sid-spelled text s h =
    let b = after-spelled s.uuid s.tag s.intervals h.more h.tag h.intervals h.some h.digit in
    ap sid_of (with-uuid text h.id s.uuid b.0 (no_colon-lacks h.id h.no_colon) h.uuid (h.parts ∙ ap (λ (t : List ℕ). h.id ++ t) b.1)) ∙ b.2

-- a text spells at most one sid
pub spelled-one : (text : List ℕ) (s t : Sid) → SpellsSid text s → SpellsSid text t → s ≡ t
spelled-one text s t h k =
    let same : ◌≡◌ {A = Result Sid InvalidSid} (Ok s) (Ok t) = sym (sid-spelled text s h) ∙ sid-spelled text t k in
    cc
