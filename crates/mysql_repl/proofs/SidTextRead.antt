-- A text spells the sid that is read from it, so a sid's own text is read back.
use Rattle.std.proofs.Common.{◌≡◌, ◌⊎◌, inl, inr, ℕ, ◌+◌, ◌<◌, ◌^◌, ◌==◌, List, [], ◌∷◌, ◌++◌, length, codes, Option, Some, None, Result, Ok, Err, IfOk, Bool, true, false, ◌&&◌, nat_lt, nat_le, if◌then◌else◌, refl, ap, sym, subst, ◌∙◌, arith}
use Rattle.std.specs.Char.{is_ascii_digit}
use Rattle.std.specs.List.{slice_split, join_with_byte}
use Rattle.std.specs.Str.{all_ascii_digits, IsUtf8}
use Rattle.std.specs.Str.Parse.{digits_value, without_leading_plus}
use Rattle.std.proofs.lemmas.Bool.{ltb-true, leb-false, eqb-true, eqb-false, cases_Bool}
use Rattle.std.proofs.lemmas.List.{append-nil}
use Rattle.std.proofs.lemmas.List.Splits.{length-slice_split, join_with_byte-slice_split}
use Rattle.std.proofs.lemmas.Str.Parse.{without_leading_plus_none, without_leading_plus_plus}
use Rattle.uuid.specs.Text.{parsed}
use Rattle.mysql_repl.specs.declared.gno_interval.GnoInterval.{GnoInterval}
use Rattle.mysql_repl.specs.declared.gno_interval.InvalidGno.TheVariants.{Order, Zero}
use Rattle.mysql_repl.specs.declared.sid.Sid.{Sid}
use Rattle.mysql_repl.specs.declared.sid_text.InvalidSid.{InvalidSid}
use Rattle.mysql_repl.specs.declared.sid_text.InvalidSid.TheVariants as fault
use Rattle.mysql_repl.specs.declared.tag.InvalidTag.{InvalidTag}
use Rattle.mysql_repl.specs.GnoInterval.{interval_of, start, end}
use Rattle.mysql_repl.specs.ProperSid.{ProperInterval, AllProper, ProperIntervals}
use Rattle.mysql_repl.specs.SidGrammar.{AreDigitsOf, SpellsNumber, SpellsTwo, SpellsInterval, SpellsEach, DigitAfterColon, SpellsSid}
use Rattle.mysql_repl.specs.SidText.{Answered, colon, hyphen, is, has, before, after, number_of, checked, from_numbers, read_interval, onto, all_read, read_each, parts_of, read_intervals, SidParts, parts_with, tagged_parts, parts_after, parts_by, sid_parts, sid_with, sid_of, read_sid, tag_text, sid_text}
use Rattle.mysql_repl.specs.Tag.{tag_fault}
use Rattle.mysql_repl.specs.TagString.{OptionalTag}
use Rattle.mysql_repl.proofs.SidCuts.{cut-parts, utf8-before, utf8-after, no_colon-before}
use Rattle.mysql_repl.proofs.SidSpelled.{sid-spelled}
use Rattle.mysql_repl.proofs.SidTextAgain.{sid-text-again}
use Rattle.mysql_repl.proofs.SidTexts.{numeral-from}
use Rattle.mysql_repl.proofs.Tags.{no_fault-tag}
use Rattle.mysql_repl.proofs.UuidBytes.{uuid-is}

pub same-ok : {A : Type 0} (x y : A) → ◌≡◌ {A = Result A InvalidSid} (Ok x) (Ok y) → x ≡ y
same-ok x y e = cc

-- ---- numbers

number-by : (digits small : Bool) (v n : ℕ) → (if digits then (if small then Some v else None) else None) ≡ Some n → (digits ≡ true) × (small ≡ true) × (v ≡ n)
number-by true true v n e = (refl, refl, cc)
number-by true false v n e = absurd cc
number-by false small v n e = absurd cc

plus-or-none : (text : List ℕ) → (text ≡ codes "+" ++ without_leading_plus text) ⊎ (without_leading_plus text ≡ text)
plus-or-none [] = inr refl
plus-or-none (c ∷ cs) =
    elim (cases_Bool (c == 43)) [
      | inl plus ↦
          let c_is : c ≡ 43 = eqb-true c 43 plus in
          inl (ap (λ (x : ℕ). x ∷ cs) c_is ∙ ap (λ (t : List ℕ). 43 ∷ t) (sym (without_leading_plus_plus (c ∷ cs) c_is)))
      | inr other ↦ inr (without_leading_plus_none (c ∷ cs) (eqb-false c 43 other))
    ]

abbrev Spelled : List ℕ → ℕ → Type 0
Spelled text n = SpellsNumber text n × (n < 2 ^ 64)

number-from : (text : List ℕ) (n : ℕ) → number_of text ≡ Some n → Spelled text n
unfolding number_of
number-from text n e =
    let ds = without_leading_plus text in
    let s = number-by (nat_lt 0 (length ds) && all_ascii_digits ds) (nat_lt (digits_value 10 ds) (2 ^ 64)) (digits_value 10 ds) n e in
    let small : n < 2 ^ 64 = omega (arith, ltb-true _ _ s.1, s.2) in
    elim (plus-or-none text) [
      | inl plus ↦ (inr (ds, plus, (numeral-from ds s.0, s.2)), small)
      | inr plain ↦ (inl (subst (λ (t : List ℕ). AreDigitsOf t n) plain (numeral-from ds s.0, s.2)), small)
    ]

-- ---- intervals

checked-by : (large order zero : Bool) (first last : ℕ) (i : GnoInterval)
    → (if large then Err fault.TooLarge else if order then Err (fault.Gno (Order first (last + 1))) else if zero then Err (fault.Gno Zero) else Ok (interval_of first (last + 1))) ≡ Ok i
    → (large ≡ false) × (order ≡ false) × (zero ≡ false) × (interval_of first (last + 1) ≡ i)
checked-by true order zero first last i e = absurd cc
checked-by false true zero first last i e = absurd cc
checked-by false false true first last i e = absurd cc
checked-by false false false first last i e = (refl, refl, refl, same-ok (interval_of first (last + 1)) i e)

-- an interval from the first number to the last
abbrev pub IsFrom : ℕ → ℕ → GnoInterval → Type 0
IsFrom first last i = (start i ≡ first) × (end i ≡ last + 1) × ProperInterval i

pub checked-from : (first last : ℕ) (i : GnoInterval) → last < 2 ^ 64 → checked first last ≡ Ok i → IsFrom first last i
checked-from first last i small e =
    let c = checked-by (last == 18446744073709551615) (nat_le (last + 1) first) (first == 0) first last i e in
    let below : last ≡ 18446744073709551615 → ⊥ = eqb-false last 18446744073709551615 c.0 in
    let order : first < last + 1 = leb-false (last + 1) first c.1 in
    let some : first ≡ 0 → ⊥ = eqb-false first 0 c.2 in
    let start_is : i.start ≡ first = ap (λ (j : GnoInterval). j.start) (sym c.3) in
    let end_is : i.end ≡ last + 1 = ap (λ (j : GnoInterval). j.end) (sym c.3) in
    (start_is, end_is, record { some = omega (arith, some, start_is); order = omega (arith, order, start_is, end_is); fits = omega (arith, below, small, end_is) })

numbers-from : (x y : Option ℕ) (i : GnoInterval) → from_numbers x y ≡ Ok i → (first : ℕ) × (last : ℕ) × (x ≡ Some first) × (y ≡ Some last) × (checked first last ≡ Ok i)
numbers-from None y i e = absurd cc
numbers-from (Some a) None i e = absurd cc
numbers-from (Some a) (Some b) i e = (a, b, refl, refl, e)

one-from : (text : List ℕ) (i : GnoInterval) → from_numbers (number_of text) (number_of text) ≡ Ok i → SpellsInterval text i
one-from text i e =
    let n = numbers-from (number_of text) (number_of text) i e in
    let last = number-from text n.1 n.3 in
    let f = checked-from n.0 n.1 i last.1 n.4 in
    let same : ◌≡◌ {A = Option ℕ} (Some n.0) (Some n.1) = sym n.2 ∙ n.3 in
    let equal : n.0 ≡ n.1 = cc in
    record {
      numbers = inl (subst (λ (m : ℕ). SpellsNumber text m) (sym f.0) (number-from text n.0 n.2).0, omega (arith, f.0, f.1, equal));
      proper = f.2;
    }

two-from : (text front back : List ℕ) (i : GnoInterval) → text ≡ front ++ 45 ∷ back → from_numbers (number_of front) (number_of back) ≡ Ok i → SpellsInterval text i
two-from text front back i parts e =
    let n = numbers-from (number_of front) (number_of back) i e in
    let last = number-from back n.1 n.3 in
    let f = checked-from n.0 n.1 i last.1 n.4 in
    let two : SpellsTwo text i = record {
      first = front;
      last = back;
      parts = parts;
      first_number = subst (λ (m : ℕ). SpellsNumber front m) (sym f.0) (number-from front n.0 n.2).0;
      last_gno = n.1;
      last_number = last.0;
      end_after = f.1;
    } in
    record { numbers = inr two; proper = f.2 }

pub interval-by : (two more : Bool) (x : Result GnoInterval InvalidSid) (y : Result GnoInterval InvalidSid) (i : GnoInterval)
    → (if two then (if more then Err fault.Parts else x) else y) ≡ Ok i → ((two ≡ true) × (x ≡ Ok i)) ⊎ (y ≡ Ok i)
interval-by true true x y i e = absurd cc
interval-by true false x y i e = inl (refl, e)
interval-by false more x y i e = inr e

interval-from : (text : List ℕ) (i : GnoInterval) → read_interval text ≡ Ok i → SpellsInterval text i
unfolding read_interval
interval-from text i e =
    elim (interval-by (has hyphen text) (has hyphen (after hyphen text)) (from_numbers (number_of (before hyphen text)) (number_of (after hyphen text))) (from_numbers (number_of text) (number_of text)) i e) [
      | inl two ↦ two-from text (before hyphen text) (after hyphen text) i (cut-parts hyphen text two.0) two.1
      | inr one ↦ one-from text i one
    ]

onto-from : (r : Result GnoInterval InvalidSid) (rs : Result (List GnoInterval) InvalidSid) (list : List GnoInterval) → onto r rs ≡ Ok list
    → (i : GnoInterval) × (js : List GnoInterval) × (r ≡ Ok i) × (rs ≡ Ok js) × (i ∷ js ≡ list)
onto-from (Err e) rs list h = absurd cc
onto-from (Ok i) (Err e) list h = absurd cc
onto-from (Ok i) (Ok js) list h = (i, js, refl, refl, same-ok (i ∷ js) list h)

abbrev SomeSpelled : List GnoInterval → List ℕ → Type 0
SomeSpelled list text = SpellsEach list text × (0 < length list)

each-from : (part : List ℕ) (parts : List (List ℕ)) (list : List GnoInterval) → all_read (read_each (part ∷ parts)) ≡ Ok list → SomeSpelled list (58 ∷ join_with_byte 58 (part ∷ parts))
each-from part [] list h =
    let o = onto-from (read_interval part) (all_read []) list h in
    let none : [] ≡ o.1 = same-ok [] o.1 o.3 in
    let one : SomeSpelled (o.0 ∷ []) (58 ∷ part) = ((part, [], ap (λ (t : List ℕ). 58 ∷ t) (sym (append-nil part)), interval-from part o.0 o.2, refl), omega arith) in
    subst (λ (l : List GnoInterval). SomeSpelled l (58 ∷ part)) (ap (λ (l : List GnoInterval). o.0 ∷ l) none ∙ o.4) one
each-from part (next ∷ parts) list h =
    let o = onto-from (read_interval part) (all_read (read_each (next ∷ parts))) list h in
    let more = each-from next parts o.1 o.3 in
    let text = join_with_byte 58 (part ∷ next ∷ parts) in
    let all : SomeSpelled (o.0 ∷ o.1) (58 ∷ text) = ((part, 58 ∷ join_with_byte 58 (next ∷ parts), refl, interval-from part o.0 o.2, more.0), omega arith) in
    subst (λ (l : List GnoInterval). SomeSpelled l (58 ∷ text)) o.4 all

parts-from : (parts : List (List ℕ)) (list : List GnoInterval) → 0 < length parts → all_read (read_each parts) ≡ Ok list → SomeSpelled list (58 ∷ join_with_byte 58 parts)
parts-from [] list lt h = absurd (omega (arith, lt))
parts-from (part ∷ parts) list lt h = each-from part parts list h

intervals-from : (text : List ℕ) (list : List GnoInterval) → read_intervals text ≡ Ok list → SomeSpelled list (58 ∷ text)
unfolding read_intervals parts_of
intervals-from text list h =
    let parts = slice_split (is colon) text in
    subst (λ (t : List ℕ). SomeSpelled list (58 ∷ t)) (join_with_byte-slice_split 58 text) (parts-from parts list (omega (arith, length-slice_split (is colon) text)) h)

-- ---- the whole text

-- the text after a uuid and its colon spells the rest of the sid
record Rest (id text : List ℕ) (s : Sid) : Type 0 where
  pub more : List ℕ
  pub uuid : s.uuid ≡ id
  pub parts : 58 ∷ text ≡ tag_text s.tag ++ more
  pub tag : IsUtf8 text → OptionalTag s.tag
  pub intervals : SomeSpelled s.intervals more
  pub digit : s.tag ≡ None → DigitAfterColon more

with-from : (id : List ℕ) (tag : Option (List ℕ)) (r : Result (List GnoInterval) InvalidSid) (s : Sid) → sid_with id tag r ≡ Ok s → (r ≡ Ok s.intervals) × (s.tag ≡ tag) × (s.uuid ≡ id)
with-from id tag (Err e) s h = absurd cc
with-from id tag (Ok list) s h =
    let e : record { uuid = id; tag = tag; intervals = list } ≡ s = same-ok (record { uuid = id; tag = tag; intervals = list }) s h in
    (ap (λ (t : Sid). Ok t.intervals) e, ap (λ (t : Sid). t.tag) (sym e), ap (λ (t : Sid). t.uuid) (sym e))

of-parts : (id : List ℕ) (tag : Option (List ℕ)) (text : List ℕ) (s : Sid) → sid_of (Ok (parts_with id tag text)) ≡ Ok s → sid_with id tag (read_intervals text) ≡ Ok s
unfolding read_intervals
of-parts id tag text s h = h

tagged-from : (id tag text : List ℕ) (f : Option InvalidTag) (s : Sid) → sid_of (tagged_parts id tag text f) ≡ Ok s → (f ≡ None) × (sid_of (Ok (parts_with id (Some tag) text)) ≡ Ok s)
tagged-from id tag text (Some e) s h = absurd cc
tagged-from id tag text None s h = (refl, h)

either-of : (digit cut : Bool) (x y : Result SidParts InvalidSid) (s : Sid) → sid_of (if digit then x else if cut then y else Err fault.NoIntervals) ≡ Ok s
    → ((digit ≡ true) × (sid_of x ≡ Ok s)) ⊎ ((cut ≡ true) × (sid_of y ≡ Ok s))
either-of true cut x y s h = inl (refl, h)
either-of false true x y s h = inr (refl, h)
either-of false false x y s h = absurd cc

no_tag : (tag : Option (List ℕ)) → tag ≡ None → OptionalTag tag
no_tag None e = tt
no_tag (Some text) e = absurd cc

untagged : (id : List ℕ) (c : ℕ) (cs : List ℕ) (s : Sid) → is_ascii_digit c ≡ true → sid_of (Ok (parts_with id None (c ∷ cs))) ≡ Ok s → Rest id (c ∷ cs) s
untagged id c cs s digit h =
    let w = with-from id None (read_intervals (c ∷ cs)) s (of-parts id None (c ∷ cs) s h) in
    record {
      more = 58 ∷ c ∷ cs;
      uuid = w.2;
      parts = ap (λ (t : Option (List ℕ)). tag_text t ++ 58 ∷ c ∷ cs) (sym w.1);
      tag = λ utf8. no_tag s.tag w.1;
      intervals = intervals-from (c ∷ cs) s.intervals w.0;
      digit = λ e. digit;
    }

tagged : (id text : List ℕ) (s : Sid) → has colon text ≡ true → sid_of (tagged_parts id (before colon text) (after colon text) (tag_fault (before colon text))) ≡ Ok s → Rest id text s
tagged id text s cut h =
    let front = before colon text in
    let back = after colon text in
    let t = tagged-from id front back (tag_fault front) s h in
    let w = with-from id (Some front) (read_intervals back) s (of-parts id (Some front) back s t.1) in
    let whole : 58 ∷ text ≡ tag_text (Some front) ++ 58 ∷ back = ap (λ (x : List ℕ). 58 ∷ x) (cut-parts colon text cut) in
    record {
      more = 58 ∷ back;
      uuid = w.2;
      parts = whole ∙ ap (λ (x : Option (List ℕ)). tag_text x ++ 58 ∷ back) (sym w.1);
      tag = λ utf8. subst OptionalTag (sym w.1) (no_fault-tag front (utf8-before colon text (omega arith) cut utf8) t.0);
      intervals = intervals-from back s.intervals w.0;
      digit = λ none. let wrong : ◌≡◌ {A = Option (List ℕ)} (Some front) None = sym w.1 ∙ none in absurd cc;
    }

after-from : (id text : List ℕ) (s : Sid) → sid_of (parts_after id text) ≡ Ok s → Rest id text s
unfolding parts_after
after-from id [] s h = absurd cc
after-from id (c ∷ cs) s h =
    elim (either-of (is_ascii_digit c) (has colon (c ∷ cs)) (Ok (parts_with id None (c ∷ cs)))
    (tagged_parts id (before colon (c ∷ cs)) (after colon (c ∷ cs)) (tag_fault (before colon (c ∷ cs)))) s h) [
      | inl x ↦ untagged id c cs s x.0 x.1
      | inr y ↦ tagged id (c ∷ cs) s y.0 y.1
    ]

uuid-from : (o : Option (List ℕ)) (text : List ℕ) (s : Sid) → sid_of (parts_by o text) ≡ Ok s → (id : List ℕ) × (o ≡ Some id) × Rest id text s
uuid-from None text s h = absurd cc
uuid-from (Some id) text s h = (id, refl, after-from id text s h)

cut-from : (cut : Bool) (x : Result SidParts InvalidSid) (s : Sid) → sid_of (if cut then x else Err fault.NoColon) ≡ Ok s → (cut ≡ true) × (sid_of x ≡ Ok s)
cut-from true x s h = (refl, h)
cut-from false x s h = absurd cc

-- a text spells the sid that is read from it if the tag is valid; and the tag is valid if the text is UTF-8
abbrev Read : List ℕ → Sid → Type 0
Read text s = (OptionalTag s.tag → SpellsSid text s) × (IsUtf8 text → OptionalTag s.tag)

sid-from : (text : List ℕ) (s : Sid) → read_sid text ≡ Ok s → Read text s
unfolding read_sid sid_parts
sid-from text s h =
    let front = before colon text in
    let back = after colon text in
    let cut = cut-from (has colon text) (parts_by (parsed front) back) s h in
    let u = uuid-from (parsed front) back s cut.1 in
    let rest : Rest u.0 back s = u.2 in (
      λ tag. record {
        id = front;
        more = rest.more;
        parts = cut-parts colon text cut.0 ∙ ap (λ (t : List ℕ). front ++ t) rest.parts;
        no_colon = no_colon-before text;
        uuid = u.1 ∙ ap Some (sym rest.uuid);
        tag = tag;
        intervals = rest.intervals.0;
        some = rest.intervals.1;
        digit = rest.digit;
      },
      λ utf8. rest.tag (utf8-after colon text (omega arith) cut.0 utf8),
    )

-- a text is read only as the sid that it spells
pub read-spelled : (text : List ℕ) (s : Sid) → IsUtf8 text → read_sid text ≡ Ok s → SpellsSid text s
read-spelled text s utf8 h = let r = sid-from text s h in r.0 (r.1 utf8)

-- ---- the result of a reader

pub answer-spelled : (text : List ℕ) (r : Result Sid InvalidSid) → IsUtf8 text → Answered r (read_sid text) → IfOk r (SpellsSid text)
answer-spelled text (Ok s) utf8 h = read-spelled text s utf8 h
answer-spelled text (Err e) utf8 h = tt

pub answer-read : (text : List ℕ) (r : Result Sid InvalidSid) (s : Sid) → Answered r (read_sid text) → SpellsSid text s → Answered r (Ok s)
answer-read text r s h spelled = subst (λ (read : Result Sid InvalidSid). Answered r read) (sid-spelled text s spelled) h

pub ruleset answers = (answer-spelled, answer-read)

-- ---- a sid that was read is read back

all-proper : (list : List GnoInterval) (text : List ℕ) → SpellsEach list text → AllProper list
all-proper [] text h = tt
all-proper (i ∷ is) text h = (h.3.proper, all-proper is h.1 h.4)

some-proper : (list : List GnoInterval) → AllProper list → 0 < length list → ProperIntervals list
some-proper [] h lt = omega (arith, lt)
some-proper (i ∷ more) h lt = h

pub sid-read-again : (text : List ℕ) (s : Sid) → IsUtf8 text → read_sid text ≡ Ok s → read_sid (sid_text s) ≡ Ok s
sid-read-again text s utf8 h =
    let spelled : SpellsSid text s = read-spelled text s utf8 h in
    let id = uuid-is spelled.id s.uuid spelled.uuid in
    let proper = some-proper s.intervals (all-proper s.intervals spelled.more spelled.intervals) spelled.some in
    sid-text-again s (record { uuid = id.size; bytes = id.bytes; tag = spelled.tag; intervals = proper })

pub ruleset sid_reads_again = (sid-read-again)

pub ruleset texts_spelled = (read-spelled)
