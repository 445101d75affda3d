-- The text of a sid spells that sid.
use Rattle.std.proofs.Common.{◌≡◌, ◌≢◌, inl, inr, ℕ, ◌+◌, ◌-◌, ◌<◌, ◌≤◌, ◌^◌, ◌==◌, List, [], ◌∷◌, ◌++◌, length, Ok, Bool, true, false, codes, if◌then◌else◌, refl, sym, ap, subst, arith, append_assoc}
use Rattle.std.specs.Fmt.{decimal}
use Rattle.std.specs.List.{flat_map}
use Rattle.std.specs.Str.Parse.{IsNumeral}
use Rattle.std.proofs.lemmas.Bool.{eqb-true}
use Rattle.std.proofs.lemmas.Bool.Decides.{nat_tests}
use Rattle.std.proofs.lemmas.Fmt.{decimal_is_IsNumeral}
use Rattle.std.proofs.lemmas.Str.Parse.{digit_from_value}
use Rattle.uuid.proofs.RoundTrips.{parses_hyphenated}
use Rattle.uuid.proofs.TextLemmas.{by_index_length, by_index_at, nibble_small}
use Rattle.uuid.specs.Text.{hyphenated_text, lower, hex_digit, nibble, digit_place, is_hyphen_place}
use Rattle.mysql_repl.specs.declared.gno_interval.GnoInterval.{GnoInterval}
use Rattle.mysql_repl.specs.declared.sid.Sid.{Sid}
use Rattle.mysql_repl.specs.GnoInterval.{start, end}
use Rattle.mysql_repl.specs.SidText.{read_sid, interval_text, sid_text}
use Rattle.mysql_repl.specs.ProperSid.{ProperInterval, AllProper, ProperIntervals, ProperSid}
use Rattle.mysql_repl.specs.SidGrammar.{SpellsNumber, SpellsTwo, SpellsInterval, SpellsEach, DigitAfterColon, NoColon, SpellsSid}
use Rattle.mysql_repl.proofs.SidCuts.{no_colon-from}
use Rattle.mysql_repl.proofs.SidSpelled.{sid-spelled}

-- ---- intervals

-- an interval's text, without its colon
abbrev pub body_by : Bool → GnoInterval → List ℕ
body_by true i = decimal (start i)
body_by false i = decimal (start i) ++ 45 ∷ decimal (end i - 1)

abbrev pub body : GnoInterval → List ℕ
body i = body_by (end i == start i + 1) i

text-by : (b : Bool) (i : GnoInterval) → (if b then codes ":" ++ decimal (start i) else codes ":" ++ (decimal (start i) ++ (codes "-" ++ decimal (end i - 1)))) ≡ 58 ∷ body_by b i
text-by true i = refl
text-by false i = refl

pub text-is : (i : GnoInterval) → interval_text i ≡ 58 ∷ body i
text-is i = text-by (end i == start i + 1) i

written-number : (n : ℕ) → n < 2 ^ 64 → SpellsNumber (decimal n) n
written-number n lt = inl (decimal_is_IsNumeral n lt)

written-by : (b : Bool) (i : GnoInterval) → (end i == start i + 1) ≡ b → ProperInterval i → SpellsInterval (body_by b i) i
written-by true i e h = record { numbers = inl (written-number (start i) (omega (arith, h.order, h.fits)), eqb-true _ _ e); proper = h }
written-by false i e h =
    let two : SpellsTwo (body_by false i) i = record {
      first = decimal (start i);
      last = decimal (end i - 1);
      parts = refl;
      first_number = written-number (start i) (omega (arith, h.order, h.fits));
      last_gno = end i - 1;
      last_number = written-number (end i - 1) (omega (arith, h.fits));
      end_after = omega (arith, h.order);
    } in
    record { numbers = inr two; proper = h }

abbrev texts : List GnoInterval → List ℕ
texts is = flat_map interval_text is

texts-next : (i : GnoInterval) (is : List GnoInterval) → texts (i ∷ is) ≡ 58 ∷ (body i ++ texts is)
texts-next i is = ap (λ (t : List ℕ). t ++ texts is) (text-is i)

each-written : (is : List GnoInterval) → AllProper is → SpellsEach is (texts is)
each-written [] h = refl
each-written (i ∷ is) h = (body i, texts is, texts-next i is, written-by (end i == start i + 1) i refl h.0, each-written is h.1)

-- ---- the first digit

first-digit : (ds rest : List ℕ) → IsNumeral 10 ds → DigitAfterColon (58 ∷ (ds ++ rest))
first-digit [] rest h = absurd (omega (arith, h.0))
first-digit (d ∷ ds) rest h =
    let r = digit_from_value d h.1.0 in
    let low : 48 ≤ d = r.0 in
    let high : d ≤ 57 = r.1 in
    grind (arith, nat_tests)

body-digit : (b : Bool) (i : GnoInterval) (more : List ℕ) → ProperInterval i → DigitAfterColon (58 ∷ (body_by b i ++ more))
body-digit true i more h = first-digit (decimal (start i)) more (decimal_is_IsNumeral (start i) (omega (arith, h.order, h.fits))).0
body-digit false i more h =
    rw (append_assoc (decimal (start i)) (45 ∷ decimal (end i - 1)) more)
    (first-digit (decimal (start i)) ((45 ∷ decimal (end i - 1)) ++ more) (decimal_is_IsNumeral (start i) (omega (arith, h.order, h.fits))).0)

-- ---- the uuid

uuid-char : (b : Bool) (d : ℕ) → d < 16 → (if b then 45 else hex_digit lower d) ≢ 58
uuid-char true d lt = λ e. omega (arith, e)
uuid-char false d lt = grind (arith, nat_tests)

hyphenated-no_colon : (id : List ℕ) → NoColon (hyphenated_text lower id)
hyphenated-no_colon id = no_colon-from (hyphenated_text lower id) (λ k lt.
    let short : k < 36 = omega (arith, lt, by_index_length 36 (λ j. if is_hyphen_place j then 45 else hex_digit lower (nibble id (digit_place j)))) in
    rw (by_index_at 36 (λ j. if is_hyphen_place j then 45 else hex_digit lower (nibble id (digit_place j))) k 0 short) (uuid-char (is_hyphen_place k) (nibble id (digit_place k)) (nibble_small id (digit_place k))))

-- ---- the whole text

abbrev pub Some_spelled : List GnoInterval → Type 0
Some_spelled is = SpellsEach is (texts is) × (0 < length is) × DigitAfterColon (texts is)

some-written : (is : List GnoInterval) → ProperIntervals is → Some_spelled is
some-written [] h = absurd h
some-written (i ∷ is) h =
    (each-written (i ∷ is) h, omega arith, subst DigitAfterColon (sym (texts-next i is)) (body-digit (end i == start i + 1) i (texts is) h.0))

pub sid-written : (s : Sid) → ProperSid s → SpellsSid (sid_text s) s
sid-written s h =
    let w = some-written s.intervals h.intervals in
    record {
      id = hyphenated_text lower s.uuid;
      more = texts s.intervals;
      parts = refl;
      no_colon = hyphenated-no_colon s.uuid;
      uuid = sym (parses_hyphenated lower s.uuid (inl refl) h.uuid h.bytes);
      tag = h.tag;
      intervals = w.0;
      some = w.1;
      digit = λ no_tag. w.2;
    }

pub sid-text-again : (s : Sid) → ProperSid s → read_sid (sid_text s) ≡ Ok s
sid-text-again s h = sid-spelled (sid_text s) s (sid-written s h)

pub ruleset sid_texts_again = (sid-text-again, sid-written)
