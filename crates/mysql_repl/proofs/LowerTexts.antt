-- A text in lower case has each of its characters in lower case.
use Rattle.std.proofs.Common.{◌≡◌, inl, inr, ℕ, suc, ◌<◌, ◌≤◌, List, [], ◌∷◌, length, map, get_or, nat_lt, not, Bool, true, None, option_map, slice_get, encode_utf8, encode_utf8_all, IsUtf8, refl, sym, ap, ◌∙◌, arith}
use Rattle.std.specs.Char.{to_ascii_lowercase}
use Rattle.std.specs.List.{find}
use Rattle.std.specs.Str.{chars}
use Rattle.std.proofs.Math.Utf8.{low_scalar, scalar, scalars}
use Rattle.std.proofs.lemmas.Bool.{and_parts, cases_Bool, ltb-false, ltb-true}
use Rattle.std.proofs.lemmas.List.{append-nil, length-map, map-append}
use Rattle.std.proofs.lemmas.Str.{chars-encodes, encode_ascii, inside_one}
use Rattle.std.proofs.lemmas.Str.Ascii.{lowercase_ascii, lowercase_is}
use Rattle.mysql_repl.proofs.Tags.{no_fault-tag}
use Rattle.mysql_repl.specs.Tag.{fault_of, is_later, IsTag, tag_fault}

same-high : (bs : List ℕ) → ((k : ℕ) → k < length bs → 128 ≤ get_or bs k 0) → map to_ascii_lowercase bs ≡ bs
same-high [] h = refl
same-high (b ∷ bs) h =
    let high : 128 ≤ b = h 0 (omega arith) in
    let same : to_ascii_lowercase b ≡ b = (lowercase_is b).2 (omega (arith, high)) in
    rw (same, same-high bs (λ k lt. h (suc k) (omega (arith, lt)))) refl

high-bytes : (c : ℕ) → 128 ≤ c → (k : ℕ) → k < length (encode_utf8 c) → 128 ≤ get_or (encode_utf8 c) k 0
high-bytes c high k lt =
    elim (cases_Bool (nat_lt (get_or (encode_utf8 c) k 0) 128)) [
      | inl e ↦
          let low : get_or (encode_utf8 c) k 0 < 128 = ltb-true _ _ e in
          absurd (omega (arith, high, low, inside_one c [] (encode_utf8 c) k (sym (append-nil (encode_utf8 c))) lt low))
      | inr e ↦ ltb-false _ _ e
    ]

one-lowered : (c : ℕ) → map to_ascii_lowercase (encode_utf8 c) ≡ encode_utf8 (to_ascii_lowercase c)
one-lowered c =
    elim (cases_Bool (nat_lt c 128)) [
      | inl e ↦
          let low : c < 128 = ltb-true c 128 e in
          ap (map to_ascii_lowercase) (encode_ascii c low) ∙ sym (encode_ascii (to_ascii_lowercase c) (lowercase_ascii c low))
      | inr e ↦
          let high : 128 ≤ c = ltb-false c 128 e in
          let same : to_ascii_lowercase c ≡ c = (lowercase_is c).2 (omega (arith, high)) in
          same-high (encode_utf8 c) (high-bytes c high) ∙ ap encode_utf8 (sym same)
    ]

scalar-lowered : (c : ℕ) → scalar c ≡ true → scalar (to_ascii_lowercase c) ≡ true
scalar-lowered c s =
    elim (cases_Bool (nat_lt c 128)) [
      | inl e ↦ let low = lowercase_ascii c (ltb-true c 128 e) in low_scalar (to_ascii_lowercase c) (omega (arith, low))
      | inr e ↦ let high : 128 ≤ c = ltb-false c 128 e in ap scalar ((lowercase_is c).2 (omega (arith, high))) ∙ s
    ]

record Lowered (cs : List ℕ) : Type 0 where
  pub spelled : map to_ascii_lowercase (encode_utf8_all cs) ≡ encode_utf8_all (map to_ascii_lowercase cs)
  pub scalars : scalars (map to_ascii_lowercase cs) ≡ true

all-lowered : (cs : List ℕ) → scalars cs ≡ true → Lowered cs
all-lowered [] h = record { spelled = refl; scalars = refl }
all-lowered (c ∷ cs) h =
    let p = and_parts (scalar c) (scalars cs) h in
    let more = all-lowered cs p.1 in
    record {
      spelled = map-append to_ascii_lowercase (encode_utf8 c) (encode_utf8_all cs) ∙ rw (one-lowered c, more.spelled) refl;
      scalars = rw (scalar-lowered c p.0) more.scalars;
    }

lower-chars : (bs : List ℕ) → IsUtf8 bs → chars (map to_ascii_lowercase bs) ≡ map to_ascii_lowercase (chars bs)
lower-chars bs utf8 =
    let cs = utf8.0 in
    let low = all-lowered cs utf8.1.0 in
    ap (λ (l : List ℕ). chars (map to_ascii_lowercase l)) (sym utf8.1.1)
    ∙ ap chars low.spelled
    ∙ chars-encodes (map to_ascii_lowercase cs) low.scalars
    ∙ ap (map to_ascii_lowercase) (sym (chars-encodes cs utf8.1.0) ∙ ap chars utf8.1.1)

lower-found : (p : ℕ → Bool) (cs : List ℕ) → option_map to_ascii_lowercase (find (λ c. p (to_ascii_lowercase c)) cs) ≡ find p (map to_ascii_lowercase cs)
lower-found p [] = refl
lower-found p (c ∷ cs) =
    elim (cases_Bool (p (to_ascii_lowercase c))) [
      | inl e ↦ rw e refl
      | inr e ↦ rw e (lower-found p cs)
    ]

lower-first : (cs : List ℕ) → option_map to_ascii_lowercase (slice_get cs 0) ≡ slice_get (map to_ascii_lowercase cs) 0
lower-first [] = refl
lower-first (c ∷ cs) = refl

pub lower-fault : (text : List ℕ) → IsUtf8 text → fault_of (length text) (option_map to_ascii_lowercase (slice_get (chars text) 0)) (option_map to_ascii_lowercase (find (λ c. not (is_later (to_ascii_lowercase c))) (chars text)))
    ≡ tag_fault (map to_ascii_lowercase text)
unfolding tag_fault
lower-fault text utf8 =
    rw (lower-chars text utf8, length-map text to_ascii_lowercase, lower-first (chars text), lower-found (λ c. not (is_later c)) (chars text)) refl

lowered : (bs : List ℕ) → IsUtf8 bs → IsUtf8 (map to_ascii_lowercase bs)
lowered bs utf8 =
    let low = all-lowered utf8.0 utf8.1.0 in
    (map to_ascii_lowercase utf8.0, (low.scalars, sym low.spelled ∙ ap (map to_ascii_lowercase) utf8.1.1))

pub lower-tag : (text : List ℕ) → IsUtf8 text → tag_fault (map to_ascii_lowercase text) ≡ None → IsTag (map to_ascii_lowercase text)
lower-tag text utf8 none = no_fault-tag (map to_ascii_lowercase text) (lowered text utf8) none

pub ruleset lower_faults = (lower-fault)

pub ruleset lower_tags = (lower-tag)
