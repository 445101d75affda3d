-- A text has no fault exactly if it is a tag.
use Rattle.std.proofs.Common.{◌≡◌, inl, inr, ℕ, ◌<◌, ◌≤◌, List, [], ◌∷◌, length, slice_get, Option, Some, None, Ok, Err, Bool, true, false, not, cond, ◌&&◌, if◌then◌else◌, nat_lt, nat_le, refl, sym, subst, ◌∙◌, arith}
use Rattle.std.specs.List.{find, list_all}
use Rattle.std.specs.Str.{chars, IsAscii, IsUtf8}
use Rattle.std.proofs.lemmas.Bool.{leb-true, ltb-false, le-ltb, le-leb, and_parts, cases_Bool}
use Rattle.std.proofs.lemmas.Bool.Decides.{nat_tests}
use Rattle.std.proofs.lemmas.Str.{chars-IsAscii, encodes-chars, encodes-IsAscii, IsUtf8-from_ascii}
use Rattle.std.proofs.lemmas.Str.Ascii.{IsAscii-nil, IsAscii-cons}
use Rattle.mysql_wire.specs.Form.{looked_up}
use Rattle.mysql_wire.specs.declared.fault.FaultKind.TheVariants as kind
use Rattle.mysql_repl.specs.declared.tag.InvalidTag.{InvalidTag}
use Rattle.mysql_repl.specs.declared.tag.InvalidTag.TheVariants.{TooLong, InvalidFirstChar}
use Rattle.mysql_repl.specs.Tag.{is_first, is_later, is_tag, IsTag, later_fault, fault_of, tag_fault}
use Rattle.mysql_repl.specs.TagString.{tag_of, tag_of-tag}

later-ascii : (c : ℕ) → is_later c ≡ true → c < 128
later-ascii c h = grind (arith, nat_tests)

pub first-later : (c : ℕ) → is_first c ≡ true → is_later c ≡ true
first-later c h = rw h refl

all-ascii : (cs : List ℕ) → list_all is_later cs ≡ true → IsAscii cs
all-ascii [] h = IsAscii-nil
all-ascii (c ∷ cs) h = let p = and_parts (is_later c) (list_all is_later cs) h in IsAscii-cons c cs (later-ascii c p.0) (all-ascii cs p.1)

pub record TagParts (c : ℕ) (cs : List ℕ) : Type 0 where
  pub first : is_first c ≡ true
  pub later : list_all is_later cs ≡ true
  pub short : length cs ≤ 31

pub tag-parts : (c : ℕ) (cs : List ℕ) → IsTag (c ∷ cs) → TagParts c cs
unfolding is_tag
tag-parts c cs h =
    let p = and_parts (is_first c) (list_all is_later cs && nat_le (length cs) 31) h in
    let q = and_parts (list_all is_later cs) (nat_le (length cs) 31) p.1 in
    record { first = p.0; later = q.0; short = leb-true _ _ q.1 }

pub nothing : IsTag [] → ⊥
unfolding is_tag
nothing h = absurd cc

pub tag-ascii : (text : List ℕ) → IsTag text → IsAscii text
tag-ascii [] h = absurd (nothing h)
tag-ascii (c ∷ cs) h = let p = tag-parts c cs h in IsAscii-cons c cs (later-ascii c (first-later c p.first)) (all-ascii cs p.later)

no_bad : (cs : List ℕ) → list_all is_later cs ≡ true → find (λ c. not (is_later c)) cs ≡ None
no_bad [] h = refl
no_bad (c ∷ cs) h = let p = and_parts (is_later c) (list_all is_later cs) h in rw p.0 (no_bad cs p.1)

fault-none : (n c : ℕ) (bad : Option ℕ) → n ≤ 32 → is_first c ≡ true → bad ≡ None → fault_of n (Some c) bad ≡ None
fault-none n c bad short first e = rw (le-ltb 32 n short, first, e) refl

pub tag-no_fault : (text : List ℕ) → IsTag text → tag_fault text ≡ None
unfolding tag_fault
tag-no_fault [] h = absurd (nothing h)
tag-no_fault (c ∷ cs) h =
    let p = tag-parts c cs h in
    let all : list_all is_later (c ∷ cs) ≡ true = rw (first-later c p.first) p.later in
    let few : length (c ∷ cs) ≤ 32 = omega (arith, p.short) in
    rw (chars-IsAscii (c ∷ cs) (tag-ascii (c ∷ cs) h)) (fault-none (length (c ∷ cs)) c _ few p.first (no_bad (c ∷ cs) all))

-- ---- the other way

pass : (t : Bool) (c : ℕ) (o : Option ℕ) → cond (not t) (Some c) o ≡ None → (t ≡ true) × (o ≡ None)
pass true c o h = (refl, h)
pass false c o h = absurd cc

all-later : (cs : List ℕ) → find (λ c. not (is_later c)) cs ≡ None → list_all is_later cs ≡ true
all-later [] h = refl
all-later (c ∷ cs) h = let p = pass (is_later c) c _ h in rw p.0 (all-later cs p.1)

step : (long first : Bool) (n c : ℕ) (bad : Option ℕ) → (if long then Some (TooLong n) else if first then later_fault bad else Some (InvalidFirstChar c)) ≡ None
    → (long ≡ false) × (first ≡ true) × (bad ≡ None)
step true first n c bad h = absurd cc
step false true n c None h = (refl, refl, refl)
step false true n c (Some b) h = absurd cc
step false false n c bad h = absurd cc

from-chars : (n : ℕ) (cs : List ℕ) → fault_of n (slice_get cs 0) (find (λ c. not (is_later c)) cs) ≡ None → IsAscii cs × (n ≡ length cs → IsTag cs)
unfolding is_tag
from-chars n [] h = absurd cc
from-chars n (c ∷ cs) h =
    let s = step (nat_lt 32 n) (is_first c) n c (find (λ c. not (is_later c)) (c ∷ cs)) h in
    let all : list_all is_later (c ∷ cs) ≡ true = all-later (c ∷ cs) s.2 in
    let p = and_parts (is_later c) (list_all is_later cs) all in
    let few : n ≤ 32 = ltb-false 32 n s.0 in
    (all-ascii (c ∷ cs) all, λ e. rw (s.1, p.1) (le-leb (length cs) 31 (omega (arith, few, e))))

pub no_fault-tag : (text : List ℕ) → IsUtf8 text → tag_fault text ≡ None → IsTag text
unfolding tag_fault
no_fault-tag text utf8 h =
    let p = from-chars (length text) (chars text) h in
    let same : chars text ≡ text = sym (encodes-IsAscii (chars text) p.0) ∙ encodes-chars text utf8 in
    subst IsTag same (p.1 (rw same refl))

-- ---- how the bytes of a tag are read

pub bytes-not_utf8 : (c : ℕ) (cs : List ℕ) → (IsUtf8 (c ∷ cs) → ⊥) → tag_of (c ∷ cs) ≡ None
unfolding tag_of
bytes-not_utf8 c cs h =
    elim (cases_Bool (is_tag (c ∷ cs))) [
      | inl passes ↦ absurd (h (IsUtf8-from_ascii (c ∷ cs) (tag-ascii (c ∷ cs) passes)))
      | inr fails ↦ rw fails refl
    ]

pub bytes-fault : (c : ℕ) (cs : List ℕ) (fault : InvalidTag) → tag_fault (c ∷ cs) ≡ Some fault → tag_of (c ∷ cs) ≡ None
unfolding tag_of
bytes-fault c cs fault h =
    elim (cases_Bool (is_tag (c ∷ cs))) [
      | inl passes ↦ let none : tag_fault (c ∷ cs) ≡ None = tag-no_fault (c ∷ cs) passes in absurd cc
      | inr fails ↦ rw fails refl
    ]

pub bytes-tag : (c : ℕ) (cs : List ℕ) → IsUtf8 (c ∷ cs) → tag_fault (c ∷ cs) ≡ None → tag_of (c ∷ cs) ≡ Some (Some (c ∷ cs))
bytes-tag c cs utf8 h = tag_of-tag (c ∷ cs) (no_fault-tag (c ∷ cs) utf8 h)

-- ---- the result of a tag's reader

pub reads-none : (bytes rest : List ℕ) → length bytes ≡ 0 → looked_up (tag_of bytes) rest ≡ Ok (None, rest)
unfolding tag_of
reads-none [] rest e = refl
reads-none (c ∷ cs) rest e = absurd (omega (arith, e))

pub refuses-not_utf8 : (bytes rest : List ℕ) → (length bytes ≡ 0 → ⊥) → (IsUtf8 bytes → ⊥) → looked_up (tag_of bytes) rest ≡ Err kind.InvalidData
refuses-not_utf8 [] rest some h = absurd (some refl)
refuses-not_utf8 (c ∷ cs) rest some h = rw (bytes-not_utf8 c cs h) refl

pub refuses-fault : (bytes text rest : List ℕ) (fault : InvalidTag) → (length bytes ≡ 0 → ⊥) → text ≡ bytes → tag_fault text ≡ Some fault → looked_up (tag_of bytes) rest ≡ Err kind.InvalidData
refuses-fault [] text rest fault some same h = absurd (some refl)
refuses-fault (c ∷ cs) text rest fault some same h = rw (bytes-fault c cs fault (rw same at h)) refl

pub reads-tag : (bytes text tag rest : List ℕ) → (length bytes ≡ 0 → ⊥) → IsUtf8 bytes → text ≡ bytes → tag ≡ text → tag_fault text ≡ None
    → looked_up (tag_of bytes) rest ≡ Ok (Some tag, rest)
reads-tag [] text tag rest some utf8 same is h = absurd (some refl)
reads-tag (c ∷ cs) text tag rest some utf8 same is h =
    let e : tag ≡ c ∷ cs = is ∙ same in
    rw (bytes-tag c cs utf8 (rw same at h), e) refl

pub ruleset tag_faults = (tag-no_fault, no_fault-tag)
