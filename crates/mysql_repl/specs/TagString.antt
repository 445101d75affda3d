-- An optional tag in the bytes.
use Rattle.std.specs.Prelude.{◌≡◌, ℕ, ◌≤◌, List, [], ◌∷◌, length, Option, Some, None, Bool, true, false, ◌&&◌, map, nat_eq, nat_le, if◌then◌else◌, refl}
use Rattle.std.specs.Char.{to_ascii_lowercase}
use Rattle.std.specs.Cmp.{IsPartialEquivalence, IsEquivalence, on_per, on_equiv, partial_equiv_from_equiv}
use Rattle.std.specs.Cmp.Lexicographic.{pointwise, nat_list_eq_equiv}
use Rattle.std.specs.List.{list_all}
use Rattle.std.proofs.Common.{arith}
use Rattle.std.proofs.lemmas.Bool.{leb-true}
use Rattle.mysql_wire.specs.Form.{Form, decode}
use Rattle.mysql_wire.specs.Spelling.{IsSpelling}
use Rattle.mysql_wire.specs.Codec.{Codec}
use Rattle.mysql_wire.specs.Codecs.{leaf}
use Rattle.mysql_wire.specs.Varlen.{varlen_string, varlen_string_bytes}
use Rattle.mysql_wire.specs.Varlen.Again.{varlen_string-again}
use Rattle.mysql_repl.specs.Tag.{is_tag, IsTag, is_first, is_later}

-- the texts are the same tag in lower case
abbrev pub same_tag : List ℕ → List ℕ → Bool
same_tag one other = pointwise nat_eq (map to_ascii_lowercase one) (map to_ascii_lowercase other)

pub same_tag_per : IsPartialEquivalence same_tag
same_tag_per = on_per (map to_ascii_lowercase) (partial_equiv_from_equiv nat_list_eq_equiv)

pub same_tag_equiv : IsEquivalence same_tag
same_tag_equiv = on_equiv (map to_ascii_lowercase) nat_list_eq_equiv

-- no bytes mean no tag; anything else that is not a tag is invalid
unfoldable pub tag_of : List ℕ → Option (Option (List ℕ))
tag_of [] = Some None
tag_of (b ∷ bytes) = if is_tag (b ∷ bytes) then Some (Some (b ∷ bytes)) else None

unfoldable pub tag_form : Form (Option (List ℕ))
tag_form = decode tag_of varlen_string

-- the tag's bytes, or none
abbrev pub tag_bytes : Option (List ℕ) → List ℕ
tag_bytes None = []
tag_bytes (Some tag) = tag

abbrev pub OptionalTag : Option (List ℕ) → Type 0
OptionalTag None = Unit {0}
OptionalTag (Some tag) = IsTag tag

both : (a b : Bool) → (a && b) ≡ true → (a ≡ true) × (b ≡ true)
both true true h = (refl, refl)
both true false h = absurd cc
both false b h = absurd cc

pub tag-short : (text : List ℕ) → IsTag text → length text ≤ 32
unfolding is_tag
tag-short [] h = absurd cc
tag-short (c ∷ cs) h =
    let later : (list_all is_later cs && nat_le (length cs) 31) ≡ true = (both (is_first c) _ h).1 in
    let few : length cs ≤ 31 = leb-true _ _ (both (list_all is_later cs) _ later).1 in
    omega (arith, few)

pub tag_of-tag : (text : List ℕ) → IsTag text → tag_of text ≡ Some (Some text)
unfolding tag_of is_tag
tag_of-tag [] h = absurd cc
tag_of-tag (c ∷ cs) h = rw h refl

pub tag-again : (tag : Option (List ℕ)) → OptionalTag tag → IsSpelling tag_form tag (varlen_string_bytes (tag_bytes tag))
unfolding tag_form tag_of
tag-again None h rest = ([], refl, varlen_string-again [] (omega arith) rest)
tag-again (Some tag) h rest = (tag, tag_of-tag tag h, varlen_string-again tag (omega (arith, tag-short tag h)) rest)

-- a tag after its length, which is 0 if there is none
abbrev pub optional_tag : {C : Type 0} → Codec C (Option (List ℕ))
optional_tag = leaf tag_form (λ tag. varlen_string_bytes (tag_bytes tag)) (λ tag. length (varlen_string_bytes (tag_bytes tag))) OptionalTag (λ tag h. refl) tag-again
