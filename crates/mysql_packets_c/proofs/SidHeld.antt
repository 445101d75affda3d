-- The sids of structs.
use Rattle.std.proofs.Common.{◌≡◌, ℕ, ◌≤◌, List, [], ◌∷◌, length, take, Some, None, refl, sym, ap, ◌∙◌, arith}
use Rattle.std.proofs.lemmas.Bool.{le-leb}
use Rattle.std.specs.Str.{IsUtf8}
use Rattle.mysql_repl.proofs.Tags.{bytes-not_utf8, bytes-fault, bytes-tag, nothing}
use Rattle.mysql_repl.specs.Tag.{IsTag, tag_fault}
use Rattle.mysql_repl.specs.TagString.{tag_of, tag_of-tag, tag-short}
use Rattle.mysql_repl.specs.declared.tag.InvalidTag.{InvalidTag}
use Rattle.mysql_packets_c.specs.Sid.{tag_held, tag_in}
use Rattle.mysql_packets_c.specs.declared.sid.CSid.{CSid}

-- ---- a tag among bytes

pub held-none : (bytes : List ℕ) → length bytes ≡ 0 → tag_of bytes ≡ Some None
unfolding tag_of
held-none [] h = refl
held-none (b ∷ bytes) h = absurd (omega (arith, h))

pub held-not_utf8 : (bytes : List ℕ) → (length bytes ≡ 0 → ⊥) → (IsUtf8 bytes → ⊥) → tag_of bytes ≡ None
held-not_utf8 [] some h = absurd (some refl)
held-not_utf8 (b ∷ bytes) some h = bytes-not_utf8 b bytes h

pub held-fault : (bytes text : List ℕ) (fault : InvalidTag) → (length bytes ≡ 0 → ⊥) → text ≡ bytes → tag_fault text ≡ Some fault → tag_of bytes ≡ None
held-fault [] text fault some same h = absurd (some refl)
held-fault (b ∷ bytes) text fault some same h = bytes-fault b bytes fault (rw same at h)

pub held-tag : (bytes text tag : List ℕ) → (length bytes ≡ 0 → ⊥) → IsUtf8 bytes → text ≡ bytes → tag ≡ text → tag_fault text ≡ None → tag_of bytes ≡ Some (Some tag)
held-tag [] text tag some utf8 same is h = absurd (some refl)
held-tag (b ∷ bytes) text tag some utf8 same is h = bytes-tag b bytes utf8 (rw same at h) ∙ ap (λ (t : List ℕ). Some (Some t)) (sym (is ∙ same))

-- a tag is not empty
pub tag-place : (text : List ℕ) → IsTag text → tag_in text ≡ Some text
tag-place [] h = absurd (nothing h)
tag-place (b ∷ bytes) h = refl

pub ruleset tag_places = (tag-place)

-- ---- a tag that is written

pub tag-put : (out : CSid) (tag : List ℕ) → IsTag tag → out.tag_length ≡ length tag → take (length tag) out.tag ≡ tag → tag_held out ≡ Some (Some tag)
unfolding tag_held
tag-put out tag h len bytes =
    rw (len, le-leb (length tag) 32 (tag-short tag h), bytes) (tag_of-tag tag h)

pub no-tag-put : (out : CSid) (n : ℕ) → out.tag_length ≡ n → n ≡ 0 → tag_held out ≡ Some None
unfolding tag_held tag_of
no-tag-put out n len none = rw (len, none) refl

pub tag-fits : (tag : List ℕ) → IsTag tag → length tag ≤ 32
tag-fits tag h = tag-short tag h

pub ruleset tags_put = (tag-put, no-tag-put, tag-fits)
