-- Attributes in C.
use Rattle.std.specs.Cmp.Lexicographic.{pointwise}
use Rattle.std.specs.List.{list_all, list_any}
use Rattle.std.specs.Prelude.{List, [], ◌∷◌, ◌++◌, ℕ, Bool, ◌&&◌, drop, if◌then◌else◌, map, nat_eq, take, ◌≡◌, Ok, Err, Option, None, Some}
use Rattle.std.specs.Str.{is_utf8}
use Rattle.mysql_auth.specs.Attributes.{Attribute, merged}
use Rattle.mysql_wire.specs.Reading.{Reading}
use Rattle.mysql_packets_c.specs.Code.{kind_code}
use Rattle.mysql_packets_c.specs.declared.attributes.CAttribute.{CAttribute}
use Rattle.mysql_packets_c.specs.declared.text.CBytes.{CBytes}

-- name and value
abbrev pub pair_of : CAttribute → Attribute
pair_of a = (a.name.now, a.value.now)

-- both are UTF-8
abbrev pub is_text : CAttribute → Bool
is_text a = is_utf8 a.name.now && is_utf8 a.value.now

abbrev pub are_texts : List CAttribute → Bool
are_texts attributes = list_all is_text attributes

-- each name once, in order of its first place, with its last value
abbrev pub merged_pairs : List CAttribute → List Attribute
merged_pairs attributes = merged (map pair_of attributes)

-- ---- the same, one after another

abbrev pub pairs_of : List CAttribute → List Attribute
pairs_of attributes = map pair_of attributes

-- one of them has the name
abbrev pub has_name : List ℕ → List CAttribute → Bool
has_name name attributes = list_any (λ a. pointwise nat_eq name a.name.now) attributes

-- one of them is a pair with this name
abbrev pub is_named : List ℕ → List Attribute → Bool
is_named name pairs = list_any (λ e. pointwise nat_eq name e.0) pairs

-- the final value of a name, given an earlier one
abbrev pub last_of : (name value : List ℕ) → List Attribute → List ℕ
last_of name value [] = value
last_of name value (p ∷ pairs) = last_of name (if pointwise nat_eq p.0 name then p.1 else value) pairs

-- the pairs whose names did not occur before, each with its last value
abbrev pub firsts : (before pairs : List Attribute) → List Attribute
firsts before [] = []
firsts before (p ∷ pairs) = if is_named p.0 before then firsts (before ++ p ∷ []) pairs else (p.0, last_of p.0 p.1 pairs) ∷ firsts (before ++ p ∷ []) pairs

-- those from an index on
abbrev pub firsts_from : ℕ → List CAttribute → List Attribute
firsts_from place attributes = firsts (pairs_of (take place attributes)) (pairs_of (drop place attributes))

abbrev pub with_pair : Option Attribute → List Attribute → List Attribute
with_pair None pairs = pairs
with_pair (Some p) pairs = p ∷ pairs

-- the first pair, and the bytes after it; or the code of the first fault, and everything is unchanged
abbrev pub NextInto : Reading Attribute → (code : ℕ) (rest_old rest_new name_old name_new value_old value_new : CBytes) → Type 0
NextInto (Ok x) code rest_old rest_new name_old name_new value_old value_new =
    (code ≡ 0) × (name_new.bytes.now ≡ x.0.0) × (value_new.bytes.now ≡ x.0.1) × (rest_new.bytes.now ≡ x.1)
NextInto (Err k) code rest_old rest_new name_old name_new value_old value_new =
    (code ≡ kind_code k) × (rest_new ≡ rest_old) × (name_new ≡ name_old) × (value_new ≡ value_old)
