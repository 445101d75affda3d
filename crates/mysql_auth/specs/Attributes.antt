-- Connection attributes: keys with their values, each key once, in order of their first occurrence.
use Rattle.std.specs.Prelude.{◌≡◌, ℕ, ◌<◌, ◌≤◌, ◌^◌, Bool, ◌&&◌, nat_eq, List, [], ◌∷◌, ◌++◌, length, map, string_bytes, Option, Some, None, refl}
use Rattle.std.specs.Cmp.{IsPartialEquivalence, IsEquivalence, and_per, on_per, and_equiv, on_equiv, partial_equiv_from_equiv}
use Rattle.std.specs.Cmp.Lexicographic.{pointwise, nat_list_eq_equiv}
use Rattle.std.specs.List.{flat_map}
use Rattle.std.specs.Global.{Global}
use Rattle.std.specs.declared.string.String.{String}
use Rattle.indexmap.specs.IndexMap.{insert_all}
use Rattle.mysql_wire.specs.Again.{lenenc_string-again}
use Rattle.mysql_wire.specs.Codec.{Codec, Fields}
use Rattle.mysql_wire.specs.CodecAgain.{some-lenenc, some-then, many-again}
use Rattle.mysql_wire.specs.CodecFits.{each_fits}
use Rattle.mysql_wire.specs.Codecs.{◌>>=◌, give, field, packet, string_lenenc}
use Rattle.mysql_wire.specs.Form as form
use Rattle.mysql_wire.specs.LenEnc.{lenenc_string, lenenc_string_bytes, lenenc_bytes}
use Rattle.mysql_wire.specs.Many.{many}
use Rattle.mysql_wire.specs.Text.{lossy_text}
use Rattle.std.proofs.Common.{arith}
use Rattle.std.proofs.lemmas.List.{append-nil, length-append}

abbrev pub Attribute : Type 0
Attribute = List ℕ × List ℕ

-- The pairs inserted into a map in order: an existing key keeps its place and takes the new value; a new key goes last.
abbrev pub merged : List Attribute → List Attribute
merged pairs = insert_all (pointwise nat_eq) [] pairs

-- the same key with the same value
abbrev pub attribute_eq : Attribute → Attribute → Bool
attribute_eq p q = pointwise nat_eq p.0 q.0 && pointwise nat_eq p.1 q.1

pub attribute_per : IsPartialEquivalence attribute_eq
attribute_per = let texts = partial_equiv_from_equiv nat_list_eq_equiv in and_per (on_per (λ p. p.0) texts) (on_per (λ p. p.1) texts)

pub attribute_equiv : IsEquivalence attribute_eq
attribute_equiv = and_equiv (on_equiv (λ p. p.0) nat_list_eq_equiv) (on_equiv (λ p. p.1) nat_list_eq_equiv)

-- the bytes of a pair of texts
abbrev pub text_pair : String Global × String Global → Attribute
text_pair p = (string_bytes p.0, string_bytes p.1)

-- a pair as texts, with U+FFFD for bytes that are not UTF-8
abbrev pub lossy_pair : Attribute → Attribute
lossy_pair p = (lossy_text p.0, lossy_text p.1)

-- the pairs as texts: if two keys become the same text, it keeps the first place and takes the later value
abbrev pub lossy_pairs : List Attribute → List Attribute
lossy_pairs pairs = merged (map lossy_pair pairs)

-- ---- the layout

-- a key and its value, each length-encoded
abbrev pub attribute_fields : Fields (Unit {0}) Attribute Attribute
attribute_fields = do
  key ← field (λ p. p.0) string_lenenc
  value ← field (λ p. p.1) string_lenenc
  give (key, value)

unfoldable pub attribute : Codec (Unit {0}) Attribute
attribute = packet attribute_fields (λ p. refl)

pub size-attribute : (attribute.form tt).size ≡ None
unfolding attribute
size-attribute = refl

some-attribute : (p : Attribute) → 0 < attribute.len p
unfolding attribute
some-attribute p = some-then _ (some-lenenc p.0)

-- the content: pairs up to the end
abbrev pub pairs_bytes : List Attribute → List ℕ
pairs_bytes pairs = flat_map attribute.bytes pairs

abbrev pub pairs : form.Form (List Attribute)
pairs = form.map merged (many (attribute.form tt))

-- each key occurs once, as in every map, and the total length of the pairs is below 2^64
pub record AttributesFit (attributes : List Attribute) : Type 0 where
  pub once : merged attributes ≡ attributes
  pub short : length (pairs_bytes attributes) < 2 ^ 64

-- the latter alone: what remains to be shown for given attributes
abbrev pub AreShort : List Attribute → Type 0
AreShort attributes = length (pairs_bytes attributes) < 2 ^ 64

abbrev pub AreShortIn : Option (List Attribute) → Type 0
AreShortIn None = Unit {0}
AreShortIn (Some attributes) = AreShort attributes

string-within : (content : List ℕ) → length content ≤ length (lenenc_string_bytes content)
unfolding lenenc_string_bytes
string-within content = omega (arith, length-append (lenenc_bytes (length content)) content)

-- the length of each key and value is below 2^64, too
each-short : (attributes : List Attribute) → length (pairs_bytes attributes) < 2 ^ 64 → each_fits attribute tt attributes []
unfolding attribute
each-short [] short = tt
each-short (p ∷ attributes) short =
    let value = lenenc_string_bytes p.1 ++ [] in
    let pair = length-append (lenenc_string_bytes p.0) value in
    let all = length-append (lenenc_string_bytes p.0 ++ value) (pairs_bytes attributes) in
    let later = length-append (lenenc_string_bytes p.1) [] in (
      (omega (arith, short, pair, all, string-within p.0), (omega (arith, short, pair, all, later, string-within p.1), tt)),
      each-short attributes (omega (arith, short, pair, all)),
    )

inside-again : (attributes : List Attribute) → AreShort attributes → (many (attribute.form tt)).Spells attributes (pairs_bytes attributes) []
inside-again attributes short = rw append-nil at (many-again attribute some-attribute tt attributes [] (refl, each-short attributes short))

pub attributes-again : (attributes : List Attribute) (rest : List ℕ) → AttributesFit attributes
    → (form.within lenenc_string pairs).Spells attributes (lenenc_string_bytes (pairs_bytes attributes) ++ rest) rest
attributes-again attributes rest h =
    (pairs_bytes attributes, lenenc_string-again (pairs_bytes attributes) h.short rest, (attributes, h.once, inside-again attributes h.short))

pub as_sent-again : (attributes : List Attribute) (rest : List ℕ) → AreShort attributes
    → (form.within lenenc_string (many (attribute.form tt))).Spells attributes (lenenc_string_bytes (pairs_bytes attributes) ++ rest) rest
as_sent-again attributes rest short = (pairs_bytes attributes, lenenc_string-again (pairs_bytes attributes) short rest, inside-again attributes short)

-- the total length of the pairs, length-encoded, and the pairs in that many bytes
unfoldable pub attributes : Codec (Unit {0}) (List Attribute)
attributes = record {
  form = λ c. form.within lenenc_string pairs;
  bytes = λ attributes. lenenc_string_bytes (pairs_bytes attributes);
  len = λ attributes. length (lenenc_string_bytes (pairs_bytes attributes));
  fits = λ c attributes rest. AttributesFit attributes;
  exact = λ c attributes rest h. refl;
  again = λ c attributes rest h. attributes-again attributes rest h;
}

-- the same, each pair as it was sent: a key may be repeated
unfoldable pub attributes_as_sent : Codec (Unit {0}) (List Attribute)
attributes_as_sent = record {
  form = λ c. form.within lenenc_string (many (attribute.form tt));
  bytes = λ attributes. lenenc_string_bytes (pairs_bytes attributes);
  len = λ attributes. length (lenenc_string_bytes (pairs_bytes attributes));
  fits = λ c attributes rest. AreShort attributes;
  exact = λ c attributes rest h. refl;
  again = λ c attributes rest h. as_sent-again attributes rest h;
}

pub size-attributes : (attributes.form tt).size ≡ None
unfolding attributes lenenc_string
size-attributes = refl
