-- The uuid of a text has sixteen bytes.
use Rattle.std.proofs.Common.{◌≡◌, ℕ, ◌+◌, ◌*◌, ◌<◌, ◌==◌, List, length, get_or, Option, Some, None, Bool, true, false, ◌&&◌, slice_index, take, drop, if◌then◌else◌, refl, subst, arith}
use Rattle.std.specs.List.{All, list_all}
use Rattle.std.specs.Option.{IfSome}
use Rattle.std.proofs.lemmas.Bool.{eqb-true, and_parts}
use Rattle.std.proofs.lemmas.Bool.Decides.{nat_tests}
use Rattle.std.proofs.lemmas.List.Elements.{All-from_get_or}
use Rattle.std.proofs.lemmas.List.Sums.{AllPass-from_list_all}
use Rattle.uuid.proofs.TextLemmas.{by_index_length, by_index_at}
use Rattle.uuid.specs.Text.{by_index, is_hex_digit, value_of, byte_of_digits, digits_of, parsed_simple, parsed_hyphenated, parsed_braced, parsed_urn, parsed}

pub record IsUuid (id : List ℕ) : Type 0 where
  pub size : length id ≡ 16
  pub bytes : All (λ b. b < 256) id

-- ---- choices

where-true : {A : Type 0} (P : A → Type 0) (t : Bool) (x : A) → (t ≡ true → P x) → IfSome (if t then Some x else None) P
where-true P true x h = h refl
where-true P false x h = tt

only-if : {A : Type 0} (P : A → Type 0) (t : Bool) (o : Option A) → IfSome o P → IfSome (if t then o else None) P
only-if P true o h = h
only-if P false o h = tt

either-way : {A : Type 0} (P : A → Type 0) (t : Bool) (x y : Option A) → IfSome x P → IfSome y P → IfSome (if t then x else y) P
either-way P true x y h k = h
either-way P false x y h k = k

-- ---- the digits

digit-small : (c : ℕ) → is_hex_digit c ≡ true → value_of c < 16
digit-small c h = grind (arith, nat_tests)

byte-small : (hex : List ℕ) (k : ℕ) → length hex ≡ 32 → list_all is_hex_digit hex ≡ true → k < 16 → byte_of_digits hex k < 256
byte-small hex k size all below =
    let digits = AllPass-from_list_all is_hex_digit hex all in
    let high : value_of (slice_index hex (2 * k)) < 16 = digit-small (slice_index hex (2 * k)) (digits (2 * k) 0 (omega (arith, size, below))) in
    let low : value_of (slice_index hex (2 * k + 1)) < 16 = digit-small (slice_index hex (2 * k + 1)) (digits (2 * k + 1) 0 (omega (arith, size, below))) in
    omega (arith, high, low)

made : (hex : List ℕ) → ((length hex == 32) && list_all is_hex_digit hex) ≡ true → IsUuid (by_index 16 (byte_of_digits hex))
made hex h =
    let p = and_parts (length hex == 32) (list_all is_hex_digit hex) h in
    let f = byte_of_digits hex in
    let size = by_index_length 16 f in
    let each : (i : ℕ) → i < length (by_index 16 f) → get_or (by_index 16 f) i 0 < 256 =
    λ i lt. let below : i < 16 = omega (arith, size, lt) in rw (by_index_at 16 f i 0 below) (byte-small hex i (eqb-true _ 32 p.0) p.1 below) in
    record { size = size; bytes = All-from_get_or (λ b. b < 256) (by_index 16 f) 0 each }

-- ---- the forms

simple-is : (hex : List ℕ) → IfSome (parsed_simple hex) IsUuid
simple-is hex = where-true IsUuid ((length hex == 32) && list_all is_hex_digit hex) (by_index 16 (byte_of_digits hex)) (made hex)

hyphenated-is : (text : List ℕ) → IfSome (parsed_hyphenated text) IsUuid
hyphenated-is text = only-if IsUuid _ (parsed_simple (digits_of text)) (simple-is (digits_of text))

braced-is : (text : List ℕ) → IfSome (parsed_braced text) IsUuid
braced-is text = only-if IsUuid _ (parsed_hyphenated (take 36 (drop 1 text))) (hyphenated-is (take 36 (drop 1 text)))

urn-is : (text : List ℕ) → IfSome (parsed_urn text) IsUuid
urn-is text = only-if IsUuid _ (parsed_hyphenated (drop 9 text)) (hyphenated-is (drop 9 text))

some-is : (text : List ℕ) → IfSome (parsed text) IsUuid
some-is text =
    either-way IsUuid (length text == 32) _ _ (simple-is text) (either-way IsUuid (length text == 36) _ _ (hyphenated-is text)
    (either-way IsUuid (length text == 38) _ _ (braced-is text) (only-if IsUuid (length text == 45) _ (urn-is text))))

pub uuid-is : (text bytes : List ℕ) → parsed text ≡ Some bytes → IsUuid bytes
uuid-is text bytes e = subst (λ (o : Option (List ℕ)). IfSome o IsUuid) e (some-is text)
