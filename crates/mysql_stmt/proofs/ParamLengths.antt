-- The length of an execution's parameters.
use Rattle.std.proofs.Common.{◌≡◌, ◌≢◌, ◌+◌, ◌*◌, ◌<◌, ◌≤◌, inl, inr, ◌↔◌, IsTrue, Bool, true, false, ℕ, List, [], ◌∷◌, ◌++◌, length, take, ap, append_assoc, refl, ◌∙◌, arith}
use Rattle.std.specs.List.{flat_map}
use Rattle.std.proofs.lemmas.Bool.{cases_lt}
use Rattle.std.proofs.lemmas.Bool.Decides.{nat_tests}
use Rattle.std.proofs.lemmas.List.{append-nil, length-append, length-map, length-take}
use Rattle.mysql_wire.specs.Writing.{le_bytes}
use Rattle.mysql_values.specs.declared.value.Value.{Value}
use Rattle.mysql_values.specs.Value.{Content, NULL, Bytes, Int, UInt, Float, Double, Date, Time, content_of, contents_of}
use Rattle.mysql_values.proofs.Sizes.{length-bin}
use Rattle.mysql_stmt.specs.Bitmap.{bytes_for}
use Rattle.mysql_stmt.specs.ExecuteParam.{short}
use Rattle.mysql_stmt.specs.ExecuteParams.{params_bytes, sent_values, value_param, values_bytes, where_some, whole_size}
use Rattle.mysql_stmt.specs.NullMarks.{MarksNulls, bitmap_of}
use Rattle.mysql_stmt.specs.Payload.{max_payload}
use Rattle.mysql_stmt.specs.SentParam.{type_bytes, type_of_param, value_bytes}
use Rattle.mysql_stmt.specs.declared.execute_params.ExecuteParams.{ExecuteParams}
use Rattle.mysql_stmt.proofs.PackedBits.{bitmap-long}
use Rattle.mysql_stmt.proofs.SentBytes.{length-sent, length-types, plain-bytes}

-- no value other than a byte string is longer than a time
pub short_small : (value : Content) → length (short value) ≤ 13
unfolding le_bytes
short_small NULL = omega arith
short_small (Bytes bytes) = omega arith
short_small (Int n) = omega arith
short_small (UInt n) = omega arith
short_small (Float bits) = omega arith
short_small (Double bits) = omega arith
short_small (Date date) = rw (length-bin (Date date)) (grind (arith, nat_tests))
short_small (Time time) = rw (length-bin (Time time)) (grind (arith, nat_tests))

short_values : (values : List Value) → length (flat_map (value_bytes true) (sent_values values)) ≤ 13 * length values
short_values [] = omega arith
short_values (v ∷ values) =
    let sent = value_bytes true (record { named_type = type_of_param (value_param v); param = value_param v }) in
    omega (arith, length-append sent (flat_map (value_bytes true) (sent_values values)), ap length (plain-bytes true (value_param v)), short_small (content_of v), short_values values)

length-values_bytes : (nulls : List ℕ) (long : Bool) (values : List Value)
    → length (values_bytes nulls long values) ≡ length nulls + 1 + 2 * length values + length (flat_map (value_bytes long) (sent_values values))
unfolding le_bytes
length-values_bytes nulls long values =
    let all = sent_values values in
    let types = flat_map (type_bytes false) (all ++ []) in
    let sent = flat_map (value_bytes long) all in
    omega (
      arith,
      length-append nulls (le_bytes 1 1 ++ (types ++ (sent ++ []))),
      length-append (le_bytes 1 1) (types ++ (sent ++ [])),
      length-append types (sent ++ []),
      length-append sent [],
      length-types (all ++ []),
      length-append all [],
      length-sent value_param (λ v. type_of_param (value_param v)) values,
    )

some_fit : (bitmap : List ℕ) (values : List Value) (long : Bool)
    → length bitmap ≡ bytes_for 0 (length values)
    → IsTrue long ↔ (max_payload < whole_size values)
    → length values ≤ 65535
    → 10 + length (values_bytes (take 8192 bitmap) long values) ≤ max_payload
some_fit bitmap values true len rule few =
    omega (arith, length-values_bytes (take 8192 bitmap) true values, length-take 8192 bitmap, short_values values)
some_fit bitmap values false len rule few =
    elim (cases_lt max_payload (whole_size values)) [
      | inl past ↦ let sent : IsTrue false = rule.1 past in absurd cc
      | inr fits ↦ omega (
        arith,
        length-values_bytes (take 8192 bitmap) false values,
        length-values_bytes (bitmap_of (contents_of values)) false values,
        length-take 8192 bitmap,
        bitmap-long (contents_of values),
        length-map values content_of,
      )
    ]

pub where_none : {A : Type 0} (values : List A) (bytes : List ℕ) → values ≡ [] → where_some values bytes ≡ []
where_none [] bytes none = refl
where_none (v ∷ values) bytes none = absurd cc

pub where_more : {A : Type 0} (values : List A) (bytes : List ℕ) → values ≢ [] → where_some values bytes ≡ bytes
where_more [] bytes some = absurd (some refl)
where_more (v ∷ values) bytes some = refl

-- with nothing after the last part
pub ruleset whole = (where_none, where_more, append-nil, append_assoc)

where_some_fits : (values : List Value) (bytes : List ℕ) → 10 + length bytes ≤ max_payload → 10 + length (where_some values bytes) ≤ max_payload
where_some_fits [] bytes fits = omega arith
where_some_fits (v ∷ values) bytes fits = fits

-- with at most 65,535 values the request fits a packet
pub params_fit : (p : ExecuteParams) → MarksNulls 0 (contents_of p.values.now) p.bitmap.bytes → IsTrue p.as_long_data ↔ (max_payload < whole_size p.values.now) → length p.values.now ≤ 65535
    → 10 + length (params_bytes p) ≤ max_payload
params_fit p marks rule few =
    where_some_fits p.values.now _ (some_fit p.bitmap.bytes p.values.now p.as_long_data (marks.len ∙ ap (bytes_for 0) (length-map p.values.now content_of)) rule few)
