-- The sizes of the binary forms are the lengths of their bytes.
use Rattle.std.proofs.Common.{◌≡◌, ℕ, ◌+◌, ◌^◌, List, Bool, true, false, length, refl, ◌∙◌, ap, if◌then◌else◌, inl, inr}
use Rattle.std.proofs.lemmas.List.{length-append}
use Rattle.std.proofs.lemmas.Bool.{cases_lt, lt-ltb, le-ltb}
use Rattle.mysql_wire.specs.Writing.{le_bytes}
use Rattle.mysql_wire.specs.LenEnc.{lenenc_bytes, lenenc_string_bytes}
use Rattle.mysql_values.specs.declared.temporal.DateTime.{DateTime}
use Rattle.mysql_values.specs.declared.temporal.TimeSpan.{TimeSpan}
use Rattle.mysql_values.specs.declared.date_time_with_offset.DateTimeWithOffset.{DateTimeWithOffset}
use Rattle.mysql_values.specs.DateTimeWithOffset.{date_with_offset}
use Rattle.mysql_values.specs.Temporal.{day_bytes, date_time_bytes, date_time_size, time_span_bytes, time_span_size}
use Rattle.mysql_values.specs.Value.{Content, NULL, Bytes, Int, UInt, Float, Double, Date, Time, bin, bin_size, length_size}

pub length-lenenc_bytes : (n : ℕ) → length (lenenc_bytes n) ≡ length_size n
unfolding lenenc_bytes le_bytes
length-lenenc_bytes n = elim (cases_lt n 251) [
  | inl one ↦ rw (lt-ltb _ _ one) refl
  | inr le1 ↦ elim (cases_lt n (2 ^ 16)) [
    | inl two ↦ rw (le-ltb _ _ le1, lt-ltb _ _ two) refl
    | inr le2 ↦ elim (cases_lt n (2 ^ 24)) [
      | inl three ↦ rw (le-ltb _ _ le1, le-ltb _ _ le2, lt-ltb _ _ three) refl
      | inr le3 ↦ rw (le-ltb _ _ le1, le-ltb _ _ le2, le-ltb _ _ le3) refl
    ]
  ]
]

pub length-lenenc_string_bytes : (content : List ℕ) → length (lenenc_string_bytes content) ≡ length_size (length content) + length content
unfolding lenenc_string_bytes
length-lenenc_string_bytes content = length-append (lenenc_bytes (length content)) content ∙ ap (λ (n : ℕ). n + length content) (length-lenenc_bytes (length content))

length-if : (b : Bool) (x y : List ℕ) → length (if b then x else y) ≡ (if b then length x else length y)
length-if true x y = refl
length-if false x y = refl

pub length-date_time_bytes : (t : DateTime) → length (date_time_bytes t) ≡ date_time_size t
unfolding date_time_bytes day_bytes le_bytes
length-date_time_bytes t = rw (length-if, length-if, length-if) refl

pub length-time_span_bytes : (t : TimeSpan) → length (time_span_bytes t) ≡ time_span_size t
unfolding time_span_bytes le_bytes
length-time_span_bytes t = rw (length-if, length-if) refl

pub length-bin : (c : Content) → length (bin c) ≡ bin_size c
unfolding le_bytes
length-bin NULL = refl
length-bin (Bytes bytes) = length-lenenc_string_bytes bytes
length-bin (Int n) = refl
length-bin (UInt n) = refl
length-bin (Float bits) = refl
length-bin (Double bits) = refl
length-bin (Date date) = length-date_time_bytes date
length-bin (Time time) = length-time_span_bytes time

pub length-date_with_offset : (d : DateTimeWithOffset) → length (date_with_offset.bytes d) ≡ 14
unfolding date_with_offset le_bytes
length-date_with_offset d = refl

pub ruleset sizes = (length-lenenc_bytes, length-date_time_bytes, length-time_span_bytes, length-bin, length-date_with_offset)
