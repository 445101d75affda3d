-- Only a string of at least one byte is allocated.
use Rattle.std.proofs.Common.{◌≡◌, ℕ, ℤ, List, Bool, true, false, Ok, Err, IsTrue, refl}
use Rattle.std.specs.Int.{w8, w16, w32}
use Rattle.mysql_wire.specs.Reading.{Reading, then_read}
use Rattle.mysql_wire.specs.Form.{number, map, bytes}
use Rattle.mysql_wire.specs.Flags.{ColumnFlags}
use Rattle.mysql_wire.specs.declared.codes.column_type.ColumnType.{ColumnType}
use Rattle.mysql_values.specs.declared.value_kind.ValueKind.{ValueKind}
use Rattle.mysql_values.specs.declared.value_kind.ValueKind.TheVariants as kind
use Rattle.mysql_values.specs.Value.{Content, NULL, Int, Float, Double, Date, Time}
use Rattle.mysql_values.specs.Temporal.{date_time, time_span}
use Rattle.mysql_values.specs.ValueKind.{kind_of, is_string, is_string_kind}
use Rattle.mysql_values.specs.ValueDeserializer.{bin_value, has_bytes, integer_of, long_integer_of, reads_bytes, starts_null, null_text, text_value, value_in_column, value_of_kind}

no_bytes : {A : Type 0} (make : A → Content) (read : Reading A) → ((x : A) → has_bytes (make x) ≡ false) → reads_bytes (then_read read (λ x rest. Ok (make x, rest))) ≡ false
no_bytes make (Ok x) none = none x.0
no_bytes make (Err e) none = refl

long_has_none : (u : Bool) (n : ℕ) → has_bytes (long_integer_of u n) ≡ false
long_has_none true n = refl
long_has_none false n = refl

short_has_none : (type_width : ℕ) (value : ℕ → ℤ) (bytes : List ℕ) → reads_bytes ((map (λ n. Int (value n)) (number type_width)).reads bytes) ≡ false
short_has_none width value bytes = no_bytes (λ n. Int (value n)) ((number width).reads bytes) (λ n. refl)

date_has_none : (bytes : List ℕ) → reads_bytes ((map Date date_time).reads bytes) ≡ false
date_has_none bytes = no_bytes Date (date_time.reads bytes) (λ t. refl)

only_strings : (k : ValueKind) (u : Bool) (bytes : List ℕ) → is_string_kind k ≡ false → reads_bytes ((value_of_kind k u).reads bytes) ≡ false
only_strings kind.String u bytes e = absurd cc
only_strings kind.Tiny u bytes e = short_has_none 1 (integer_of w8 u) bytes
only_strings kind.Short u bytes e = short_has_none 2 (integer_of w16 u) bytes
only_strings kind.Long u bytes e = short_has_none 4 (integer_of w32 u) bytes
only_strings kind.LongLong u bytes e = no_bytes (long_integer_of u) ((number 8).reads bytes) (long_has_none u)
only_strings kind.Float u bytes e = no_bytes Float ((number 4).reads bytes) (λ n. refl)
only_strings kind.Double u bytes e = no_bytes Double ((number 8).reads bytes) (λ n. refl)
only_strings kind.Date u bytes e = date_has_none bytes
only_strings kind.DateTime u bytes e = date_has_none bytes
only_strings kind.Time u bytes e = no_bytes Time (time_span.reads bytes) (λ t. refl)
only_strings kind.Null u bytes e = refl
only_strings kind.Unsupported u bytes e = refl

is_string_of : (type : ColumnType) (u : Bool) (bytes : List ℕ) (b : Bool) → is_string type ≡ b → reads_bytes ((bin_value type u).reads bytes) ≡ true → b ≡ true
is_string_of type u bytes true is h = refl
is_string_of type u bytes false is h = let none = only_strings (kind_of type) u bytes is in absurd cc

pub memory-binary : (column : ColumnType × ColumnFlags) (bytes : List ℕ) → IsTrue (reads_bytes ((value_in_column column).reads bytes)) → IsTrue (is_string column.0)
memory-binary column bytes h = is_string_of column.0 _ bytes (is_string column.0) refl h

null_has_none : (front : List ℕ) (b : Bool) → starts_null front ≡ b → reads_bytes (text_value.reads front) ≡ true → b ≡ false
unfolding text_value
null_has_none front false is h = refl
null_has_none front true is h =
    let none = no_bytes {A = List ℕ} (λ _. NULL) ((bytes 1).reads front) (λ x. refl) in
    let read : reads_bytes (null_text.reads front) ≡ true = rw is at h in
    absurd cc

pub memory-text : (front : List ℕ) → IsTrue (reads_bytes (text_value.reads front)) → starts_null front ≡ false
memory-text front h = null_has_none front (starts_null front) refl h

pub ruleset memory = (memory-binary, memory-text)
