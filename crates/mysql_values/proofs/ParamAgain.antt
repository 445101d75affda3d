-- A parameter under a type is read back under it.
use Rattle.std.proofs.Common.{◌≡◌, ℕ, ◌==◌, ◌++◌, List, [], ◌∷◌, Bool, true, false, Some, refl, sym, subst, if◌then◌else◌}
use Rattle.std.proofs.lemmas.Option.{cond_some, same_Some}
use Rattle.mysql_wire.specs.declared.codes.column_type.ColumnType.{ColumnType}
use Rattle.mysql_wire.specs.declared.codes.column_type.ColumnType.TheVariants as column
use Rattle.mysql_wire.specs.Spelling.{IsSpelling}
use Rattle.mysql_wire.specs.Writing.{le_bytes}
use Rattle.mysql_values.specs.declared.date_time_with_offset.DateTimeWithOffset.{DateTimeWithOffset}
use Rattle.mysql_values.specs.declared.param_type.ParamType.{ParamType}
use Rattle.mysql_values.specs.declared.temporal.DateTime.{DateTime}
use Rattle.mysql_values.specs.declared.value_kind.ValueKind.{ValueKind}
use Rattle.mysql_values.specs.declared.value_kind.ValueKind.TheVariants as kind
use Rattle.mysql_values.specs.DateTimeWithOffset.{DateWithOffsetFits, date_with_offset}
use Rattle.mysql_values.specs.ParamValue.{ParamContent, Plain, WithOffset, ParamIsInRange, ParamReadsUnder, date_time_param, has_offset, kind_under, param_of_kind, param_spelled, param_value, starts_with_offset}
use Rattle.mysql_values.specs.ReadingBack.{IsInRange}
use Rattle.mysql_values.specs.Temporal.{clock_bytes, date_time_bytes, day_bytes, is_midnight, is_zero_day}
use Rattle.mysql_values.specs.TypedValue.{is_unsigned_type, kind_read, kind_spelled}
use Rattle.mysql_values.specs.Value.{Content, NULL, Bytes, Int, UInt, Float, Double, Date, Time}
use Rattle.mysql_values.proofs.UnderType.{under-again}

-- a type of rows that has the kind
abbrev column_of : ValueKind → ColumnType
column_of kind.String = column.MYSQL_TYPE_STRING
column_of kind.Tiny = column.MYSQL_TYPE_TINY
column_of kind.Short = column.MYSQL_TYPE_SHORT
column_of kind.Long = column.MYSQL_TYPE_LONG
column_of kind.LongLong = column.MYSQL_TYPE_LONGLONG
column_of kind.Float = column.MYSQL_TYPE_FLOAT
column_of kind.Double = column.MYSQL_TYPE_DOUBLE
column_of kind.Date = column.MYSQL_TYPE_DATE
column_of kind.DateTime = column.MYSQL_TYPE_DATETIME
column_of kind.Time = column.MYSQL_TYPE_TIME
column_of kind.Null = column.MYSQL_TYPE_NULL
column_of kind.Unsupported = column.MYSQL_TYPE_CODE_14

abbrev with_kind : ValueKind → ParamType → ParamType
with_kind k t = record t { column_type = column_of k }

-- ---- dates

lengths_start : (a b c : Bool) (w x y rest : List ℕ)
    → starts_with_offset ((if a then if b then if c then 0 ∷ [] else 4 ∷ w else 7 ∷ x else 11 ∷ y) ++ rest) ≡ false
lengths_start true true true w x y rest = refl
lengths_start true true false w x y rest = refl
lengths_start true false c w x y rest = refl
lengths_start false b c w x y rest = refl

-- no date in a row has the length of a date with an offset
date_starts : (t : DateTime) (rest : List ℕ) → starts_with_offset (date_time_bytes t ++ rest) ≡ false
unfolding date_time_bytes
date_starts t rest =
    lengths_start (t.micros == 0) (is_midnight t.clock) (is_zero_day t.day) (day_bytes t.day) (day_bytes t.day ++ clock_bytes t.clock) (day_bytes t.day ++ clock_bytes t.clock ++ le_bytes 4 t.micros) rest

date-again : (t : ParamType) (date : DateTime) → IsInRange (Date date) → IsSpelling date_time_param (Plain (Date date)) (date_time_bytes date)
unfolding date_time_param
date-again t date fits rest = rw (date_starts date rest) (Date date, refl, under-again (with_kind kind.DateTime t) (Date date) (date_time_bytes date) fits refl rest)

offset-again : (date : DateTimeWithOffset) → DateWithOffsetFits date → IsSpelling date_time_param (WithOffset date) (date_with_offset.bytes date)
unfolding date_time_param date_with_offset
offset-again date fits rest =
    (date, refl, date_with_offset.again tt date rest (tt, (fits.year, (fits.month, (fits.day, (fits.hour, (fits.minute, (fits.second, (fits.micros, (fits.offset, tt))))))))))

-- ---- values in rows

abbrev PlainReads : ValueKind → (is_unsigned : Bool) → Content → List ℕ → Type 0
PlainReads k u NULL bytes = bytes ≡ []
PlainReads k u value bytes = IsSpelling (param_of_kind k u) (Plain (kind_read k u value)) bytes

plain-again : (k : ValueKind) (t : ParamType) (value : Content) (bytes : List ℕ) → IsInRange value → kind_spelled k (is_unsigned_type t) value ≡ Some bytes → PlainReads k (is_unsigned_type t) value bytes
plain-again k t NULL bytes fits e = sym (same_Some [] bytes e)
plain-again kind.DateTime t (Date date) bytes fits e = subst (IsSpelling date_time_param (Plain (Date date))) (same_Some (date_time_bytes date) bytes e) (date-again t date fits)
plain-again kind.DateTime t _ bytes fits e = absurd cc
plain-again k t value bytes fits e = λ rest. (kind_read k (is_unsigned_type t) value, refl, under-again (with_kind k t) value bytes fits e rest)

-- ---- all values

offset-kind : (k : ValueKind) → has_offset k ≡ true → k ≡ kind.DateTime
offset-kind kind.DateTime e = refl
offset-kind _ e = absurd cc

pub param-again : (t : ParamType) (value : ParamContent) (bytes : List ℕ) → ParamIsInRange value → param_spelled t value ≡ Some bytes → ParamReadsUnder t value bytes
param-again t (Plain NULL) bytes fits e = plain-again (kind_under t) t NULL bytes fits e
param-again t (Plain (Bytes x)) bytes fits e = plain-again (kind_under t) t (Bytes x) bytes fits e
param-again t (Plain (Int x)) bytes fits e = plain-again (kind_under t) t (Int x) bytes fits e
param-again t (Plain (UInt x)) bytes fits e = plain-again (kind_under t) t (UInt x) bytes fits e
param-again t (Plain (Float x)) bytes fits e = plain-again (kind_under t) t (Float x) bytes fits e
param-again t (Plain (Double x)) bytes fits e = plain-again (kind_under t) t (Double x) bytes fits e
param-again t (Plain (Date x)) bytes fits e = plain-again (kind_under t) t (Date x) bytes fits e
param-again t (Plain (Time x)) bytes fits e = plain-again (kind_under t) t (Time x) bytes fits e
param-again t (WithOffset date) bytes fits e =
    let is = cond_some (has_offset (kind_under t)) (date_with_offset.bytes date) bytes e in
    let k = offset-kind (kind_under t) is.0 in
    subst (IsSpelling (param_value t) (WithOffset date)) is.1 (rw k (offset-again date fits))
