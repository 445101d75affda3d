-- The values of parameters, and of attributes of executions and queries.
use Rattle.std.specs.Prelude.{◌≡◌, ℕ, ◌==◌, Bool, true, false, List, [], ◌∷◌, Option, Some, None, Result, Ok, Err, if◌then◌else◌}
use Rattle.mysql_wire.specs.declared.codes.column_type.ColumnType.{ColumnType}
use Rattle.mysql_wire.specs.declared.codes.column_type.ColumnType.TheVariants as column
use Rattle.mysql_wire.specs.Form.{Form, map, either, looking}
use Rattle.mysql_wire.specs.Spelling.{IsSpelling}
use Rattle.mysql_values.specs.declared.date_time_with_offset.DateTimeWithOffset.{DateTimeWithOffset}
use Rattle.mysql_values.specs.declared.param_type.ParamType.{ParamType}
use Rattle.mysql_values.specs.declared.param_value.ParamValue.{ParamValue}
use Rattle.mysql_values.specs.declared.param_value.ParamValue.TheVariants as param
use Rattle.mysql_values.specs.declared.typed_value.TypedValue.{TypedValue}
use Rattle.mysql_values.specs.declared.typed_value.TypedValue.TheVariants as typed
use Rattle.mysql_values.specs.declared.value_kind.ValueKind.{ValueKind}
use Rattle.mysql_values.specs.declared.value_kind.ValueKind.TheVariants as kind
use Rattle.mysql_values.specs.DateTimeWithOffset.{date_with_offset, DateWithOffsetFits}
use Rattle.mysql_values.specs.ReadingBack.{IsInRange}
use Rattle.mysql_values.specs.TypedValue.{is_unsigned_type, kind_read, kind_spelled, kind_typed}
use Rattle.mysql_values.specs.Value.{Content, NULL}
use Rattle.mysql_values.specs.ValueDeserializer.{date_value, value_of_kind}
use Rattle.mysql_values.specs.ValueKind.{kind_of}
use Rattle.mysql_values.specs.ValueRef.{ref_content}

-- what a parameter contains, borrowed or not
pub data ParamContent : Type 0 where
  Plain : Content → ParamContent
  WithOffset : DateTimeWithOffset → ParamContent

abbrev pub param_content : ParamValue → ParamContent
param_content (param.Value value) = Plain (ref_content value)
param_content (param.DateTimeWithOffset date) = WithOffset date

-- what a parameter that was read contains
abbrev pub param_contents : {E : Type 0} → Result ParamValue E → Result ParamContent E
param_contents (Ok v) = Ok (param_content v)
param_contents (Err e) = Err e

-- ---- the types

abbrev pub or_string : ValueKind → ValueKind
or_string kind.Unsupported = kind.String
or_string k = k

-- the values of a parameter of each type: those of rows, but INT24, YEAR and the reserved types are strings
abbrev pub param_kind : ColumnType → ValueKind
param_kind column.MYSQL_TYPE_INT24 = kind.String
param_kind column.MYSQL_TYPE_YEAR = kind.String
param_kind t = or_string (kind_of t)

abbrev pub kind_under : ParamType → ValueKind
kind_under t = param_kind t.column_type

-- ---- the grammar

-- the next byte is the length of a date with an offset
abbrev pub starts_with_offset : List ℕ → Bool
starts_with_offset [] = false
starts_with_offset (length ∷ rest) = length == 13

-- a date with a UTC offset, which has length 13, or a date of another length
unfoldable pub date_time_param : Form ParamContent
date_time_param = looking (λ bytes. either (starts_with_offset bytes) (map WithOffset (date_with_offset.form tt)) (map Plain date_value))

-- dates with a time may have an offset; all other values have the form that they have in rows
abbrev pub param_of_kind : ValueKind → (is_unsigned : Bool) → Form ParamContent
param_of_kind kind.DateTime u = date_time_param
param_of_kind k u = map Plain (value_of_kind k u)

-- the form of a parameter's value, by its type
abbrev pub param_value : ParamType → Form ParamContent
param_value t = param_of_kind (kind_under t) (is_unsigned_type t)

-- ---- bytes

abbrev pub has_offset : ValueKind → Bool
has_offset kind.DateTime = true
has_offset _ = false

-- the bytes of a value under a type; none if the type can't encode the value
abbrev pub param_spelled : ParamType → ParamContent → Option (List ℕ)
param_spelled t (Plain value) = kind_spelled (kind_under t) (is_unsigned_type t) value
param_spelled t (WithOffset date) = if has_offset (kind_under t) then Some (date_with_offset.bytes date) else None

-- the variant that contains the value under a type
abbrev pub param_typed : ParamType → ParamValue → Option TypedValue
param_typed t (param.Value value) = kind_typed (kind_under t) (is_unsigned_type t) value
param_typed t (param.DateTimeWithOffset date) = if has_offset (kind_under t) then Some (typed.WithOffset date) else None

-- ---- how they are read

-- a value, as it is read under a type
abbrev pub param_read_under : ParamType → ParamContent → ParamContent
param_read_under t (Plain value) = Plain (kind_read (kind_under t) (is_unsigned_type t) value)
param_read_under t (WithOffset date) = WithOffset date

-- numbers within their widths
abbrev pub ParamIsInRange : ParamContent → Type 0
ParamIsInRange (Plain value) = IsInRange value
ParamIsInRange (WithOffset date) = DateWithOffsetFits date

-- the bytes are read as the value under its type, whatever follows; NULL is not read
abbrev pub ParamReadsUnder : ParamType → ParamContent → List ℕ → Type 0
ParamReadsUnder t (Plain NULL) bytes = bytes ≡ []
ParamReadsUnder t value bytes = IsSpelling (param_value t) (param_read_under t value) bytes
