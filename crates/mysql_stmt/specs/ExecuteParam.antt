-- What an execution sends for its parameters and attributes.
use Rattle.std.specs.Prelude.{ℕ, Bool, true, false, if◌then◌else◌, List, [], map}
use Rattle.mysql_values.specs.DateTimeWithOffset.{date_with_offset}
use Rattle.mysql_values.specs.ParamValue.{ParamContent, Plain, WithOffset, param_content}
use Rattle.mysql_values.specs.Value.{Content, NULL, Bytes, Date, bin, date_of}
use Rattle.mysql_values.specs.declared.date_time_with_offset.DateTimeWithOffset.{DateTimeWithOffset}
use Rattle.mysql_values.specs.declared.value_ref.ValueRef.{ValueRef}
use Rattle.mysql_values.specs.ValueRef.{ref_content}
use Rattle.mysql_stmt.specs.declared.execute_param.ExecuteParam.{ExecuteParam}
use Rattle.mysql_stmt.specs.declared.execute_param.ExecuteParam.TheVariants as param
use Rattle.mysql_stmt.specs.declared.execute_param.QueryAttribute.{QueryAttribute}

-- a parameter that is sent, or was sent as long data; or a raw one: whether its bit in the NULL bitmap is set, and the bytes of its value
pub data Param : Type 0 where
  Sent : ParamContent → Param
  SentAhead : Param
  AsSent : Bool → List ℕ → Param

abbrev pub param_of : ExecuteParam → Param
param_of (param.Value value) = Sent (Plain (ref_content value))
param_of (param.DateTimeWithOffset date) = Sent (WithOffset date)
param_of param.SentAhead = SentAhead
param_of (param.AsSent has_null_bit bytes) = AsSent has_null_bit bytes.now

-- a value that is sent
abbrev pub ref_param : ValueRef → Param
ref_param value = Sent (Plain (ref_content value))

-- the date without its offset
abbrev pub date_alone : DateTimeWithOffset → Content
date_alone d = Date (date_of d.year d.month d.day d.hour d.minute d.second d.micros)

-- the value whose type is sent: long data counts as a byte string, and a date with an offset as a date; a raw one is NULL if its bit is
-- set, otherwise a byte string
abbrev pub value_of : Param → Content
value_of (Sent (Plain value)) = value
value_of (Sent (WithOffset date)) = date_alone date
value_of SentAhead = Bytes []
value_of (AsSent true bytes) = NULL
value_of (AsSent false bytes) = Bytes bytes

-- the bytes of a value, except for a byte string
abbrev pub short : Content → List ℕ
short (Bytes bytes) = []
short value = bin value

-- the bytes sent for a value: none for a byte string that is sent as long data
abbrev pub sent : Bool → Content → List ℕ
sent as_long_data value = if as_long_data then short value else bin value

-- the bytes of its value: byte strings that are sent as long data are left out; a raw one keeps its bytes
abbrev pub param_bytes : Bool → Param → List ℕ
param_bytes as_long_data (Sent (Plain value)) = sent as_long_data value
param_bytes as_long_data (Sent (WithOffset date)) = date_with_offset.bytes date
param_bytes as_long_data SentAhead = []
param_bytes as_long_data (AsSent has_null_bit bytes) = bytes

module _ {V : Type 0} (param : V → Param) where
  abbrev pub contents : List V → List Content
  contents params = map (λ p. value_of (param p)) params

-- what an attribute contains
abbrev pub attribute_param : QueryAttribute → Param
attribute_param a = Sent (param_content a.value)
