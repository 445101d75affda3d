-- An execution, in C.
use Rattle.std.specs.List.{AllZip}
use Rattle.std.specs.Option.{unwrap_or}
use Rattle.std.specs.Prelude.{◌≡◌, ℕ, ◌-◌, ◌==◌, ◌++◌, Bool, false, not, if◌then◌else◌, List, [], drop, length, map, take, Result, Ok, Err}
use Rattle.mysql_stmt.specs.Attributes.{Attribute}
use Rattle.mysql_stmt.specs.BindFront.{BindFront}
use Rattle.mysql_stmt.specs.ExecuteHead as head
use Rattle.mysql_stmt.specs.ExecuteParam.{Param, Sent, SentAhead, AsSent}
use Rattle.mysql_stmt.specs.ExecuteRead.{ParamsBytes, ParamsLeft, TypedParam, bytes_after, execution, execution_front, left_of}
use Rattle.mysql_stmt.specs.SentParam.{type_of_param}
use Rattle.mysql_stmt.specs.SentTypes.{NamedType}
use Rattle.mysql_stmt.specs.declared.execute_head.ComStmtExecuteHead.{ComStmtExecuteHead}
use Rattle.mysql_stmt.specs.declared.execute_view.BoundParam.{BoundParam}
use Rattle.mysql_values.specs.ParamType.{typed}
use Rattle.mysql_values.specs.ParamValue.{ParamContent, Plain, WithOffset}
use Rattle.mysql_values.specs.Value.{Bytes, NULL}
use Rattle.mysql_values.specs.declared.param_type.ParamType.{ParamType}
use Rattle.mysql_wire.specs.ColumnType.{column_type_code, column_type_of}
use Rattle.mysql_wire.specs.FlagMasks.{UNSIGNED}
use Rattle.mysql_wire.specs.Flags.{CapabilityFlags, has}
use Rattle.mysql_wire.specs.Reading.{Reading, Faults}
use Rattle.mysql_wire.specs.declared.codes.column_type.ColumnType.TheVariants as column_type
use Rattle.mysql_wire.specs.declared.fault.FaultOf.{FaultOf}
use Rattle.mysql_packets_c.specs.Code.{kind_code}
use Rattle.mysql_packets_c.specs.Input.{used_of}
use Rattle.mysql_packets_c.specs.Value.{IsSet, SetsFirst, date_with_offset_of, is_offset_date, is_value, param_content, value_content}
use Rattle.mysql_packets_c.specs.declared.execution.CExecution.{CExecution}
use Rattle.mysql_packets_c.specs.declared.execution.CExecutionHead.{CExecutionHead}
use Rattle.mysql_packets_c.specs.declared.execution.CBoundParam.{CBoundParam}
use Rattle.mysql_packets_c.specs.declared.rows.CColumnType.{CColumnType}
use Rattle.mysql_packets_c.specs.declared.value.CValue.{CValue}

-- ---- the head

pub record IsHead (packet : List ℕ) (h : ComStmtExecuteHead) (rest : List ℕ) (out : CExecutionHead) : Type 0 where
  pub statement_id : out.statement_id ≡ head.stmt_id h
  pub iteration_count : out.iteration_count ≡ head.iteration_count h
  pub flags : out.flags ≡ head.cursor_flags h
  pub used : out.used ≡ used_of packet rest

-- ---- what the server knows

abbrev pub is_set : ℕ → Bool
is_set n = not (n == 0)

-- the parameter; a code that is no type stands for a type that no value has
abbrev pub bound_of : CBoundParam → BoundParam
bound_of p = record {
  param_type = typed (unwrap_or (column_type_of p.column_type) column_type.MYSQL_TYPE_CODE_14) (is_set p.is_unsigned);
  is_sent_ahead = is_set p.is_sent_ahead;
}

abbrev pub bound_list : List CBoundParam → List BoundParam
bound_list params = map bound_of params

-- the rest of an execution of these parameters, of which the last ones remain
abbrev pub last_left : ParamsBytes → List CBoundParam → ParamsLeft
last_left sent params = left_of sent (bound_list (drop (length params - sent.left) params))

-- ---- answers

-- long data is returned as NULL, and raw bytes, which this library never reads for a parameter, as a byte string
abbrev pub content_of : Param → ParamContent
content_of (Sent content) = content
content_of SentAhead = Plain NULL
content_of (AsSent has_null_bit bytes) = Plain (Bytes bytes)

abbrev pub type_held : ParamType → CColumnType
type_held t = record { column_type = column_type_code t.column_type; is_unsigned = if has t.flags.0 UNSIGNED then 1 else 0 }

abbrev pub contents_of : List TypedParam → List ParamContent
contents_of params = map (λ p. content_of p.param) params

abbrev pub types_of : List TypedParam → List CColumnType
types_of params = map (λ p. type_held p.named_type.param_type) params

-- what follows the remaining parameters is unchanged
pub record KeepsRest (old new : ParamsLeft) : Type 0 where
  pub end : new.end ≡ old.end
  pub attributes : new.attributes ≡ old.attributes

-- the parameters that were read are in the first elements, with their types; the other elements are unchanged
pub record FillsParams (old new : ParamsLeft) (values_before value_places : List CValue) (types_before type_places : List CColumnType) : Type 0 where
  pub contents : contents_of old.params ≡ map param_content (take (old.left - new.left) value_places) ++ contents_of new.params
  pub types : types_of old.params ≡ take (old.left - new.left) type_places ++ types_of new.params
  pub rest : KeepsRest old new
  pub set : AllZip IsSet (take (old.left - new.left) values_before) (take (old.left - new.left) value_places)
  pub other_values : drop (old.left - new.left) value_places ≡ drop (old.left - new.left) values_before
  pub other_types : drop (old.left - new.left) type_places ≡ drop (old.left - new.left) types_before
  pub value_count : length value_places ≡ length values_before
  pub type_count : length type_places ≡ length types_before

-- the parameters before the first fault: all of them without one
abbrev pub good_after : List BoundParam → Reading BindFront → List TypedParam
good_after params (Ok f) = (left_of (bytes_after (length params) f.0 f.1) params).params
good_after params (Err k) = []

abbrev pub good_params : CapabilityFlags → (flags : ℕ) → List BoundParam → List ℕ → List TypedParam
good_params capabilities flags params bytes = good_after params ((execution_front capabilities flags (length params)).reads bytes)

abbrev pub good_execution : CapabilityFlags → List BoundParam → Reading ComStmtExecuteHead → List TypedParam
good_execution capabilities params (Ok h) = good_params capabilities (head.cursor_flags h.0) params h.1
good_execution capabilities params (Err k) = []

-- these parameters and their types are in the first elements, and the other elements of both arrays are unchanged
pub record FillsGood (good : List TypedParam) (values_before value_places : List CValue) (types_before type_places : List CColumnType) : Type 0 where
  pub contents : map param_content (take (length good) value_places) ≡ contents_of good
  pub types : take (length good) type_places ≡ types_of good
  pub places : SetsFirst (length good) values_before value_places
  pub other_types : drop (length good) type_places ≡ drop (length good) types_before

-- whether the bytes say that types are sent
abbrev pub sends_types : Reading BindFront → ℕ
sends_types (Ok f) = if f.0.sends_types then 1 else 0
sends_types (Err k) = 0

-- the parameters and their types, in the first elements
pub record HoldsParams (params : List TypedParam) (value_places : List CValue) (type_places : List CColumnType) : Type 0 where
  pub contents : map param_content value_places ≡ contents_of params
  pub types : type_places ≡ types_of params

pub record HoldsExecution (packet : List ℕ) (h : ComStmtExecuteHead) (types_sent : ℕ) (list : List Attribute) (rest : List ℕ) (out : CExecution) : Type 0 where
  pub statement_id : out.statement_id ≡ head.stmt_id h
  pub flags : out.flags ≡ head.cursor_flags h
  pub sends_types : out.sends_types ≡ types_sent
  pub attributes : out.attributes ≡ length list
  pub used : out.used ≡ used_of packet rest

-- the parameters and their types, which are in the first elements, and the rest of the answer; or the code of the first fault
abbrev pub ParamsInto : Reading (List TypedParam × List Attribute) → List CValue → List CColumnType → (List Attribute → List ℕ → CExecution → Type 0) → (code : ℕ) (old new : CExecution) → Type 0
ParamsInto (Ok x) values types Holds code old new = (code ≡ 0) × HoldsParams x.0.0 values types × Holds x.0.1 x.1 new
ParamsInto (Err k) values types Holds code old new = (code ≡ kind_code k) × (new ≡ old)

-- the head, followed by the parameters and the attributes
abbrev pub ExecutionInto : CapabilityFlags → List ℕ → List BoundParam → Reading ComStmtExecuteHead → List CValue → List CColumnType → (code : ℕ) (old new : CExecution) → Type 0
ExecutionInto capabilities packet params (Ok h) values types code old new =
    ParamsInto ((execution capabilities (head.cursor_flags h.0) params).reads h.1) values types
    (HoldsExecution packet h.0 (sends_types ((execution_front capabilities (head.cursor_flags h.0) (length params)).reads h.1))) code old new
ExecutionInto capabilities packet params (Err k) values types code old new = (code ≡ kind_code k) × (new ≡ old)

-- the parameters are those that are read, a number of attributes follow, and these bytes are left; or reading has the fault
abbrev pub TakesParams : CapabilityFlags → (flags : ℕ) → List BoundParam → Result (Bool × ℕ × List ℕ) FaultOf → List CValue → List CColumnType → (bytes : List ℕ) → Type 0
TakesParams capabilities flags params (Ok x) values types bytes =
    (list : List TypedParam) × (attributes : List Attribute) × ((execution capabilities flags params).reads bytes ≡ Ok ((list, attributes), x.2))
    × HoldsParams list values types × (length attributes ≡ x.1)
    × (sends_types ((execution_front capabilities flags (length params)).reads bytes) ≡ (if x.0 then 1 else 0))
TakesParams capabilities flags params (Err e) values types bytes = Faults false e ((execution capabilities flags params).reads bytes)

-- ---- writing

-- the parameter of a value. An invalid one would be sent as NULL, and is refused before.
abbrev pub param : CValue → Param
param v = Sent (if is_value v then Plain (value_content v) else if is_offset_date v then WithOffset (date_with_offset_of v) else Plain NULL)

-- it is sent as the type of its kind, without a name
abbrev pub own_type : CValue → NamedType
own_type v = type_of_param (param v)
