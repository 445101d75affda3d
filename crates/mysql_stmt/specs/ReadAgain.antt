-- How the parameters and attributes of a written execution are read.
use Rattle.std.specs.Prelude.{◌≡◌, ℕ, ◌+◌, ◌<◌, ◌^◌, ◌&&◌, ◌++◌, Bool, true, false, IsFalse, is_some, List, [], ◌∷◌, length, map, Option, if◌then◌else◌}
use Rattle.std.specs.List.{All}
use Rattle.std.specs.Option.{option_map}
use Rattle.mysql_wire.specs.FlagMasks.{PARAMETER_COUNT_AVAILABLE}
use Rattle.mysql_wire.specs.Flags.{CapabilityFlags, has}
use Rattle.mysql_values.specs.ParamType.{type_flags}
use Rattle.mysql_values.specs.ParamValue.{ParamIsInRange, param_content, param_read_under}
use Rattle.mysql_values.specs.declared.param_type.ParamType.{ParamType}
use Rattle.mysql_stmt.specs.Attributes.{Attribute}
use Rattle.mysql_stmt.specs.ExecuteHead.{cursor_flags}
use Rattle.mysql_stmt.specs.ExecuteParam.{Param, Sent, SentAhead, AsSent}
use Rattle.mysql_stmt.specs.ExecuteParams.{where_some}
use Rattle.mysql_stmt.specs.ExecuteRead.{TypedParam, has_attributes}
use Rattle.mysql_stmt.specs.Execution.{Execution, all_params, count_bytes, has_names, has_some, params_bytes, types_follow}
use Rattle.mysql_stmt.specs.SentParam.{attribute_type, is_left_out, is_spelled, list_of, sent_attributes}
use Rattle.mysql_stmt.specs.SentTypes.{NamedType}
use Rattle.mysql_stmt.specs.declared.execute_head.ComStmtExecuteHead.{ComStmtExecuteHead}
use Rattle.mysql_stmt.specs.declared.execute_param.QueryAttribute.{QueryAttribute}
use Rattle.mysql_stmt.specs.declared.execute_view.BoundParam.{BoundParam}

-- a value as it is read under its type; a byte string of long data was sent before
abbrev pub as_read_under : (as_long_data : Bool) → ParamType → Param → Param
as_read_under l t (Sent value) = if is_left_out l value then SentAhead else Sent (param_read_under t value)
as_read_under l t SentAhead = SentAhead
as_read_under l t (AsSent has_null_bit bytes) = AsSent has_null_bit bytes

-- a type as it is read: with its name if names are sent
abbrev pub type_read : (named : Bool) → NamedType → NamedType
type_read named t = record { param_type = t.param_type; name = if named then t.name else [] }

abbrev pub param_read : (named as_long_data : Bool) → TypedParam → TypedParam
param_read named l p = record { named_type = type_read named p.named_type; param = as_read_under l p.named_type.param_type p.param }

abbrev pub attribute_read : QueryAttribute → Attribute
attribute_read a = record { named_type = attribute_type a; value = param_read_under a.param_type (param_content a.value) }

abbrev pub was_sent_ahead : Param → Bool
was_sent_ahead (Sent value) = false
was_sent_ahead SentAhead = true
was_sent_ahead (AsSent has_null_bit bytes) = false

-- numbers within their widths; raw bytes may be anything, so nothing is said about reading them
abbrev pub ParamFits : Param → Type 0
ParamFits (Sent value) = ParamIsInRange value
ParamFits SentAhead = Unit {0}
ParamFits (AsSent has_null_bit bytes) = ⊥

pub record SentFits (p : TypedParam) : Type 0 where
  pub flags : (type_flags p.named_type.param_type).0 < 2 ^ 8
  pub name : length p.named_type.name < 2 ^ 64
  pub value : ParamFits p.param
  pub spelled : is_spelled p ≡ true

-- what the server knows of a parameter: whether it was sent as long data, and its type if no types are sent
pub record Knows (sends_types as_long_data : Bool) (b : BoundParam) (p : TypedParam) : Type 0 where
  pub earlier : IsFalse sends_types → b.param_type ≡ p.named_type.param_type
  pub ahead : b.is_sent_ahead ≡ was_sent_ahead (as_read_under as_long_data p.named_type.param_type p.param)

-- it knows as many parameters, and this about each
abbrev pub KnowsAll : (sends_types as_long_data : Bool) → List BoundParam → List TypedParam → Type 0
KnowsAll s l [] [] = Unit {0}
KnowsAll s l [] (p ∷ ps) = ⊥
KnowsAll s l (b ∷ bs) [] = ⊥
KnowsAll s l (b ∷ bs) (p ∷ ps) = Knows s l b p × KnowsAll s l bs ps

-- an execution as it is built
abbrev pub built : ComStmtExecuteHead → List TypedParam → Option (List QueryAttribute) → (sends_types as_long_data : Bool) → Execution
built head params attributes s l = record { head = head; params = params; attributes = option_map sent_attributes attributes; sends_types = s; as_long_data = l }

-- such an execution in a session with these capabilities, and what the server knows of the parameters
pub record IsReadable (capabilities : CapabilityFlags) (bound : List BoundParam) (attributes : Option (List QueryAttribute)) (e : Execution) : Type 0 where
  pub agreed : has_attributes capabilities ≡ is_some attributes
  -- without parameters, a server looks for attributes only if the flags say that there is a count
  pub counted : has_some e.params ≡ false → has_some (list_of attributes) ≡ true → has (cursor_flags e.head) PARAMETER_COUNT_AVAILABLE ≡ true
  pub few : length e.params + length (list_of attributes) + 7 < 2 ^ 64
  pub fit : All SentFits e.params
  pub attributes_fit : All SentFits (sent_attributes (list_of attributes))
  pub known : KnowsAll (types_follow e) e.as_long_data bound e.params

-- the bytes after the head
abbrev pub bytes_after_head : Execution → List ℕ
bytes_after_head e = count_bytes e ++ where_some (all_params e) (params_bytes e)

-- the parameters and attributes as they are read
abbrev pub params_as_read : Execution → List TypedParam
params_as_read e = map (param_read (types_follow e && has_names e) e.as_long_data) e.params

abbrev pub attributes_as_read : Option (List QueryAttribute) → List Attribute
attributes_as_read attributes = map attribute_read (list_of attributes)
