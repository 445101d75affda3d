-- A parameter or an attribute as it is sent: type, name and value.
use Rattle.std.specs.Prelude.{ℕ, Bool, true, false, not, is_some, if◌then◌else◌, List, [], ◌++◌, map, Option, Some, None, position, unwrap_or}
use Rattle.std.specs.List.{flat_map}
use Rattle.mysql_wire.specs.LenEnc.{lenenc_string_bytes}
use Rattle.mysql_wire.specs.Writing.{le_bytes}
use Rattle.mysql_values.specs.ParamType.{param_type, type_of}
use Rattle.mysql_values.specs.ParamValue.{ParamContent, Plain, param_spelled}
use Rattle.mysql_values.specs.Value.{Bytes}
use Rattle.mysql_values.specs.declared.param_type.ParamType.{ParamType}
use Rattle.mysql_stmt.specs.ExecuteParam.{Param, Sent, SentAhead, AsSent, attribute_param, value_of}
use Rattle.mysql_stmt.specs.ExecuteRead.{TypedParam}
use Rattle.mysql_stmt.specs.SentTypes.{NamedType}
use Rattle.mysql_stmt.specs.declared.execute_param.QueryAttribute.{QueryAttribute}

-- the type of a value for which none was chosen: the value's own, with an empty name
abbrev pub type_of_param : Param → NamedType
type_of_param p = record { param_type = type_of (value_of p); name = [] }

-- values of the caller's type, as they are sent
abbrev pub sent_param : {V : Type 0} → (V → Param) → (V → NamedType) → V → TypedParam
sent_param param named_type v = record { named_type = named_type v; param = param v }

abbrev pub sent_params : {V : Type 0} → (V → Param) → (V → NamedType) → List V → List TypedParam
sent_params param named_type params = map (sent_param param named_type) params

-- ---- attributes

abbrev pub attribute_type : QueryAttribute → NamedType
attribute_type a = record { param_type = a.param_type; name = a.name.now }

abbrev pub sent_attributes : List QueryAttribute → List TypedParam
sent_attributes attributes = sent_params attribute_param attribute_type attributes

-- none if there can't be any
abbrev pub list_of : {A : Type 0} → Option (List A) → List A
list_of None = []
list_of (Some attributes) = attributes

-- ---- bytes

-- the type, and the name if there are names
abbrev pub type_bytes : (has_names : Bool) → TypedParam → List ℕ
type_bytes has_names p = param_type.bytes p.named_type.param_type ++ (if has_names then lenenc_string_bytes p.named_type.name else [])

-- the type can encode the value, if the request sends one; raw bytes are those of their type
abbrev pub is_spelled_under : ParamType → Param → Bool
is_spelled_under t (Sent value) = is_some (param_spelled t value)
is_spelled_under t SentAhead = true
is_spelled_under t (AsSent has_null_bit bytes) = true

abbrev pub is_spelled : TypedParam → Bool
is_spelled p = is_spelled_under p.named_type.param_type p.param

-- the place of the first one whose type can't encode its value
abbrev pub first_unspelled : List TypedParam → Option ℕ
first_unspelled params = position (λ p. not (is_spelled p)) params

-- byte strings that are sent as long data are left out
abbrev pub is_left_out : (as_long_data : Bool) → ParamContent → Bool
is_left_out true (Plain (Bytes bytes)) = true
is_left_out _ value = false

-- the bytes of a value under its type; none for long data, and the raw ones of a raw value
abbrev pub bytes_under : (as_long_data : Bool) → ParamType → Param → List ℕ
bytes_under l t (Sent value) = if is_left_out l value then [] else unwrap_or (param_spelled t value) []
bytes_under l t SentAhead = []
bytes_under l t (AsSent has_null_bit bytes) = bytes

abbrev pub value_bytes : (as_long_data : Bool) → TypedParam → List ℕ
value_bytes l p = bytes_under l p.named_type.param_type p.param

-- parameters, and attributes after them: the bitmap of NULLs, a byte that is 1 if types follow, the types, and the values; attributes are
-- never left out
abbrev pub bound_bytes : (nulls : List ℕ) (types_follow has_names as_long_data : Bool) (params attributes : List TypedParam) → List ℕ
bound_bytes nulls types_follow has_names as_long_data params attributes =
    nulls ++ (le_bytes 1 (if types_follow then 1 else 0) ++ ((if types_follow then flat_map (type_bytes has_names) (params ++ attributes) else [])
    ++ (flat_map (value_bytes as_long_data) params ++ flat_map (value_bytes false) attributes)))
