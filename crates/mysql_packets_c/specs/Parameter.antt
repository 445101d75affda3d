-- A parameter of an execution, or an attribute of a query or an execution, in C.
use Rattle.std.specs.Prelude.{ℕ, Bool, ◌&&◌, ◌||◌, not, is_some, if◌then◌else◌, List, [], Option, Some, None}
use Rattle.std.specs.List.{list_all}
use Rattle.mysql_stmt.specs.ExecuteParam.{Param, SentAhead}
use Rattle.mysql_stmt.specs.ExecuteRead.{TypedParam}
use Rattle.mysql_stmt.specs.SentParam.{sent_params, type_of_param}
use Rattle.mysql_stmt.specs.SentTypes.{NamedType}
use Rattle.mysql_wire.specs.ColumnType.{column_type_of}
use Rattle.mysql_wire.specs.FlagMasks.{CLIENT_QUERY_ATTRIBUTES}
use Rattle.mysql_wire.specs.Flags.{has}
use Rattle.mysql_packets_c.specs.Bulk.{declared_type}
use Rattle.mysql_packets_c.specs.Execution.{param}
use Rattle.mysql_packets_c.specs.Given.{is_set}
use Rattle.mysql_packets_c.specs.Value.{is_param}
use Rattle.mysql_packets_c.specs.declared.parameter.CParameter.{CParameter}

-- its value, unless it was sent as long data
abbrev pub param_given : CParameter → Param
param_given p = if is_set p.is_sent_ahead then SentAhead else param p.value

-- the caller's type, or that of the value's kind; and the name
abbrev pub named_type : CParameter → NamedType
named_type p = record {
  param_type =
      if is_set p.has_type then declared_type (record { column_type = p.column_type; is_unsigned = p.is_unsigned })
      else (type_of_param (param_given p)).param_type;
  name = p.name.now;
}

-- the caller's type is valid
abbrev pub has_valid_type : CParameter → Bool
has_valid_type p = not (is_set p.has_type) || is_some (column_type_of p.column_type)

-- it was sent as long data, or its value is one of a parameter; and its type is valid
abbrev pub is_parameter : CParameter → Bool
is_parameter p = (is_set p.is_sent_ahead || is_param p.value) && has_valid_type p

abbrev pub are_parameters : List CParameter → Bool
are_parameters parameters = list_all is_parameter parameters

-- as they are sent
abbrev pub sent : List CParameter → List TypedParam
sent parameters = sent_params param_given named_type parameters

-- attributes are written under CLIENT_QUERY_ATTRIBUTES
abbrev pub are_agreed : ℕ → Bool
are_agreed capabilities = has capabilities CLIENT_QUERY_ATTRIBUTES

abbrev pub if_agreed : ℕ → List CParameter → Option (List CParameter)
if_agreed capabilities attributes = if are_agreed capabilities then Some attributes else None
