-- The parameter types that executions send.
use Rattle.std.specs.Prelude.{◌≡◌, ℕ, ◌||◌, List, [], Bool, true, false, Option, Some, None, length, map, Result, Ok, Err}
use Rattle.mysql_wire.specs.FlagMasks.{SEND_TYPES_TO_SERVER}
use Rattle.mysql_wire.specs.Flags.{CapabilityFlags, has}
use Rattle.mysql_wire.specs.Form.{Form, ◌>>=◌, either, give}
use Rattle.mysql_wire.specs.Int.{byte, le_u16, le_u32}
use Rattle.mysql_wire.specs.Reading.{Reading}
use Rattle.mysql_wire.specs.declared.fault.FaultOf.{FaultOf}
use Rattle.mysql_stmt.specs.BindFront.{BindFront, nothing_bound}
use Rattle.mysql_stmt.specs.ExecuteHead.{cursor_flags, execute_head}
use Rattle.mysql_stmt.specs.ExecuteRead.{execution_front, given_types}
use Rattle.mysql_stmt.specs.SentTypes.{NamedType, types}
use Rattle.mysql_stmt.specs.declared.execute_view.BoundParam.{BoundParam}
use Rattle.mysql_statements.specs.Kept.{Kept}
use Rattle.mysql_statements.specs.Statement.{without_data}
use Rattle.mysql_statements.specs.declared.layout.Layout.{Layout}
use Rattle.mysql_statements.specs.declared.layout.Layout.TheVariants.{Single, Bulk}

-- ---- before the values: the types, if they are sent

-- COM_STMT_EXECUTE with a given number of parameters: the head, and what precedes the values
abbrev pub single_front : CapabilityFlags → ℕ → Form BindFront
single_front capabilities count = execute_head.form tt >>= (λ head. execution_front capabilities (cursor_flags head) count)

-- types without names, or none
abbrev pub types_alone : Option (List NamedType) → BindFront
types_alone (Some types) = record { nulls = []; sends_types = true; types = types }
types_alone None = nothing_bound

-- COM_STMT_BULK_EXECUTE: the command byte, the statement's number, the flags, and, if these say so, a type for each parameter
abbrev pub bulk_front : ℕ → Form BindFront
bulk_front count = do
  code ← byte
  id ← le_u32
  flags ← le_u16
  either (has flags.0 SEND_TYPES_TO_SERVER) (types false count >>= (λ ts. give (types_alone (Some ts)))) (give nothing_bound)

abbrev pub front_of : Layout → ℕ → Form BindFront
front_of (Single capabilities) count = single_front capabilities count
front_of Bulk count = bulk_front count

-- ---- the types

-- whether an execution sends types, and the parameters with them
pub record Bound : Type 0 where
  pub is_bound : Bool
  pub params : List BoundParam

-- The parameters with the types that are sent; types past the last parameter are those of query attributes. Malformed types leave none.
abbrev pub bound_by : List BoundParam → Reading BindFront → Bound
bound_by ps (Ok x) = record { is_bound = x.0.sends_types; params = given_types x.0.sends_types ps x.0.types }
bound_by ps (Err e) = record { is_bound = false; params = ps }

-- ---- an execution of a statement: it sets the types or keeps them, and consumes the long data

abbrev pub with_bound : Bound → Kept → Kept
with_bound b s = record s { params = map without_data b.params; is_bound = b.is_bound || s.is_bound }

abbrev pub with_execution : Layout → List ℕ → Kept → Kept
with_execution layout p s = with_bound (bound_by s.params ((front_of layout (length s.params)).reads p)) s

-- ---- the record of a bulk execution

abbrev pub bulk_read : Result (Option (List NamedType)) FaultOf → Result BindFront FaultOf
bulk_read (Ok types) = Ok (types_alone types)
bulk_read (Err e) = Err e

-- a type for each parameter, if any are sent
abbrev pub HasBulkTypes : ℕ → Result (Option (List NamedType)) FaultOf → Type 0
HasBulkTypes count (Ok (Some types)) = length types ≡ count
HasBulkTypes count (Ok None) = Unit {0}
HasBulkTypes count (Err e) = Unit {0}
