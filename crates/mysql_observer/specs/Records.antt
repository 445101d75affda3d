-- The record of a payload, by its kind.
use Rattle.std.specs.Prelude.{◌≡◌, ◌⊎◌, ℕ, Bool, true, false, ◌||◌, ◌==◌, List, Option, Some, None, Ok, if◌then◌else◌}
use Rattle.mysql_wire.specs.Form.{Form, ◌>>=◌, give}
use Rattle.mysql_wire.specs.Reading.{Faults}
use Rattle.mysql_wire.specs.declared.fault.FaultOf.{FaultOf}
use Rattle.mysql_stmt.specs.ExecuteHead.{execute_head, cursor_flags}
use Rattle.mysql_stmt.specs.Attributes.{Attribute}
use Rattle.mysql_stmt.specs.ExecuteRead as read
use Rattle.mysql_stmt.specs.ExecuteRead.{ParamsLeft, TypedParam, IsExecution}
use Rattle.mysql_stmt.specs.declared.execute_head.ComStmtExecuteHead.{ComStmtExecuteHead}
use Rattle.mysql_stmt.specs.declared.execute_view.BoundParam.{BoundParam}
use Rattle.mysql_conversation.specs.Agreements.{Agreed}
use Rattle.mysql_conversation.specs.declared.packet_kind.PacketKind.{PacketKind}
use Rattle.mysql_wire.specs.Flags.{CapabilityFlags}
use Rattle.mysql_observer.specs.Client.{client_packet}
use Rattle.mysql_observer.specs.Context.{agreed_or_none}
use Rattle.mysql_observer.specs.Server.{server_packet}
use Rattle.mysql_observer.specs.declared.read_context.ReadContext.{ReadContext}
use Rattle.mysql_statements.specs.ResultColumns.{ResultColumns}
use Rattle.mysql_statements.specs.declared.row_column.RowColumn.{RowColumn}
use Rattle.mysql_conversation.specs.Pipelined.{Numbered}
use Rattle.mysql_observer.specs.PacketContext.{IsContext, type_of, unsigned}
use Rattle.mysql_observer.specs.Tracked.{Tracked, Params, Reached, is_execution}
use Rattle.mysql_observer.specs.declared.execution.Known.{Known}
use Rattle.mysql_observer.specs.declared.server.ServerPacket.{ServerPacket}
use Rattle.mysql_observer.specs.declared.record.ClientRecord.{ClientRecord}
use Rattle.mysql_observer.specs.declared.record.ClientRecord.TheVariants as by_client

-- this is agreed on
abbrev pub Are : Agreed → Option Agreed → Type 0
Are a agreed = agreed ≡ Some a

-- ---- of the server

-- what its kind's grammar reads in the context of the packets, of which it is the last
abbrev pub IsServerPacket : (Option Agreed → Type 0) → List Numbered → Tracked → ResultColumns → PacketKind → List ℕ → ServerPacket RowColumn → Type 0
IsServerPacket Agrees items f r k p x = (c : ReadContext RowColumn) × IsContext Agrees items f r k p c × (rest : List ℕ) × ((server_packet type_of unsigned c k).reads p ≡ Ok (x, rest))

-- the fault of that grammar
abbrev pub IsServerFault : (Option Agreed → Type 0) → List Numbered → Tracked → ResultColumns → PacketKind → List ℕ → FaultOf → Type 0
IsServerFault Agrees items f r k p e = (c : ReadContext RowColumn) × IsContext Agrees items f r k p c × Faults false e ((server_packet type_of unsigned c k).reads p)

-- ---- of the client

-- it is an execution, after the login
abbrev pub has_params : Option Agreed → PacketKind → Bool
has_params None k = false
has_params (Some a) k = is_execution k

-- its parameters, if its statement is known
abbrev pub known_params : Option Agreed → Option Params → PacketKind → Option Params
known_params agreed ps k = if has_params agreed k then ps else None

-- the parameters of a pipelined execution that the server has reached
abbrev pub reached_params : Option Reached → Option Params
reached_params None = None
reached_params (Some r) = r.params

abbrev pub params_in : Known → Option Params
params_in k = if k.is_known then Some (record { params = k.params.now; is_bound = k.is_bound }) else None

-- what precedes the parameters, the parameters, and the attributes
abbrev pub execution : CapabilityFlags → List BoundParam → Form (ComStmtExecuteHead × List TypedParam × List Attribute)
execution capabilities params = do
  head ← execute_head.form tt
  values ← read.execution capabilities (cursor_flags head) params
  give (head, values.0, values.1)

-- the payload is the execution
abbrev pub Stands : CapabilityFlags → List BoundParam → List ℕ → ComStmtExecuteHead → ParamsLeft → Type 0
Stands capabilities params p head view = (body : List ℕ) × ((execute_head.form tt).reads p ≡ Ok (head, body)) × IsExecution capabilities (cursor_flags head) params body view

-- its types are known: it sends them, an earlier one sent them, or it has no parameters
abbrev pub is_typed : Params → ParamsLeft → Bool
is_typed ps view = view.sends_types || ps.is_bound || view.left == 0

-- what its kind's grammar reads; for an execution whose statement and types are known, its parameters
abbrev pub IsClientRecord : Option Agreed → Option Params → PacketKind → List ℕ → ClientRecord → Type 0
IsClientRecord agreed None k p (by_client.Packet x) = (rest : List ℕ) × ((client_packet agreed k).reads p ≡ Ok (x, rest))
IsClientRecord agreed None k p (by_client.Execution head view) = ⊥
IsClientRecord agreed (Some ps) k p (by_client.Packet x) =
    ((rest : List ℕ) × ((client_packet agreed k).reads p ≡ Ok (x, rest))) × (head : ComStmtExecuteHead) × (view : ParamsLeft) × Stands (agreed_or_none agreed).mysql ps.params p head view × (is_typed ps view ≡ false)
IsClientRecord agreed (Some ps) k p (by_client.Execution head view) = Stands (agreed_or_none agreed).mysql ps.params p head view × (is_typed ps view ≡ true)

-- the fault of that grammar
abbrev pub IsClientFault : Option Agreed → Option Params → PacketKind → List ℕ → FaultOf → Type 0
IsClientFault agreed None k p e = Faults false e ((client_packet agreed k).reads p)
IsClientFault agreed (Some ps) k p e = Faults false e ((client_packet agreed k).reads p) ⊎ Faults false e ((execution (agreed_or_none agreed).mysql ps.params).reads p)
