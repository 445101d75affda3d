-- The fields of a packet are those of the record that the observer returns.
use Rattle.std.specs.Prelude.{◌≡◌, ◌⊎◌, ℕ, ◌<◌, ◌≤◌, ◌-◌, ◌&&◌, nat_lt, List, [], ◌∷◌, ◌++◌, length, drop, Option, Some, None, Result, Ok, Err, codes, if◌then◌else◌}
use Rattle.mysql_wire.specs.CommandCodes.{COM_STMT_EXECUTE}
use Rattle.mysql_wire.specs.ServerCommand.{server_command_of}
use Rattle.mysql_wire.specs.declared.fault.FaultOf.{FaultOf}
use Rattle.mysql_conversation.specs.Agreements.{Agreed}
use Rattle.mysql_conversation.specs.Pipelined.{Numbered}
use Rattle.mysql_conversation.specs.declared.packet_kind.PacketKind.{PacketKind}
use Rattle.mysql_conversation.specs.declared.packet_kind.PacketKind.TheVariants as kind
use Rattle.mysql_conversation.specs.declared.packet_kind.Side.{Side}
use Rattle.mysql_conversation.specs.declared.packet_kind.Side.TheVariants.{Client, Server}
use Rattle.mysql_observer.specs.Observed.{Observed, result_columns, tracked}
use Rattle.mysql_observer.specs.PacketContext.{IsAgreed}
use Rattle.mysql_observer.specs.Records.{IsClientFault, IsClientRecord, IsServerFault, IsServerPacket, known_params, reached_params}
use Rattle.mysql_observer.specs.Tracked.{Params, Reached, is_execution}
use Rattle.mysql_observer.specs.declared.observer.Observer.{Observer}
use Rattle.mysql_observer.specs.declared.record.ClientRecord.{ClientRecord}
use Rattle.mysql_observer.specs.declared.record.ClientRecord.TheVariants as record_of
use Rattle.mysql_observer.specs.declared.server.ServerPacket.{ServerPacket}
use Rattle.mysql_statements.specs.declared.row_column.RowColumn.{RowColumn}
use Rattle.mysql_show.specs.Fields.{Said, said, Number, Word}
use Rattle.mysql_recorder.specs.ClientFields.{client_fields, head_fields, named_command}
use Rattle.mysql_recorder.specs.ServerFields.{AppendsServer}
use Rattle.mysql_recorder.specs.ValueFields.{AreParams, fault_text, refused_at}

-- ---- what the observer returns

-- of the client's packet that was passed last, whose parameters are known or not
abbrev pub IsClientResult : Option Agreed → Option Params → PacketKind → List ℕ → Result ClientRecord FaultOf → Type 0
IsClientResult agreed params k p (Ok r) = IsClientRecord agreed params k p r
IsClientResult agreed params k p (Err e) = IsClientFault agreed params k p e

abbrev pub ReturnsClient : Observer → PacketKind → List ℕ → Result ClientRecord FaultOf → Type 0
ReturnsClient o k p r = (items : List Numbered) → Observed o items
    → (agreed : Option Agreed) × IsAgreed items agreed × IsClientResult agreed (known_params agreed (tracked o).params k) k p r

-- of the pipelined execution that the server has reached
abbrev pub ReturnsReached : Observer → List ℕ → Result ClientRecord FaultOf → Type 0
ReturnsReached o p r = (items : List Numbered) → Observed o items
    → (agreed : Option Agreed) × IsAgreed items agreed × IsClientResult agreed (reached_params (tracked o).reached) (kind.Command COM_STMT_EXECUTE) p r

-- of the server's packet that was passed last
abbrev pub ReturnsServer : Observer → PacketKind → List ℕ → Result (ServerPacket RowColumn) FaultOf → Type 0
ReturnsServer o k p (Ok x) = (items : List Numbered) → Observed o items → IsServerPacket (IsAgreed items) items (tracked o) (result_columns o) k p x
ReturnsServer o k p (Err e) = (items : List Numbered) → Observed o items → IsServerFault (IsAgreed items) items (tracked o) (result_columns o) k p e

-- ---- the client's

-- the name of the fault, with what can be read before it, and after it
abbrev pub HasFault : FaultOf → List Said → Type 0
HasFault e fields = (own more : List Said) × (fields ≡ own ++ said (codes "refused") (Word (fault_text e)) ∷ more)

-- fields that others follow
abbrev pub BeginsWith : List Said → List Said → Type 0
BeginsWith front fields = (more : List Said) × (fields ≡ front ++ more)

-- a command's name
abbrev pub command_name : PacketKind → List Said
command_name (kind.Command code) = named_command (server_command_of code) code ∷ []
command_name _ = []

-- the types of the parameters are not known, if the execution has any
abbrev pub unknown_types : PacketKind → List ℕ → List Said
unknown_types k p = if is_execution k && nat_lt 10 (length p) then said (codes "parameter_types") (Word (codes "unknown")) ∷ [] else []

-- the fields of a record, or of a fault
abbrev pub AreOfClient : PacketKind → List ℕ → Result ClientRecord FaultOf → List Said → Type 0
AreOfClient k p (Ok (record_of.Packet packet)) fields = fields ≡ client_fields packet ++ unknown_types k p
AreOfClient k p (Ok (record_of.Execution head view)) fields = (params : List Said) × AreParams view params × (fields ≡ head_fields head (length p - 10) ++ params)
AreOfClient k p (Err e) fields = HasFault e fields

abbrev pub AreClientFields : Observer → PacketKind → List ℕ → List Said → Type 0
AreClientFields o k p fields = (r : Result ClientRecord FaultOf) × (own : List Said) × ReturnsClient o k p r × AreOfClient k p r own × (fields ≡ command_name k ++ own)

-- ---- the server's

-- the parameters of an execution with the number of its exchange; none, if their types are not known
abbrev pub AreKnownParams : ℕ → ClientRecord → List Said → Type 0
AreKnownParams n (record_of.Packet packet) fields = fields ≡ []
AreKnownParams n (record_of.Execution head view) fields = (params : List Said) × AreParams view params × (fields ≡ said (codes "parameters_of") (Number n) ∷ params)

-- those of a record, or the fault of its payload
abbrev pub AreOfReached : ℕ → List ℕ → Result ClientRecord FaultOf → List Said → Type 0
AreOfReached n p (Ok r) fields = AreKnownParams n r fields
AreOfReached n p (Err e) fields = fields ≡ said (codes "parameters_of") (Number n) ∷ refused_at (fault_text e) (drop 10 p)

-- those of the pipelined execution that the server has reached, if it has any
abbrev pub AreReachedFields : Observer → Option Reached → List Said → Type 0
AreReachedFields o None fields = fields ≡ []
AreReachedFields o (Some reached) fields =
    ((length reached.command.payload ≤ 10) × (fields ≡ []))
    ⊎ ((r : Result ClientRecord FaultOf) × (10 < length reached.command.payload) × ReturnsReached o reached.command.payload r
    × AreOfReached reached.command.number reached.command.payload r fields)

-- the fields of a record are appended, or of a fault
abbrev pub AppendsResult : Result (ServerPacket RowColumn) FaultOf → (old new : List Said) → Type 0
AppendsResult (Ok packet) old new = AppendsServer packet old new
AppendsResult (Err e) old new = (more : List Said) × HasFault e more × (new ≡ old ++ more)

abbrev pub AreServerFields : Observer → PacketKind → List ℕ → List Said → Type 0
AreServerFields o k p fields =
    (r : Result (ServerPacket RowColumn) FaultOf) × (params : List Said) × AreReachedFields o (tracked o).reached params × ReturnsServer o k p r × AppendsResult r params fields

-- ---- of either side

abbrev pub AreFields : Observer → Side → PacketKind → List ℕ → List Said → Type 0
AreFields o Client k p fields = AreClientFields o k p fields
AreFields o Server k p fields = AreServerFields o k p fields
