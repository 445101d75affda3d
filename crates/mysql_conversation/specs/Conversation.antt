-- Which packets form a conversation: the protocol's pages as a grammar of lists of packets.
use Rattle.std.specs.Prelude.{◌≡◌, ◌≢◌, ◌⊎◌, ℕ, zero, suc, List, [], ◌∷◌, ◌++◌, Bool, true, false, not, Option, Some, None, ◌==◌, ◌&&◌, if◌then◌else◌}
use Rattle.mysql_wire.specs.CommandCodes.{COM_SLEEP, COM_QUIT, COM_INIT_DB, COM_QUERY, COM_FIELD_LIST, COM_CREATE_DB, COM_DROP_DB, COM_REFRESH, COM_SHUTDOWN, COM_STATISTICS, COM_PROCESS_INFO, COM_PROCESS_KILL, COM_DEBUG, COM_PING, COM_CHANGE_USER, COM_BINLOG_DUMP, COM_REGISTER_SLAVE, COM_STMT_PREPARE, COM_STMT_EXECUTE, COM_STMT_SEND_LONG_DATA, COM_STMT_CLOSE, COM_STMT_RESET, COM_SET_OPTION, COM_STMT_FETCH, COM_BINLOG_DUMP_GTID, COM_RESET_CONNECTION, COM_CLONE, COM_STMT_BULK_EXECUTE}
use Rattle.mysql_wire.specs.Flags.{StatusFlags}
use Rattle.mysql_conversation.specs.Agreements.{Agreed, deprecates_eof, asks_factors}
use Rattle.mysql_conversation.specs.Parts.{nothing, never, one, ◌followed_by◌, ◌or◌, for_some, times, many, broken}
use Rattle.mysql_conversation.specs.Payloads.{has_more, opens_cursor, first_is, IsOk, IsEnd, IsOldEnd, IsInfileRequest, IsCount, IsRow, IsPrepared, IsError, is_report, is_one_byte, asks_cursor}
use Rattle.mysql_conversation.specs.declared.state.Answer.{Answer}
use Rattle.mysql_conversation.specs.declared.state.Answer.TheVariants as answer
use Rattle.mysql_conversation.specs.declared.state.Request.{Request}
use Rattle.mysql_conversation.specs.declared.state.Request.TheVariants.{Query, Execution, Cursor}
use Rattle.mysql_conversation.specs.declared.packet_kind.RowFormat.{RowFormat}
use Rattle.mysql_conversation.specs.declared.packet_kind.RowFormat.TheVariants.{Text, Binary}
use Rattle.mysql_conversation.specs.declared.packet_kind.PacketKind.{PacketKind}
use Rattle.mysql_conversation.specs.declared.packet_kind.PacketKind.TheVariants as kind
use Rattle.mysql_conversation.specs.declared.packet_kind.InitialPhase.{InitialPhase}
use Rattle.mysql_conversation.specs.declared.packet_kind.InitialPhase.TheVariants as opened_at
use Rattle.mysql_conversation.specs.declared.packet_kind.Side.{Side}
use Rattle.mysql_conversation.specs.declared.packet_kind.Side.TheVariants.{Client, Server}

-- a packet: its sender, its payload, and its kind
pub record Packet : Type 0 where
  pub from : Side
  pub payload : List ℕ
  pub kind : PacketKind

-- a part of a conversation
abbrev pub Part : Type 1
Part = List Packet → List Packet → Type 0

-- a packet of the client with this kind, whose payload satisfies the predicate
abbrev pub sent : PacketKind → (List ℕ → Type 0) → Part
sent kind P = one (λ x. (x.from ≡ Client) × (x.kind ≡ kind) × P x.payload)

-- a packet of the server with this kind, not an error, whose payload satisfies the predicate
abbrev pub served : PacketKind → (List ℕ → Type 0) → Part
served kind P = one (λ x. (x.from ≡ Server) × (x.kind ≡ kind) × (first_is 0xff x.payload ≡ false) × P x.payload)

abbrev pub error : Agreed → Part
error a = one (λ x. (x.from ≡ Server) × (x.kind ≡ kind.Error) × IsError a x.payload)

-- ---- the packets

abbrev pub ok : Agreed → Bool → Part
ok a more = served kind.Ok (IsOk a more)

abbrev pub row : Agreed → RowFormat → Part
row a format = served (kind.Row format) (IsRow a format)

-- the form of an end
abbrev pub ending : Bool → PacketKind
ending true = kind.OkTerminator
ending false = kind.Eof

abbrev pub end : Agreed → Bool → Part
end a more = served (ending (deprecates_eof a)) (IsEnd a more)

abbrev pub infile_request : Part
infile_request = served kind.LocalInfile IsInfileRequest

abbrev pub infile_content : Part
infile_content = sent kind.InfileContent (λ p. p ≢ [])

abbrev pub infile_end : Part
infile_end = sent kind.InfileEnd (λ p. p ≡ [])

abbrev pub count : Agreed → ℕ → Bool → Part
count a n follow = served (kind.ColumnCount n follow) (IsCount a n follow)

abbrev pub definition : Part
definition = served kind.Column (λ p. Unit {0})

abbrev pub prepared_ok : Agreed → ℕ → ℕ → Bool → Part
prepared_ok a columns params follow = served (kind.PrepareOk columns params follow) (IsPrepared a columns params follow)

-- the definition of a field with its default value; it can't be mistaken for an end
abbrev pub field : Agreed → Part
field a = served kind.FieldListColumn (IsRow a Text)

abbrev pub text : Part
text = served kind.Statistics (λ p. Unit {0})

-- a packet of either side in the clone plugin's protocol
abbrev pub clone : Part
clone = one (λ x. x.kind ≡ kind.Clone)

-- ---- results

-- the form of the requested rows
abbrev pub format_of : Request → RowFormat
format_of Query = Text
format_of Execution = Binary
format_of Cursor = Binary

abbrev pub eof : Agreed → Part
eof a = served kind.Eof (λ p. (status : StatusFlags) × IsOldEnd a status p)

-- the EOF packet after definitions, unless it is deprecated
abbrev pub definitions_end : Agreed → Bool → Part
definitions_end a true = nothing
definitions_end a false = eof a

-- the EOF packet after the definitions of a result whose rows follow: no cursor is open, or none was requested
abbrev pub columns_end : Agreed → Request → Bool → Part
columns_end a Query deprecates = definitions_end a deprecates
columns_end a Execution deprecates = definitions_end a deprecates
columns_end a Cursor true = nothing
columns_end a Cursor false = served kind.Eof (λ p. (status : StatusFlags) × IsOldEnd a status p × (opens_cursor status ≡ false))

-- the end of a given number of definitions of columns or parameters; there is none after 0 definitions
abbrev pub definitions_end_of : Agreed → Bool → ℕ → Part
definitions_end_of a deprecates zero = nothing
definitions_end_of a deprecates (suc n) = definitions_end a deprecates

-- a given number of definitions of columns or parameters, and their end; if the definitions are left out, only the end
abbrev pub definitions : Agreed → Bool → ℕ → Part
definitions a true n = times n definition followed_by definitions_end_of a (deprecates_eof a) n
definitions a false n = definitions_end_of a (deprecates_eof a) n

-- a local file: the server requests it, the client sends it, and then an empty packet
abbrev pub loaded : Part
loaded = infile_request followed_by many infile_content followed_by infile_end

-- a column count, and the definitions if it says that they follow
abbrev pub columns : Agreed → ℕ → Part
columns a n = (count a n true followed_by times n definition) or count a n false

-- columns and rows
abbrev pub rows : Agreed → Request → Bool → Part
rows a request more =
    for_some (λ n. columns a n followed_by columns_end a request (deprecates_eof a) followed_by many (row a (format_of request)) followed_by end a more)

-- Columns without rows: the requested cursor is open. If EOF packets are deprecated, this is a result with no rows.
abbrev pub opened : Agreed → Request → Bool → Bool → Part
opened a Query deprecates more = never
opened a Execution deprecates more = never
opened a Cursor true more = never
opened a Cursor false more =
    for_some (λ n. columns a n
    followed_by served kind.Eof (λ p. (status : StatusFlags) × IsOldEnd a status p × (opens_cursor status ≡ true) × (has_more status ≡ more)))

-- a result, whose last packet says whether more follow
abbrev pub result : Agreed → Request → Bool → Part
result a request more = ok a more or (loaded followed_by ok a more) or rows a request more or opened a request (deprecates_eof a) more

-- results, of which only the last one says that none follow
abbrev pub results : Agreed → Request → Part
results a request = many (result a request true) followed_by result a request false

-- ---- other answers

-- a prepared statement, and the definitions of its parameters and columns, which follow or are left out
abbrev pub statement : Agreed → ℕ → ℕ → Bool → Part
statement a columns params follow = prepared_ok a columns params follow followed_by definitions a follow params followed_by definitions a follow columns

abbrev pub prepared : Agreed → Part
prepared a = for_some (λ columns. for_some (λ params. statement a columns params true or statement a columns params false))

abbrev pub any_end : Agreed → Part
any_end a = end a true or end a false

-- an OK packet, or an end if the server may send one (`my_eof` in MySQL's `dispatch_command`)
abbrev pub acknowledged : Agreed → Bool → Part
acknowledged a true = ok a false or end a false
acknowledged a false = ok a false

-- ---- authentication

-- what the server sends before the OK packet, by the first byte: a switch to another plugin (fe alone: to the old one), more data, a next
-- factor if agreed on, or else data of its plugin
abbrev pub authentication_kind : Agreed → List ℕ → PacketKind
authentication_kind a p =
    if first_is 0xfe p then (if is_one_byte p then kind.OldAuthSwitch else kind.AuthSwitch)
    else (if first_is 1 p then kind.AuthMoreData
    else (if first_is 2 p && asks_factors a then kind.AuthNextFactor
    else kind.AuthPluginData))

abbrev pub asked : Agreed → Part
asked a = one (λ x. (x.from ≡ Server) × (x.kind ≡ authentication_kind a x.payload) × (first_is 0xff x.payload ≡ false) × (first_is 0 x.payload ≡ false))

-- the client's answer, in the plugin's format
abbrev pub auth_data : Part
auth_data = sent kind.AuthData (λ p. Unit {0})

-- the server sends a request, and the client may answer, until the OK packet
abbrev pub authentication : Agreed → Part
authentication a = many (asked a followed_by (nothing or auth_data)) followed_by ok a false

-- ---- a stream of events

abbrev pub event : Part
event = served kind.BinlogEvent (λ p. first_is 0 p ≡ true)

abbrev pub ack : Part
ack = sent kind.SemiSyncAck (λ p. first_is 0xef p ≡ true)

-- The last packet is an EOF packet under any capabilities: CLIENT_DEPRECATE_EOF doesn't change a stream of events.
abbrev pub events : Agreed → Part
events a = many (event or ack) followed_by eof a

-- ---- commands

-- what requests the results of an execution
abbrev pub execution : Bool → Request
execution true = Cursor
execution false = Execution

-- the answer to a command with this code, if it is a command's
abbrev pub answering : ℕ → Bool → Option Answer
answering code cursor =
    if code == COM_QUERY then Some (answer.Results Query)
    else (if code == COM_STMT_EXECUTE then Some (answer.Results (execution cursor))
    else (if code == COM_STMT_PREPARE then Some answer.Prepared
    else (if code == COM_STMT_FETCH then Some answer.Rows
    else (if code == COM_STMT_CLOSE then Some answer.Nothing
    else (if code == COM_STMT_SEND_LONG_DATA then Some answer.Nothing
    else (if code == COM_QUIT then Some answer.Quit
    else (if code == COM_PING then Some (answer.Acknowledgement false)
    else (if code == COM_INIT_DB then Some (answer.Acknowledgement false)
    else (if code == COM_STMT_RESET then Some (answer.Acknowledgement false)
    else (if code == COM_SET_OPTION then Some (answer.Acknowledgement true)
    else (if code == COM_RESET_CONNECTION then Some (answer.Acknowledgement false)
    else (if code == COM_STATISTICS then Some answer.Text
    else (if code == COM_PROCESS_INFO then Some (answer.Results Query)
    else (if code == COM_STMT_BULK_EXECUTE then Some (answer.Results Execution)
    else (if code == COM_FIELD_LIST then Some answer.Fields
    else (if code == COM_CREATE_DB then Some (answer.Acknowledgement false)
    else (if code == COM_DROP_DB then Some (answer.Acknowledgement false)
    else (if code == COM_REFRESH then Some (answer.Acknowledgement false)
    else (if code == COM_SHUTDOWN then Some (answer.Acknowledgement true)
    else (if code == COM_PROCESS_KILL then Some (answer.Acknowledgement false)
    else (if code == COM_DEBUG then Some (answer.Acknowledgement true)
    else (if code == COM_REGISTER_SLAVE then Some (answer.Acknowledgement false)
    else (if code == COM_CHANGE_USER then Some answer.Authentication
    else (if code == COM_BINLOG_DUMP then Some answer.Events
    else (if code == COM_BINLOG_DUMP_GTID then Some answer.Events
    else (if code == COM_CLONE then Some answer.Clone
    else (if code == 0xef then None  -- an acknowledgement of an event
    else Some answer.SessionError)))))))))))))))))))))))))))

-- the command code; a server takes an empty packet for COM_SLEEP (`Protocol_classic::get_command` in MySQL, `do_command` in MariaDB)
abbrev pub code_of : List ℕ → ℕ
code_of [] = COM_SLEEP
code_of (code ∷ bytes) = code

abbrev pub command : ℕ → Bool → Part
command code cursor = sent (kind.Command code) (λ p. (code_of p ≡ code) × (asks_cursor p ≡ cursor))

abbrev pub answered : Agreed → Option Answer → Part
answered a None = never
answered a (Some (answer.Results request)) = results a request
answered a (Some answer.Prepared) = prepared a
answered a (Some answer.Rows) = many (row a Binary) followed_by any_end a
answered a (Some (answer.Acknowledgement may_end)) = acknowledged a may_end
answered a (Some answer.Text) = text
answered a (Some answer.Fields) = many (field a) followed_by any_end a
answered a (Some answer.Authentication) = authentication a
answered a (Some answer.Events) = events a
answered a (Some answer.Nothing) = nothing
answered a (Some answer.Quit) = never
answered a (Some answer.Clone) = error a
answered a (Some answer.SessionError) = error a

-- a command and its whole answer
abbrev pub exchange_of : Agreed → ℕ → Bool → Part
exchange_of a code cursor = command code cursor followed_by answered a (answering code cursor)

abbrev pub exchange : Agreed → Part
exchange a = for_some (λ code. exchange_of a code true or exchange_of a code false)

-- ---- conversations

abbrev pub commands : PacketKind → Bool
commands (kind.Command code) = true
commands _ = false

-- a packet inside an exchange
abbrev pub inside : PacketKind → Bool
inside (kind.Command code) = false
inside kind.UnsolicitedError = false
inside kind.Clone = false
inside _ = true

abbrev pub IsInside : Packet → Type 0
IsInside x = inside x.kind ≡ true

-- in place of any packet inside the part there may be an error, which ends it
abbrev pub unless_broken : Agreed → Part → Part
unless_broken a part = part or broken part IsInside (error a)

-- an error between two exchanges: the server ends the connection
abbrev pub unsolicited_error : Agreed → Part
unsolicited_error a = one (λ x. (x.from ≡ Server) × (x.kind ≡ kind.UnsolicitedError) × IsError a x.payload)

abbrev pub exchanges : Agreed → Part
exchanges a = many (unless_broken a (exchange a))

-- a command with this answer
abbrev pub commanding : Answer → Part
commanding r = one (λ x. (x.from ≡ Client) × (x.kind ≡ kind.Command (code_of x.payload)) × (answering (code_of x.payload) (asks_cursor x.payload) ≡ Some r))

-- COM_QUIT, which a server may still answer with an error
abbrev pub quit : Agreed → Part
quit a = commanding answer.Quit followed_by (nothing or unsolicited_error a)

-- COM_CLONE, and the clone plugin's own protocol until the connection ends
abbrev pub cloned : Agreed → Part
cloned a = commanding answer.Clone followed_by ok a false followed_by many clone

-- what ends the connection: no packet follows
abbrev pub last : Agreed → Part
last a = nothing or quit a or unsolicited_error a or cloned a

abbrev pub commanded : Agreed → Part
commanded a = exchanges a followed_by last a

-- a login that is refused
abbrev pub refused_login : Agreed → Part
refused_login a = broken (authentication a) IsInside (error a)

abbrev pub conversation : Agreed → InitialPhase → List Packet → Type 0
conversation a opened_at.Login items = ((authentication a followed_by commanded a) or refused_login a) items []
conversation a opened_at.Commands items = commanded a items []

-- ---- reports of progress

abbrev pub IsReport : Agreed → Packet → Type 0
IsReport a x = (x.from ≡ Server) × (x.kind ≡ kind.ProgressReport) × (is_report a x.payload ≡ true)

-- the client may answer a packet of this kind with one that is no command
abbrev pub asks : PacketKind → Bool
asks kind.AuthSwitch = true
asks kind.OldAuthSwitch = true
asks kind.AuthMoreData = true
asks kind.AuthNextFactor = true
asks kind.AuthPluginData = true
asks kind.LocalInfile = true
asks kind.InfileContent = true
asks _ = false

-- the next packet is inside an exchange
abbrev pub InsideIsNext : List Packet → Type 0
InsideIsNext [] = ⊥
InsideIsNext (x ∷ xs) = IsInside x

-- a packet of this kind ends the login
abbrev pub ends_login : PacketKind → Bool
ends_login kind.Ok = true
ends_login kind.Error = true
ends_login _ = false

-- The packets are these others with progress reports among them, each inside the answer to a command, while the client isn't asked for
-- anything. There are none in a login.
abbrev pub Reported : Agreed → (is_login is_asked : Bool) → List Packet → List Packet → Type 0
Reported a is_login is_asked [] others = others ≡ []
Reported a is_login is_asked (x ∷ items) others =
    (IsReport a x × (is_login ≡ false) × (is_asked ≡ false) × InsideIsNext others × Reported a false false items others)
    ⊎ ((more : List Packet) × (others ≡ x ∷ more) × Reported a (is_login && not (ends_login x.kind)) (asks x.kind) items more)

abbrev pub begins_with_login : InitialPhase → Bool
begins_with_login opened_at.Login = true
begins_with_login opened_at.Commands = false

abbrev pub IsConversation : Agreed → InitialPhase → List Packet → Type 0
IsConversation a o items = (others : List Packet) × conversation a o others × Reported a (begins_with_login o) false items others

-- the beginning of a conversation
abbrev pub IsBeginning : Agreed → InitialPhase → List Packet → Type 0
IsBeginning a o items = (more : List Packet) × IsConversation a o (items ++ more)
