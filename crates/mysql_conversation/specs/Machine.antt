-- The machine: the kind of each packet in each state, and the next state.
use Rattle.std.specs.Prelude.{◌≡◌, ℕ, zero, suc, List, [], ◌∷◌, Bool, true, false, Option, Some, None, Ok, Err, nat_lt, not, ◌&&◌, ◌||◌, if◌then◌else◌}
use Rattle.mysql_wire.specs.Flags.{StatusFlags}
use Rattle.mysql_wire.specs.Reading.{Reading}
use Rattle.mysql_replies.specs.ColumnCount.{column_count, count, metadata_follows}
use Rattle.mysql_replies.specs.OkPacket.{status_flags}
use Rattle.mysql_replies.specs.declared.column_count.ColumnCount.{ColumnCount}
use Rattle.mysql_replies.specs.declared.ok_packet.OkPacketDeserializer.{OkPacketDeserializer}
use Rattle.mysql_stmt.specs.Stmt.{num_columns, num_params}
use Rattle.mysql_stmt.specs.StmtWithMetadata.{stmt_with_metadata, packet_of}
use Rattle.mysql_stmt.specs.declared.stmt_with_metadata.StmtPacketWithMetadata.{StmtPacketWithMetadata}
use Rattle.mysql_conversation.specs.Agreements.{Agreed, deprecates_eof}
use Rattle.mysql_conversation.specs.Runs.{Runs}
use Rattle.mysql_conversation.specs.Payloads.{has_more, opens_cursor, first_is, definitions_follow, ok_form, terminator_form, old_end_form, looks_like_end, is_report, asks_cursor, begins_row}
use Rattle.mysql_conversation.specs.Conversation.{Packet, code_of, answering, authentication_kind, ending, format_of}
use Rattle.mysql_conversation.specs.declared.state.After.{After}
use Rattle.mysql_conversation.specs.declared.state.After.TheVariants as after
use Rattle.mysql_conversation.specs.declared.state.Answer.{Answer}
use Rattle.mysql_conversation.specs.declared.state.Answer.TheVariants as answer
use Rattle.mysql_conversation.specs.declared.state.Request.{Request}
use Rattle.mysql_conversation.specs.declared.state.Request.TheVariants.{Query, Execution, Cursor}
use Rattle.mysql_conversation.specs.declared.state.Line.{Line}
use Rattle.mysql_conversation.specs.declared.state.Line.TheVariants as line
use Rattle.mysql_conversation.specs.declared.state.Reply.{Reply}
use Rattle.mysql_conversation.specs.declared.state.Reply.TheVariants as reply
use Rattle.mysql_conversation.specs.declared.state.State.{State}
use Rattle.mysql_conversation.specs.declared.state.State.TheVariants as state
use Rattle.mysql_conversation.specs.declared.packet_kind.RowFormat.{RowFormat}
use Rattle.mysql_conversation.specs.declared.packet_kind.RowFormat.TheVariants.{Text, Binary}
use Rattle.mysql_conversation.specs.declared.packet_kind.PacketKind.{PacketKind}
use Rattle.mysql_conversation.specs.declared.packet_kind.PacketKind.TheVariants as kind
use Rattle.mysql_conversation.specs.declared.packet_kind.InitialPhase.{InitialPhase}
use Rattle.mysql_conversation.specs.declared.packet_kind.InitialPhase.TheVariants as opened_at
use Rattle.mysql_conversation.specs.declared.packet_kind.Side.{Side}
use Rattle.mysql_conversation.specs.declared.packet_kind.Side.TheVariants.{Client, Server}

-- ---- payloads

-- the status of a packet that was parsed
abbrev pub status_in : {T : Type 0} → Reading (OkPacketDeserializer T) → Option StatusFlags
status_in (Ok x) = Some (status_flags x.0.0)
status_in (Err e) = None

unfoldable pub ok_status : Agreed → List ℕ → Option StatusFlags
ok_status a p = status_in ((ok_form a).reads p)

unfoldable pub old_end_status : Agreed → List ℕ → Option StatusFlags
old_end_status a p = status_in ((old_end_form a).reads p)

unfoldable pub terminator_status : Agreed → List ℕ → Option StatusFlags
terminator_status a p = status_in ((terminator_form a).reads p)

abbrev pub end_status : Agreed → Bool → List ℕ → Option StatusFlags
end_status a true p = terminator_status a p
end_status a false p = old_end_status a p

abbrev pub ok_of : Option StatusFlags → Option Reply
ok_of None = None
ok_of (Some status) = Some (reply.Ok (has_more status))

abbrev pub count_in : Reading ColumnCount → Option ColumnCount
count_in (Ok x) = Some x.0
count_in (Err e) = None

unfoldable pub count_at : Agreed → List ℕ → Option ColumnCount
count_at a p = count_in ((column_count.form a).reads p)

abbrev pub columns_of : Option ColumnCount → Option Reply
columns_of None = None
columns_of (Some c) = if nat_lt 0 (count c) then Some (reply.Columns (count c) (metadata_follows c)) else None

abbrev pub reply_of : Agreed → List ℕ → Option Reply
reply_of a p =
    if first_is 0 p then ok_of (ok_status a p)
    else (if first_is 0xfb p then Some reply.Infile
    else columns_of (count_at a p))

abbrev pub end_of : Option StatusFlags → Option Line
end_of None = None
end_of (Some status) = Some (line.End (has_more status))

-- what may be a row, and can't be an end
abbrev pub row_of : RowFormat → List ℕ → Option Line
row_of Text p = Some line.Row
row_of Binary p = if first_is 0 p then Some line.Row else None

abbrev pub line_of : Agreed → RowFormat → List ℕ → Option Line
line_of a format p =
    if looks_like_end (deprecates_eof a) p then end_of (end_status a (deprecates_eof a) p)
    else row_of format p

abbrev pub old_end_of : Agreed → List ℕ → Option StatusFlags
old_end_of a p = if looks_like_end false p then old_end_status a p else None

abbrev pub statement_in : Reading StmtPacketWithMetadata → Option StmtPacketWithMetadata
statement_in (Ok x) = Some x.0
statement_in (Err e) = None

unfoldable pub statement_at : Agreed → List ℕ → Option StmtPacketWithMetadata
statement_at a p = statement_in ((stmt_with_metadata.form a.mysql).reads p)

-- ---- the states

-- the initial state
abbrev pub entrance : InitialPhase → State
entrance opened_at.Login = state.Authentication true false
entrance opened_at.Commands = state.Rest

-- the state after definitions
abbrev pub enter : After → State
enter (after.Rows r) = state.Rows r
enter (after.Columns zero) = state.Rest
enter (after.Columns (suc n)) = state.Definitions n after.Rest
enter after.End = state.DefinitionsEnd after.Rest
enter after.Rest = state.Rest

-- the state after the last definitions
abbrev pub defined : Bool → After → State
defined true b = enter b
defined false b = state.DefinitionsEnd b

-- the state after a definition; this many follow
abbrev pub less : Bool → ℕ → After → State
less deprecates zero b = defined deprecates b
less deprecates (suc n) b = state.Definitions n b

-- the state before a given number of definitions
abbrev pub define : ℕ → After → State
define zero b = enter b
define (suc n) b = state.Definitions n b

-- the state at the end of a result
abbrev pub ended : Request → Bool → State
ended r true = state.Reply r
ended r false = state.Rest

-- the state at the beginning of an answer
abbrev pub answers : Answer → State
answers (answer.Results r) = state.Reply r
answers answer.Prepared = state.Prepared
answers answer.Rows = state.Fetch
answers (answer.Acknowledgement may_end) = state.Acknowledgement may_end
answers answer.Text = state.Text
answers answer.Fields = state.Fields
answers answer.Authentication = state.Authentication false false
answers answer.Events = state.Events
answers answer.Nothing = state.Rest
answers answer.Quit = state.Quit
answers answer.Clone = state.CloneReply
answers answer.SessionError = state.SessionError

-- ---- the steps

abbrev pub begun : ℕ → Option Answer → Option (PacketKind × State)
begun code None = None
begun code (Some a) = Some (kind.Command code, answers a)

abbrev pub command_step : List ℕ → Option (PacketKind × State)
command_step p = begun (code_of p) (answering (code_of p) (asks_cursor p))

abbrev pub infile_step : Request → List ℕ → Option (PacketKind × State)
infile_step r [] = Some (kind.InfileEnd, state.InfileReply r)
infile_step r (b ∷ bytes) = Some (kind.InfileContent, state.Infile r)

abbrev pub answer_step : Bool → Bool → Option (PacketKind × State)
answer_step login true = Some (kind.AuthData, state.Authentication login false)
answer_step login false = None

abbrev pub ack_step : List ℕ → Option (PacketKind × State)
ack_step p = if first_is 0xef p then Some (kind.SemiSyncAck, state.Events) else None

abbrev pub client_step : State → List ℕ → Option (PacketKind × State)
client_step state.Rest p = command_step p
client_step (state.Authentication login is_asked) p = answer_step login is_asked
client_step (state.Infile r) p = infile_step r p
client_step state.Events p = ack_step p
client_step state.Clone p = Some (kind.Clone, state.Clone)
client_step _ p = None

-- an event, or the EOF packet after the last one
abbrev pub event_step : Bool → Option StatusFlags → Option (PacketKind × State)
event_step true status = Some (kind.BinlogEvent, state.Events)
event_step false None = None
event_step false (Some status) = Some (kind.Eof, state.Rest)

-- the state after a column count
abbrev pub counted : Bool → ℕ → Bool → After → State
counted deprecates n true b = define n b
counted deprecates n false b = defined deprecates b

abbrev pub logged_in : Option StatusFlags → Option (PacketKind × State)
logged_in None = None
logged_in (Some status) = if has_more status then None else Some (kind.Ok, state.Rest)

abbrev pub authentication_step : Agreed → Bool → List ℕ → Option StatusFlags → Option (PacketKind × State)
authentication_step a login p status =
    if first_is 0 p then logged_in status
    else Some (authentication_kind a p, state.Authentication login true)

abbrev pub reply_step : Bool → Request → Option Reply → Option (PacketKind × State)
reply_step deprecates r None = None
reply_step deprecates r (Some (reply.Ok more)) = Some (kind.Ok, ended r more)
reply_step deprecates r (Some reply.Infile) = Some (kind.LocalInfile, state.Infile r)
reply_step deprecates r (Some (reply.Columns n follow)) = Some (kind.ColumnCount n follow, counted deprecates n follow (after.Rows r))

abbrev pub infile_reply_step : Request → Option Reply → Option (PacketKind × State)
infile_reply_step r (Some (reply.Ok more)) = Some (kind.Ok, ended r more)
infile_reply_step r _ = None

-- the state after the EOF packet of a result's definitions: rows follow, unless the requested cursor is open
abbrev pub columns_step : StatusFlags → Request → Option (PacketKind × State)
columns_step status Query = Some (kind.Eof, state.Rows Query)
columns_step status Execution = Some (kind.Eof, state.Rows Execution)
columns_step status Cursor = if opens_cursor status then Some (kind.Eof, ended Cursor (has_more status)) else Some (kind.Eof, state.Rows Cursor)

abbrev pub definitions_end_step : After → Option StatusFlags → Option (PacketKind × State)
definitions_end_step b None = None
definitions_end_step (after.Rows r) (Some status) = columns_step status r
definitions_end_step (after.Columns n) (Some status) = Some (kind.Eof, enter (after.Columns n))
definitions_end_step after.End (Some status) = Some (kind.Eof, enter after.End)
definitions_end_step after.Rest (Some status) = Some (kind.Eof, state.Rest)

abbrev pub line_step : Bool → Request → Option Line → Option (PacketKind × State)
line_step deprecates r None = None
line_step deprecates r (Some line.Row) = Some (kind.Row (format_of r), state.Rows r)
line_step deprecates r (Some (line.End more)) = Some (ending deprecates, ended r more)

-- the state is among rows, and the first byte says that the packet is one of them
abbrev pub says_row : State → List ℕ → Bool
says_row (state.Rows r) p = begins_row (format_of r) p
says_row s p = false

-- a packet of this kind, after which the state is the same, or the end
abbrev pub last_step : Bool → PacketKind → State → Option Line → Option (PacketKind × State)
last_step deprecates k s None = None
last_step deprecates k s (Some line.Row) = Some (k, s)
last_step deprecates k s (Some (line.End more)) = Some (ending deprecates, state.Rest)

-- the definitions of a given number of columns are left out, but not the EOF packet after them
abbrev pub column_end : ℕ → State
column_end zero = state.Rest
column_end (suc n) = state.DefinitionsEnd after.Rest

-- the same, with the definitions of a given number of parameters before them
abbrev pub param_end : (params columns : ℕ) → State
param_end zero columns = column_end columns
param_end (suc n) zero = state.DefinitionsEnd after.Rest
param_end (suc n) (suc m) = state.DefinitionsEnd after.End

-- the state after a prepared statement, whose definitions follow or not; if EOF packets are deprecated, nothing replaces definitions that
-- are left out
abbrev pub prepared_by : Bool → Bool → ℕ → ℕ → State
prepared_by deprecates true columns params = define params (after.Columns columns)
prepared_by true false columns params = state.Rest
prepared_by false false columns params = param_end params columns

abbrev pub prepared_step : Bool → Option StmtPacketWithMetadata → Option (PacketKind × State)
prepared_step deprecates None = None
prepared_step deprecates (Some s) =
    Some (
      kind.PrepareOk (num_columns (packet_of s)) (num_params (packet_of s)) (definitions_follow s),
      prepared_by deprecates (definitions_follow s) (num_columns (packet_of s)) (num_params (packet_of s)),
    )

-- an OK packet, after which no results follow
abbrev pub last_ok : State → Option Reply → Option (PacketKind × State)
last_ok m (Some (reply.Ok more)) = if more then None else Some (kind.Ok, m)
last_ok m _ = None

-- an end, if the server may send one
abbrev pub last_end : Bool → Bool → Bool → Option (PacketKind × State)
last_end deprecates may_end more = if more || not may_end then None else Some (ending deprecates, state.Rest)

abbrev pub acknowledgement_step : Bool → Bool → Option Line → Option Reply → Option (PacketKind × State)
acknowledgement_step deprecates may_end (Some (line.End more)) r = last_end deprecates may_end more
acknowledgement_step deprecates may_end (Some line.Row) r = last_ok state.Rest r
acknowledgement_step deprecates may_end None r = None

-- a packet of the server that is no error
abbrev pub serve : Agreed → State → List ℕ → Option (PacketKind × State)
serve a (state.Authentication login is_asked) p = authentication_step a login p (ok_status a p)
serve a (state.Reply r) p = reply_step (deprecates_eof a) r (reply_of a p)
serve a (state.InfileReply r) p = infile_reply_step r (reply_of a p)
serve a (state.Definitions n b) p = Some (kind.Column, less (deprecates_eof a) n b)
serve a (state.DefinitionsEnd b) p = definitions_end_step b (old_end_of a p)
serve a (state.Rows r) p = line_step (deprecates_eof a) r (line_of a (format_of r) p)
serve a state.Prepared p = prepared_step (deprecates_eof a) (statement_at a p)
serve a state.Fetch p = last_step (deprecates_eof a) (kind.Row Binary) state.Fetch (line_of a Binary p)
serve a (state.Acknowledgement may_end) p = acknowledgement_step (deprecates_eof a) may_end (line_of a Text p) (reply_of a p)
serve a state.Text p = Some (kind.Statistics, state.Rest)
serve a state.Fields p = last_step (deprecates_eof a) kind.FieldListColumn state.Fields (line_of a Text p)
serve a state.Events p = event_step (first_is 0 p) (old_end_of a p)
serve a state.CloneReply p = last_ok state.Clone (reply_of a p)
serve a state.Clone p = Some (kind.Clone, state.Clone)
serve a _ p = None

-- ---- turns

-- no exchange is open, and a command may come
abbrev pub is_rest : State → Bool
is_rest state.Rest = true
is_rest _ = false

-- no command follows any more
abbrev pub is_shut : State → Bool
is_shut state.Clone = true
is_shut state.Quit = true
is_shut state.Over = true
is_shut _ = false

-- no exchange is open
abbrev pub rests : State → Bool
rests state.Rest = true
rests state.Clone = true
rests state.Quit = true
rests state.Over = true
rests _ = false

-- the client may answer with a packet that is no command
abbrev pub listens : State → Bool
listens (state.Authentication login is_asked) = is_asked
listens (state.Infile r) = true
listens _ = false

-- it is the server's turn, and a packet of the client would not be its answer
abbrev pub is_due : State → Bool
is_due state.Rest = false
is_due (state.Authentication login true) = false
is_due (state.Authentication login false) = true
is_due (state.Infile r) = false
is_due state.Clone = false
is_due state.Quit = false
is_due state.Over = false
is_due _ = true

-- a login is in progress
abbrev pub is_login : State → Bool
is_login (state.Authentication true is_asked) = true
is_login _ = false

-- a progress report may come
abbrev pub reports : State → Bool
reports s = is_due s && not (is_login s)

-- an error: inside an exchange; of a login, which ends the connection; or unsolicited, which ends it too
abbrev pub error_step : State → Option (PacketKind × State)
error_step state.Rest = Some (kind.UnsolicitedError, state.Over)
error_step (state.Authentication true is_asked) = Some (kind.Error, state.Over)
error_step state.Quit = Some (kind.UnsolicitedError, state.Over)
error_step state.Over = None
error_step state.Clone = Some (kind.Clone, state.Clone)
error_step _ = Some (kind.Error, state.Rest)

-- what begins with ff and is no report that may come; the clone plugin has its own protocol
abbrev pub failed : Bool → State → Option (PacketKind × State)
failed is_report state.Clone = Some (kind.Clone, state.Clone)
failed true s = None
failed false s = error_step s

-- the kind of a packet that is no progress report, and the next state
abbrev pub step : Agreed → State → Side → List ℕ → Option (PacketKind × State)
step a s Client p = client_step s p
step a s Server p = if first_is 0xff p then failed (is_report a p) s else serve a s p

-- from this state the machine takes these packets, returns their kinds, and reaches that state
abbrev pub StepsTo : Agreed → State → Packet → State → Type 0
StepsTo a s x m = step a s x.from x.payload ≡ Some (x.kind, m)

abbrev pub Run : Agreed → State → List Packet → State → Type 0
Run a s items t = Runs (StepsTo a) s items t

-- the kind of a packet, and the next state
abbrev pub take_step : Agreed → State → Side → List ℕ → Option (PacketKind × State)
take_step a s Client p = step a s Client p
take_step a s Server p = if is_report a p && reports s then Some (kind.ProgressReport, s) else step a s Server p

-- `runs`, with progress reports among the packets
abbrev pub TakesOne : Agreed → State → Packet → State → Type 0
TakesOne a s x m = take_step a s x.from x.payload ≡ Some (x.kind, m)

abbrev pub Takes : Agreed → State → List Packet → State → Type 0
Takes a s items t = Runs (TakesOne a) s items t
