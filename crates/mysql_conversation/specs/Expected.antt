-- Which kinds may come next.
use Rattle.std.specs.Prelude.{List, [], ◌∷◌, ◌++◌, Bool, true, false, ◌&&◌, ◌||◌, ◌==◌, not, if◌then◌else◌}
use Rattle.mysql_conversation.specs.Agreements.{Agreed, deprecates_eof, asks_factors, reports_progress}
use Rattle.mysql_conversation.specs.Machine.{is_due, reports}
use Rattle.mysql_conversation.specs.PacketKindTag.{index, is_in}
use Rattle.mysql_conversation.specs.Standing.{Standing, waits, quits}
use Rattle.mysql_conversation.specs.declared.packet_kind.Side.{Side}
use Rattle.mysql_conversation.specs.declared.packet_kind.Side.TheVariants.{Client, Server}
use Rattle.mysql_conversation.specs.declared.packet_kind_tag.PacketKindTag.{PacketKindTag}
use Rattle.mysql_conversation.specs.declared.packet_kind_tag.PacketKindTag.TheVariants as name
use Rattle.mysql_conversation.specs.declared.state.Request.{Request}
use Rattle.mysql_conversation.specs.declared.state.Request.TheVariants.{Query, Execution, Cursor}
use Rattle.mysql_conversation.specs.declared.state.State.{State}
use Rattle.mysql_conversation.specs.declared.state.State.TheVariants as state

-- from the client
abbrev pub sent_names : State → List PacketKindTag
sent_names state.Rest = name.Command ∷ []
sent_names (state.Authentication login true) = name.AuthData ∷ []
sent_names (state.Infile r) = name.InfileContent ∷ name.InfileEnd ∷ []
sent_names state.Events = name.SemiSyncAck ∷ []
sent_names state.Clone = name.Clone ∷ []
sent_names _ = []

-- the kind of an end
abbrev pub end_name : Bool → PacketKindTag
end_name true = name.OkTerminator
end_name false = name.Eof

abbrev pub row_name : Request → PacketKindTag
row_name Query = name.TextRow
row_name Execution = name.BinaryRow
row_name Cursor = name.BinaryRow

-- the server's packets before the authentication ends
abbrev pub asked_names : Bool → List PacketKindTag
asked_names true = name.AuthSwitch ∷ name.OldAuthSwitch ∷ name.AuthMoreData ∷ name.AuthNextFactor ∷ name.AuthPluginData ∷ []
asked_names false = name.AuthSwitch ∷ name.OldAuthSwitch ∷ name.AuthMoreData ∷ name.AuthPluginData ∷ []

-- from the server, except for an error or a progress report
abbrev pub served_names : Agreed → State → List PacketKindTag
served_names a (state.Authentication login is_asked) = name.Ok ∷ asked_names (asks_factors a)
served_names a (state.Reply r) = name.Ok ∷ name.LocalInfile ∷ name.ColumnCount ∷ []
served_names a (state.InfileReply r) = name.Ok ∷ []
served_names a (state.Definitions n b) = name.Column ∷ []
served_names a (state.DefinitionsEnd b) = name.Eof ∷ []
served_names a (state.Rows r) = row_name r ∷ end_name (deprecates_eof a) ∷ []
served_names a state.Prepared = name.PrepareOk ∷ []
served_names a state.Fetch = name.BinaryRow ∷ end_name (deprecates_eof a) ∷ []
served_names a (state.Acknowledgement true) = name.Ok ∷ end_name (deprecates_eof a) ∷ []
served_names a (state.Acknowledgement false) = name.Ok ∷ []
served_names a state.Text = name.Statistics ∷ []
served_names a state.Fields = name.FieldListColumn ∷ end_name (deprecates_eof a) ∷ []
served_names a state.Events = name.BinlogEvent ∷ name.Eof ∷ []
served_names a state.CloneReply = name.Ok ∷ []
served_names a state.Clone = name.Clone ∷ []
served_names a _ = []

-- packets that begin with ff, except for a report
abbrev pub error_names : State → List PacketKindTag
error_names state.Rest = name.UnsolicitedError ∷ []
error_names state.Clone = name.Clone ∷ []
error_names state.Quit = name.UnsolicitedError ∷ []
error_names state.Over = []
error_names _ = name.Error ∷ []

abbrev pub reported : Bool → List PacketKindTag → List PacketKindTag
reported true names = name.ProgressReport ∷ names
reported false names = names

-- an error may come at any time before the end, and a progress report during the answer to a command
abbrev pub names : Agreed → State → Side → List PacketKindTag
names a s Client = sent_names s
names a s Server = error_names s ++ reported (reports_progress a && reports s) (served_names a s)

abbrev pub may_receive : Agreed → State → Side → PacketKindTag → Bool
may_receive a s side n = is_in n (names a s side)

-- the client may answer with a packet that is no command
abbrev pub asking_names : List PacketKindTag
asking_names = name.AuthSwitch ∷ name.OldAuthSwitch ∷ name.AuthMoreData ∷ name.AuthNextFactor ∷ name.AuthPluginData ∷ name.LocalInfile ∷ name.InfileContent ∷ []

-- no command follows
abbrev pub shutting_names : State → List PacketKindTag
shutting_names state.Rest = name.UnsolicitedError ∷ []
shutting_names (state.Authentication true is_asked) = name.Error ∷ []
shutting_names state.CloneReply = name.Ok ∷ []
shutting_names state.Clone = name.Clone ∷ []
shutting_names state.Quit = name.UnsolicitedError ∷ []
shutting_names _ = []

-- Where commands may be pipelined: a command if it is the server's turn and no COM_QUIT waits, and another packet of the client if no
-- command waits. While commands wait, the server asks the client for nothing, and doesn't end the connection.
abbrev pub pipe_expects : Agreed → Standing → Side → PacketKindTag → Bool
pipe_expects a w Client n =
    if is_due w.state then (may_receive a w.state Client n && not (waits w.waiting)) || (index n == index name.Command && not (quits w.waiting))
    else may_receive a w.state Client n
pipe_expects a w Server n = may_receive a w.state Server n && not (waits w.waiting && (is_in n asking_names || is_in n (shutting_names w.state)))

-- the first packet of a session, and the answer to the greeting, in TLS or not
abbrev pub greeting_names : Side → List PacketKindTag
greeting_names Client = []
greeting_names Server = name.Handshake ∷ name.UnsolicitedError ∷ []

-- the answer to a packet that is no login
abbrev pub login_error_names : Side → List PacketKindTag
login_error_names Client = []
login_error_names Server = name.Error ∷ []

abbrev pub login_names : Bool → Side → List PacketKindTag
login_names tls Server = name.UnsolicitedError ∷ []
login_names true Client = name.Login ∷ []
login_names false Client = name.SslRequest ∷ name.Login ∷ []
