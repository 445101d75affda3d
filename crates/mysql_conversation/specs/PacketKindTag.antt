-- The names of packet kinds: written by tools/tables.py from tables/packet_kinds.txt.
use Rattle.std.specs.Prelude.{ℕ, List, codes, Bool, false, ◌==◌, ◌||◌, [], ◌∷◌}
use Rattle.mysql_conversation.specs.declared.packet_kind.RowFormat.TheVariants.{Text, Binary}
use Rattle.mysql_conversation.specs.declared.packet_kind.PacketKind.{PacketKind}
use Rattle.mysql_conversation.specs.declared.packet_kind.PacketKind.TheVariants as kind
use Rattle.mysql_conversation.specs.declared.packet_kind_tag.PacketKindTag.{PacketKindTag}
use Rattle.mysql_conversation.specs.declared.packet_kind_tag.PacketKindTag.TheVariants as name

-- a kind without its fields
abbrev pub name_of : PacketKind → PacketKindTag
name_of kind.Handshake = name.Handshake
name_of kind.SslRequest = name.SslRequest
name_of kind.Login = name.Login
name_of kind.AuthSwitch = name.AuthSwitch
name_of kind.OldAuthSwitch = name.OldAuthSwitch
name_of kind.AuthMoreData = name.AuthMoreData
name_of kind.AuthNextFactor = name.AuthNextFactor
name_of kind.AuthPluginData = name.AuthPluginData
name_of kind.AuthData = name.AuthData
name_of (kind.Command code) = name.Command
name_of kind.Ok = name.Ok
name_of kind.Error = name.Error
name_of kind.UnsolicitedError = name.UnsolicitedError
name_of kind.ProgressReport = name.ProgressReport
name_of kind.LocalInfile = name.LocalInfile
name_of kind.InfileContent = name.InfileContent
name_of kind.InfileEnd = name.InfileEnd
name_of (kind.ColumnCount n follow) = name.ColumnCount
name_of kind.Column = name.Column
name_of kind.FieldListColumn = name.FieldListColumn
name_of kind.Eof = name.Eof
name_of kind.OkTerminator = name.OkTerminator
name_of (kind.Row Text) = name.TextRow
name_of (kind.Row Binary) = name.BinaryRow
name_of (kind.PrepareOk columns params follow) = name.PrepareOk
name_of kind.Statistics = name.Statistics
name_of kind.BinlogEvent = name.BinlogEvent
name_of kind.SemiSyncAck = name.SemiSyncAck
name_of kind.Clone = name.Clone

-- the text of a name
abbrev pub text_of : PacketKindTag → List ℕ
text_of name.Handshake = codes "handshake"
text_of name.SslRequest = codes "ssl_request"
text_of name.Login = codes "login"
text_of name.AuthSwitch = codes "auth_switch"
text_of name.OldAuthSwitch = codes "old_auth_switch"
text_of name.AuthMoreData = codes "auth_more_data"
text_of name.AuthNextFactor = codes "auth_next_factor"
text_of name.AuthPluginData = codes "auth_plugin_data"
text_of name.AuthData = codes "auth_data"
text_of name.Command = codes "command"
text_of name.Ok = codes "ok"
text_of name.Error = codes "error"
text_of name.UnsolicitedError = codes "unsolicited_error"
text_of name.ProgressReport = codes "progress_report"
text_of name.LocalInfile = codes "local_infile"
text_of name.InfileContent = codes "infile_content"
text_of name.InfileEnd = codes "infile_end"
text_of name.ColumnCount = codes "column_count"
text_of name.Column = codes "column"
text_of name.FieldListColumn = codes "field_list_column"
text_of name.Eof = codes "eof"
text_of name.OkTerminator = codes "ok_terminator"
text_of name.TextRow = codes "text_row"
text_of name.BinaryRow = codes "binary_row"
text_of name.PrepareOk = codes "prepare_ok"
text_of name.Statistics = codes "statistics"
text_of name.BinlogEvent = codes "binlog_event"
text_of name.SemiSyncAck = codes "semi_sync_ack"
text_of name.Clone = codes "clone"

-- the names, by number
abbrev pub index : PacketKindTag → ℕ
index name.Handshake = 0
index name.SslRequest = 1
index name.Login = 2
index name.AuthSwitch = 3
index name.OldAuthSwitch = 4
index name.AuthMoreData = 5
index name.AuthNextFactor = 6
index name.AuthPluginData = 7
index name.AuthData = 8
index name.Command = 9
index name.Ok = 10
index name.Error = 11
index name.UnsolicitedError = 12
index name.ProgressReport = 13
index name.LocalInfile = 14
index name.InfileContent = 15
index name.InfileEnd = 16
index name.ColumnCount = 17
index name.Column = 18
index name.FieldListColumn = 19
index name.Eof = 20
index name.OkTerminator = 21
index name.TextRow = 22
index name.BinaryRow = 23
index name.PrepareOk = 24
index name.Statistics = 25
index name.BinlogEvent = 26
index name.SemiSyncAck = 27
index name.Clone = 28

-- the name is in the list
abbrev pub is_in : PacketKindTag → List PacketKindTag → Bool
is_in n [] = false
is_in n (x ∷ xs) = index n == index x || is_in n xs
