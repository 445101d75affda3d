-- The fields of the server's packets.
use Rattle.std.specs.Prelude.{◌≡◌, ℕ, List, [], ◌∷◌, ◌++◌, length, Option, Some, None, codes}
use Rattle.mysql_auth.specs.AuthMoreData.{more_data}
use Rattle.mysql_stmt.specs.StmtWithMetadata.{packet_of}
use Rattle.mysql_repl.specs.BinlogStreamEvent.{event_bytes}
use Rattle.mysql_repl.specs.declared.binlog_stream_event.BinlogStreamEvent.{BinlogStreamEvent}
use Rattle.mysql_replies.specs.ExtendedColumn as extended
use Rattle.mysql_replies.specs.FieldListColumn as listed
use Rattle.mysql_replies.specs.FieldListColumn.{Definition}
use Rattle.mysql_replies.specs.GreetingError.{error_of_greeting}
use Rattle.mysql_replies.specs.ErrPacket.{ErrPacket}
use Rattle.mysql_replies.specs.declared.err_packet.ErrPacketOf.TheVariants as err
use Rattle.mysql_replies.specs.declared.extended_column.ExtendedColumn.{ExtendedColumn}
use Rattle.mysql_values.specs.Value.{Content, NULL, Bytes as ByteString}
use Rattle.mysql_observer.specs.declared.server.ServerPacket.{ServerPacket}
use Rattle.mysql_observer.specs.declared.server.ServerPacket.TheVariants as packet
use Rattle.mysql_show.specs.Columns.{column_names, column_numbers}
use Rattle.mysql_show.specs.Fields.{Said, said, Bytes, Number, Value, Word}
use Rattle.mysql_show.specs.Logins.{greeting_fields, plugin_fields, version_fields}
use Rattle.mysql_show.specs.Replies.{count_fields, end_fields, error_fields, infile_fields, ok_fields, report_fields, statement_fields, terminator_fields}
use Rattle.mysql_recorder.specs.ChangeFields.{AppendsChanges}
use Rattle.mysql_recorder.specs.ValueFields.{row_fields}

-- an error, or MariaDB's report of progress in its place
abbrev pub err_fields : ErrPacket → List Said
err_fields (err.Error e) = error_fields e
err_fields (err.Progress report) = report_fields report

abbrev pub metadata_fields : Option (List ℕ) → List Said
metadata_fields None = []
metadata_fields (Some metadata) = said (codes "extended_metadata") (Bytes metadata) ∷ []

abbrev pub column_fields : ExtendedColumn → List Said
column_fields c = column_names (extended.column_of c) ++ column_numbers (extended.column_of c) ++ metadata_fields (extended.metadata_of c)

abbrev pub default_content : Option (List ℕ) → Content
default_content None = NULL
default_content (Some text) = ByteString text

-- a column, and its default value
abbrev pub field_list_fields : Definition → List Said
field_list_fields c = column_fields (listed.column_of c) ++ said (codes "default_value") (Value (default_content (listed.default_of c))) ∷ []

abbrev pub length_field : List ℕ → List Said
length_field bytes = said (codes "length") (Number (length bytes)) ∷ []

abbrev pub event_fields : BinlogStreamEvent → List Said
event_fields event = said (codes "event_size") (Number (length (event_bytes event))) ∷ []

-- the fields of a packet, without the session changes of an OK packet
abbrev pub server_fields : {C : Type 0} → ServerPacket C → List Said
server_fields (packet.Handshake greeting) = version_fields greeting ++ greeting_fields greeting
server_fields (packet.GreetingError e) = error_fields (error_of_greeting e)
server_fields (packet.AuthSwitch switch) = plugin_fields switch
server_fields (packet.OldAuthSwitch switch) = []
server_fields (packet.AuthMoreData it) = said (codes "data") (Bytes (more_data it)) ∷ []
server_fields (packet.AuthNextFactor factor) = plugin_fields factor
server_fields (packet.AuthPluginData it) = said (codes "data") (Bytes it) ∷ []
server_fields (packet.Ok ok) = ok_fields ok
server_fields (packet.Error e) = err_fields e
server_fields (packet.UnsolicitedError e) = err_fields e
server_fields (packet.ProgressReport report) = report_fields report
server_fields (packet.LocalInfile file) = infile_fields file
server_fields (packet.ColumnCount count) = count_fields count
server_fields (packet.Column column) = column_fields column
server_fields (packet.FieldListColumn column) = field_list_fields column
server_fields (packet.Eof end) = end_fields end
server_fields (packet.OkTerminator end) = terminator_fields end
server_fields (packet.TextRow row) = row_fields row
server_fields (packet.BinaryRow row) = row_fields row
server_fields (packet.UntypedRow row) = said (codes "columns") (Word (codes "unknown")) ∷ []
server_fields (packet.PrepareOk statement) = statement_fields (packet_of statement)
server_fields (packet.Statistics text) = said (codes "text") (Bytes text) ∷ []
server_fields (packet.BinlogEvent event) = event_fields event
server_fields (packet.Clone bytes) = length_field bytes

-- the fields of a packet are appended, and after those of an OK packet its session changes
abbrev pub AppendsServer : {C : Type 0} → ServerPacket C → (old new : List Said) → Type 0
AppendsServer (packet.Ok ok) old new = AppendsChanges ok (old ++ ok_fields ok) new
AppendsServer (packet.OkTerminator end) old new = AppendsChanges end (old ++ terminator_fields end) new
AppendsServer p old new = new ≡ old ++ server_fields p
