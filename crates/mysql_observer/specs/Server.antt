-- Packets of the server: the grammar of each kind.
use Rattle.std.specs.Prelude.{ℕ, Bool, List, Option, Some, None, option_copied}
use Rattle.mysql_wire.specs.declared.codes.column_type.ColumnType.{ColumnType}
use Rattle.mysql_wire.specs.Form.{Form, ◌>>=◌, all_left, map}
use Rattle.mysql_wire.specs.Skip.{skip}
use Rattle.mysql_auth.specs.AuthMoreData.{auth_more_data}
use Rattle.mysql_auth.specs.AuthNextFactor.{auth_next_factor}
use Rattle.mysql_auth.specs.AuthSwitchRequest.{auth_switch_request}
use Rattle.mysql_auth.specs.Handshake.{handshake}
use Rattle.mysql_auth.specs.OldAuthSwitchRequest.{old_auth_switch_request}
use Rattle.mysql_stmt.specs.RowView.{RowLeft, ref_cell, row_front, row_left, text_row_left}
use Rattle.mysql_stmt.specs.StmtWithMetadata.{stmt_with_metadata}
use Rattle.mysql_repl.specs.BinlogStreamEvent.{stream_event}
use Rattle.mysql_replies.specs.ColumnCount.{column_count}
use Rattle.mysql_replies.specs.ErrPacket.{err_packet}
use Rattle.mysql_replies.specs.ExtendedColumn.{extended_column}
use Rattle.mysql_replies.specs.FieldListColumn.{field_list_column}
use Rattle.mysql_replies.specs.GreetingError.{greeting_error}
use Rattle.mysql_replies.specs.LocalInfile.{local_infile}
use Rattle.mysql_replies.specs.OkKind.{common_ok_body, terminator_body, old_eof_body}
use Rattle.mysql_replies.specs.OkPacket.{ok_packet, packet}
use Rattle.mysql_replies.specs.ProgressReport.{ProgressReport, progress_report}
use Rattle.mysql_replies.specs.declared.ok_kind.CommonOkPacket.{CommonOkPacket}
use Rattle.mysql_replies.specs.declared.ok_kind.OldEofPacket.{OldEofPacket}
use Rattle.mysql_replies.specs.declared.ok_kind.ResultSetTerminator.{ResultSetTerminator}
use Rattle.mysql_replies.specs.declared.ok_packet.OkPacket.{OkPacket}
use Rattle.mysql_replies.specs.declared.session_capabilities.SessionCapabilities.{SessionCapabilities}
use Rattle.mysql_conversation.specs.declared.packet_kind.RowFormat.TheVariants.{Text, Binary}
use Rattle.mysql_conversation.specs.declared.packet_kind.PacketKind.{PacketKind}
use Rattle.mysql_conversation.specs.declared.packet_kind.PacketKind.TheVariants as kind
use Rattle.mysql_observer.specs.Context.{agreed_or_none, other_side}
use Rattle.mysql_observer.specs.declared.read_context.ReadContext.{ReadContext}
use Rattle.mysql_observer.specs.declared.server.ServerPacket.{ServerPacket}
use Rattle.mysql_observer.specs.declared.server.ServerPacket.TheVariants as variant

-- ---- the three kinds of OK packets

abbrev pub ok_form : SessionCapabilities → Form OkPacket
ok_form a = map packet (ok_packet {T = CommonOkPacket} 0 (common_ok_body a.mysql))

abbrev pub eof_form : SessionCapabilities → Form OkPacket
eof_form a = map packet (ok_packet {T = OldEofPacket} 0xfe (old_eof_body a.mysql))

abbrev pub ok_terminator_form : SessionCapabilities → Form OkPacket
ok_terminator_form a = map packet (ok_packet {T = ResultSetTerminator} 0xfe (terminator_body a.mysql))

-- three bytes that mark a report, and the report
abbrev pub report_form : Form ProgressReport
report_form = skip 3 >>= (λ head. progress_report.form tt)

-- ---- rows, whose values are read later: each has the rest of the bytes, and only the beginning of a binary row is read

-- a number of text values
abbrev pub text_row : ℕ → Form RowLeft
text_row columns = map (text_row_left columns) all_left

module _ {C : Type 0} (type_of : C → ColumnType) (unsigned : C → Bool) where
  -- a byte with any value, the NULL bitmap, and a value for each column
  abbrev pub binary_row : List C → Form RowLeft
  binary_row columns = do
    nulls ← row_front type_of unsigned 2 columns
    map (row_left (ref_cell type_of unsigned nulls.bytes 2) 0 columns) all_left

  -- a binary row under its columns; if they are unknown, the whole payload
  abbrev pub row_under : Option (List C) → Form (ServerPacket C)
  row_under None = map variant.UntypedRow all_left
  row_under (Some columns) = map variant.BinaryRow (binary_row columns)

  -- an error in place of the greeting has an SQL state if its bytes begin with one
  abbrev pub unsolicited_error : Option SessionCapabilities → Form (ServerPacket C)
  unsolicited_error None = map variant.GreetingError (greeting_error.form tt)
  unsolicited_error (Some agreed) = map variant.UnsolicitedError (err_packet.form agreed.mysql)

  -- and so does one that answers a packet that is no login
  abbrev pub asked_error : Option SessionCapabilities → Form (ServerPacket C)
  asked_error None = map variant.GreetingError (greeting_error.form tt)
  asked_error (Some agreed) = map variant.Error (err_packet.form agreed.mysql)

  -- ---- by kind

  abbrev pub server_packet : ReadContext C → PacketKind → Form (ServerPacket C)
  server_packet c kind.Handshake = map variant.Handshake (handshake.form tt)
  server_packet c kind.AuthSwitch = map variant.AuthSwitch (auth_switch_request.form tt)
  server_packet c kind.OldAuthSwitch = map variant.OldAuthSwitch (old_auth_switch_request.form tt)
  server_packet c kind.AuthMoreData = map variant.AuthMoreData (auth_more_data.form tt)
  server_packet c kind.AuthNextFactor = map variant.AuthNextFactor (auth_next_factor.form tt)
  server_packet c kind.AuthPluginData = map variant.AuthPluginData all_left
  server_packet c kind.Ok = map variant.Ok (ok_form (agreed_or_none c.agreed))
  server_packet c kind.Error = asked_error c.agreed
  server_packet c kind.UnsolicitedError = unsolicited_error c.agreed
  server_packet c kind.ProgressReport = map variant.ProgressReport report_form
  server_packet c kind.LocalInfile = map variant.LocalInfile (local_infile.form tt)
  server_packet c (kind.ColumnCount n follow) = map variant.ColumnCount (column_count.form (agreed_or_none c.agreed))
  server_packet c kind.Column = map variant.Column (extended_column.form (agreed_or_none c.agreed).mariadb)
  server_packet c kind.FieldListColumn = map variant.FieldListColumn (field_list_column.form (agreed_or_none c.agreed).mariadb)
  server_packet c kind.Eof = map variant.Eof (eof_form (agreed_or_none c.agreed))
  server_packet c kind.OkTerminator = map variant.OkTerminator (ok_terminator_form (agreed_or_none c.agreed))
  server_packet c (kind.Row Text) = map variant.TextRow (text_row c.column_count)
  server_packet c (kind.Row Binary) = row_under (option_copied c.columns)
  server_packet c (kind.PrepareOk columns params follow) = map variant.PrepareOk (stmt_with_metadata.form (agreed_or_none c.agreed).mysql)
  server_packet c kind.Statistics = map variant.Statistics all_left
  server_packet c kind.Clone = map variant.Clone all_left
  server_packet c kind.BinlogEvent = map variant.BinlogEvent (stream_event.form c.semi_sync)
  server_packet c _ = other_side
