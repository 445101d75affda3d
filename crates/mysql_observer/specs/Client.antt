-- Packets of the client: the grammar of each kind.
use Rattle.std.specs.Prelude.{Option}
use Rattle.mysql_wire.specs.Form.{Form, all_left, give, map}
use Rattle.mysql_auth.specs.HandshakeResponse.{handshake_response_as_sent}
use Rattle.mysql_auth.specs.SslRequest.{ssl_request}
use Rattle.mysql_commands.specs.Command.{command}
use Rattle.mysql_repl.specs.SemiSyncAck.{semi_sync_ack}
use Rattle.mysql_replies.specs.declared.session_capabilities.SessionCapabilities.{SessionCapabilities}
use Rattle.mysql_conversation.specs.declared.packet_kind.PacketKind.{PacketKind}
use Rattle.mysql_conversation.specs.declared.packet_kind.PacketKind.TheVariants as kind
use Rattle.mysql_observer.specs.Context.{agreed_or_none, other_side}
use Rattle.mysql_observer.specs.declared.client.ClientPacket.{ClientPacket}
use Rattle.mysql_observer.specs.declared.client.ClientPacket.TheVariants as variant

abbrev pub client_packet : Option SessionCapabilities → PacketKind → Form ClientPacket
client_packet agreed kind.SslRequest = map variant.SslRequest (ssl_request.form tt)
client_packet agreed kind.Login = map variant.Login (handshake_response_as_sent.form tt)
client_packet agreed kind.AuthData = map variant.AuthData all_left
client_packet agreed (kind.Command code) = map variant.Command (command (agreed_or_none agreed).mysql)
client_packet agreed kind.InfileContent = map variant.InfileContent all_left
client_packet agreed kind.Clone = map variant.Clone all_left
client_packet agreed kind.InfileEnd = give variant.InfileEnd
client_packet agreed kind.SemiSyncAck = map variant.SemiSyncAck (semi_sync_ack.form tt)
client_packet agreed _ = other_side
