-- Queries, by their first byte.
use Rattle.std.specs.Prelude.{◌≡◌, ℕ, List, ◌∷◌, Option}
use Rattle.mysql_wire.specs.Form.{Form, map}
use Rattle.mysql_commands.specs.Query.{query}
use Rattle.mysql_commands.specs.declared.command.Command.TheVariants as command
use Rattle.mysql_replies.specs.declared.session_capabilities.SessionCapabilities.{SessionCapabilities}
use Rattle.mysql_conversation.specs.declared.packet_kind.PacketKind.{PacketKind}
use Rattle.mysql_conversation.specs.declared.packet_kind.PacketKind.TheVariants as kind
use Rattle.mysql_observer.specs.Context.{agreed_or_none}
use Rattle.mysql_observer.specs.declared.client.ClientPacket.{ClientPacket}
use Rattle.mysql_observer.specs.declared.client.ClientPacket.TheVariants as packet

-- a command that begins with the byte of COM_QUERY
abbrev pub IsQuery : PacketKind → List ℕ → Type 0
IsQuery k p = (code : ℕ) × (more : List ℕ) × (k ≡ kind.Command code) × (p ≡ 3 ∷ more)

abbrev pub query_packet : Option SessionCapabilities → Form ClientPacket
query_packet agreed = map packet.Command (map command.Query (query.form (agreed_or_none agreed).mysql))
