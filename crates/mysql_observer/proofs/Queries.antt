-- A command that begins with the byte of COM_QUERY is read as a query.
use Rattle.std.proofs.Common.{◌≡◌, ℕ, List, ◌∷◌, Option, Some, refl, sym, ap, ◌∙◌}
use Rattle.mysql_wire.specs.Flags.{CapabilityFlags}
use Rattle.mysql_wire.specs.Form.{map}
use Rattle.mysql_wire.specs.ServerCommand.{server_command_code, server_command_of, server_command-back}
use Rattle.mysql_wire.specs.declared.codes.server_command.ServerCommand.TheVariants as name
use Rattle.mysql_commands.specs.Command.{command, command_named}
use Rattle.mysql_commands.specs.Query.{query}
use Rattle.mysql_commands.specs.declared.command.Command.TheVariants as variant
use Rattle.mysql_replies.specs.declared.session_capabilities.SessionCapabilities.{SessionCapabilities}
use Rattle.mysql_conversation.specs.declared.packet_kind.PacketKind.{PacketKind}
use Rattle.mysql_conversation.specs.declared.packet_kind.PacketKind.TheVariants as kind
use Rattle.mysql_observer.specs.Client.{client_packet}
use Rattle.mysql_observer.specs.Context.{agreed_or_none}
use Rattle.mysql_observer.specs.Queries.{IsQuery, query_packet}

named_query : server_command_of 3 ≡ Some name.COM_QUERY
unfolding server_command_code
named_query = server_command-back name.COM_QUERY

command_is_query : (c : CapabilityFlags) (more : List ℕ) → (command c).reads (3 ∷ more) ≡ (map variant.Query (query.form c)).reads (3 ∷ more)
unfolding command
command_is_query c more = ap (λ n. (command_named c n).reads (3 ∷ more)) named_query

at_command : (agreed : Option SessionCapabilities) (code : ℕ) (more : List ℕ) → (client_packet agreed (kind.Command code)).reads (3 ∷ more) ≡ (query_packet agreed).reads (3 ∷ more)
at_command agreed code more = rw (command_is_query (agreed_or_none agreed).mysql more) refl

pub query_is_read : (agreed : Option SessionCapabilities) (k : PacketKind) (p : List ℕ) → IsQuery k p → (client_packet agreed k).reads p ≡ (query_packet agreed).reads p
query_is_read agreed k p h =
    ap (λ q. (client_packet agreed k).reads q) h.3 ∙ ap (λ x. (client_packet agreed x).reads (3 ∷ h.1)) h.2 ∙ at_command agreed h.0 h.1 ∙ ap (λ q. (query_packet agreed).reads q) (sym h.3)
