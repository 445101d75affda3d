-- The order of packets in a conversation with pipelined commands.
use Rattle.mysql_conversation.specs.Agreements.{Agreed}
use Rattle.std.specs.Prelude.{◌≡◌, ◌≤◌, ℕ, List, [], ◌∷◌, if◌then◌else◌}
use Rattle.mysql_conversation.specs.Conversation.{IsConversation}
use Rattle.mysql_conversation.specs.declared.packet_kind.InitialPhase.{InitialPhase}
use Rattle.mysql_conversation.specs.Pipelined.{Numbered, packets, is_client, counted}

abbrev pub from_client : List Numbered → List Numbered
from_client [] = []
from_client (x ∷ xs) = if is_client x.packet.from then x ∷ from_client xs else from_client xs

abbrev pub from_server : List Numbered → List Numbered
from_server [] = []
from_server (x ∷ xs) = if is_client x.packet.from then from_server xs else x ∷ from_server xs

-- after n commands, no packet precedes the command of its exchange
abbrev pub FollowCommands : ℕ → List Numbered → Type 0
FollowCommands n [] = Unit {0}
FollowCommands n (x ∷ xs) = (x.number ≤ counted n x.packet) × FollowCommands (counted n x.packet) xs

-- the packets of each side are those of a conversation, in order, and none precedes its command
abbrev pub IsInterleaved : Agreed → InitialPhase → List Numbered → Type 0
IsInterleaved a o items = (others : List Numbered) × IsConversation a o (packets others) × (from_client items ≡ from_client others) × (from_server items ≡ from_server others) × FollowCommands 0 items
