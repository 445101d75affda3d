-- The packets that a conversation has taken.
use Rattle.std.specs.Prelude.{◌≡◌, ℕ, List, [], ◌∷◌, ◌++◌}
use Rattle.mysql_conversation.specs.Agreements.{Agreed}
use Rattle.mysql_conversation.specs.Conversation.{Packet, IsBeginning}
use Rattle.mysql_conversation.specs.PacketKindTag.{name_of}
use Rattle.mysql_conversation.specs.Machine.{Takes, entrance}
use Rattle.mysql_conversation.specs.Taken.{packet}
use Rattle.mysql_conversation.specs.declared.packet_kind.PacketKind.{PacketKind}
use Rattle.mysql_conversation.specs.declared.packet_kind.InitialPhase.{InitialPhase}
use Rattle.mysql_conversation.specs.declared.packet_kind.Side.{Side}
use Rattle.mysql_conversation.specs.declared.packet_kind_tag.PacketKindTag.{PacketKindTag}
use Rattle.mysql_conversation.specs.declared.conversation.Conversation.{Conversation}

-- what both sides agreed on, and the initial phase
abbrev pub agreed : Conversation → Agreed
agreed c = c.agreed

abbrev pub opening : Conversation → InitialPhase
opening c = c.opening

-- these packets, with these kinds, are those it has taken
abbrev pub Taken : Conversation → List Packet → Type 0
Taken c items = Takes c.agreed (entrance c.opening) items c.state

-- some packet from this side, of a kind with this name, continues these packets
abbrev pub GoesOn : Conversation → Side → PacketKindTag → List Packet → Type 0
GoesOn c side name items = (payload : List ℕ) × (kind : PacketKind) × (name_of kind ≡ name) × IsBeginning c.agreed c.opening (items ++ packet side payload kind ∷ [])
