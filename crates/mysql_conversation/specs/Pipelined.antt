-- Conversations with pipelined commands, which come before the answers to earlier ones.
use Rattle.mysql_conversation.specs.Agreements.{Agreed}
use Rattle.std.specs.Prelude.{◌≡◌, ◌⊎◌, ℕ, ◌+◌, List, [], ◌∷◌, ◌++◌, Bool, true, false, not, ◌&&◌, if◌then◌else◌}
use Rattle.mysql_conversation.specs.Conversation.{Packet, IsConversation, commands, inside, asks}
use Rattle.mysql_conversation.specs.declared.packet_kind.InitialPhase.{InitialPhase}
use Rattle.mysql_conversation.specs.declared.packet_kind.PacketKind.{PacketKind}
use Rattle.mysql_conversation.specs.declared.packet_kind.Side.{Side}
use Rattle.mysql_conversation.specs.declared.packet_kind.Side.TheVariants.{Client, Server}

-- a packet, and the number of the command of its exchange
pub record Numbered : Type 0 where
  pub packet : Packet
  pub number : ℕ

abbrev pub packets : List Numbered → List Packet
packets [] = []
packets (x ∷ xs) = x.packet ∷ packets xs

abbrev pub is_client : Side → Bool
is_client Client = true
is_client Server = false

abbrev pub is_command : Packet → Bool
is_command x = is_client x.from && commands x.kind

-- the commands up to a packet, after n others
abbrev pub counted : ℕ → Packet → ℕ
counted n x = if is_command x then n + 1 else n

-- Each packet of a conversation belongs to the last command before it. The first command has the number 1.
abbrev pub AreNumbered : ℕ → List Numbered → Type 0
AreNumbered n [] = Unit {0}
AreNumbered n (x ∷ xs) = (x.number ≡ counted n x.packet) × AreNumbered (counted n x.packet) xs

-- a packet of the server before which a later command may come: it asks the client for nothing, and is inside an exchange
abbrev pub passes : PacketKind → Bool
passes k = not (asks k) && inside k

abbrev pub ArePassed : List Numbered → Type 0
ArePassed [] = Unit {0}
ArePassed (x ∷ xs) = (x.packet.from ≡ Server) × (passes x.packet.kind ≡ true) × ArePassed xs

-- A reordering in which commands may come early, while the client isn't asked for anything: each packet is the first remaining one, or a
-- command that only packets of the server precede.
abbrev pub Early : Bool → List Numbered → List Numbered → Type 0
Early is_asked [] others = others ≡ []
Early is_asked (x ∷ items) others =
    ((more : List Numbered) × (others ≡ x ∷ more) × Early (asks x.packet.kind) items more)
    ⊎ ((front : List Numbered) × (back : List Numbered) × (is_command x.packet ≡ true) × ArePassed front × (others ≡ front ++ x ∷ back)
    × Early false items (front ++ back) × (is_asked ≡ false))

-- a conversation in which commands may be pipelined
abbrev pub IsPipelined : Agreed → InitialPhase → List Numbered → Type 0
IsPipelined a o items = (others : List Numbered) × IsConversation a o (packets others) × AreNumbered 0 others × Early false items others

abbrev pub IsPipelinedBeginning : Agreed → InitialPhase → List Numbered → Type 0
IsPipelinedBeginning a o items = (more : List Numbered) × IsPipelined a o (items ++ more)

-- a list of packets, numbered
abbrev pub numbered : ℕ → List Packet → List Numbered
numbered n [] = []
numbered n (x ∷ xs) = record { packet = x; number = counted n x } ∷ numbered (counted n x) xs
