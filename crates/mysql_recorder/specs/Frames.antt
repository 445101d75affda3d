-- The packets of both sides' streams.
use Rattle.std.specs.Prelude.{◌≡◌, ℕ, ◌≤◌, Bool, true, false, List, [], ◌∷◌, ◌++◌, length, slice_index, if◌then◌else◌}
use Rattle.mysql_conversation.specs.declared.packet_kind.Side.{Side}
use Rattle.mysql_conversation.specs.declared.packet_kind.Side.TheVariants.{Client, Server}
use Rattle.mysql_frames.specs.FrameReader.{ReaderState}
use Rattle.mysql_frames.specs.Frames.{Framed}
use Rattle.mysql_recorder.specs.Lines.{Heard, heard}
use Rattle.mysql_recorder.specs.Shown.{Item}

-- the bytes are the frames of these packets, each with consecutive numbers from its first frame's on, and then the rest
abbrev pub AreFrames : List Item → List ℕ → List ℕ → Type 0
AreFrames [] bytes rest = bytes ≡ rest
AreFrames (x ∷ xs) bytes rest = (after : ℕ) × (mid : List ℕ) × Framed x.sequence x.placed.packet.payload after bytes mid × AreFrames xs mid rest

-- no payload's frames begin with these bytes, with any first number
abbrev pub NoneComes : List ℕ → Type 0
NoneComes bytes = (number : ℕ) (payload : List ℕ) (after : ℕ) (rest : List ℕ) → Framed number payload after bytes rest → ⊥

-- packets of one side
abbrev pub AreFrom : Side → List Item → Type 0
AreFrom side [] = Unit {0}
AreFrom side (x ∷ xs) = (x.placed.packet.from ≡ side) × AreFrom side xs

-- consecutive bytes of one side
pub record Piece : Type 0 where
  pub side : Side
  pub bytes : List ℕ

abbrev pub joined : List Piece → List Heard
joined [] = []
joined (p ∷ ps) = heard p.side p.bytes ++ joined ps

-- the held bytes of either side
abbrev pub of_side : Side → List ℕ → List ℕ → List ℕ
of_side Client client server = client
of_side Server client server = server

abbrev pub client_with : Side → List ℕ → List ℕ → List ℕ
client_with Client left client = left
client_with Server left client = client

abbrev pub server_with : Side → List ℕ → List ℕ → List ℕ
server_with Client left server = server
server_with Server left server = left

-- Piece by piece, the packets that end there: those whose frames are the held bytes of that side and the piece, up to a rest that contains
-- no packet.
abbrev pub ComeIn : List ℕ → List ℕ → List Piece → List Item → List ℕ → List ℕ → Type 0
ComeIn client server [] items client_left server_left = (items ≡ []) × (client ≡ client_left) × (server ≡ server_left)
ComeIn client server (p ∷ ps) items client_left server_left =
    (here : List Item) × (later : List Item) × (left : List ℕ) × (items ≡ here ++ later) × AreFrom p.side here
    × AreFrames here (of_side p.side client server ++ p.bytes) left × NoneComes left
    × ComeIn (client_with p.side left client) (server_with p.side left server) ps later client_left server_left

-- if a header is held, the payload has its number
abbrev pub IsNumbered : ReaderState → Type 0
IsNumbered reader = 4 ≤ length reader.held → reader.number ≡ slice_index reader.held 3

-- ---- one side

abbrev pub is_side : Side → Side → Bool
is_side Client Client = true
is_side Client Server = false
is_side Server Client = false
is_side Server Server = true

abbrev pub packets_of : Side → List Item → List Item
packets_of side [] = []
packets_of side (x ∷ xs) = if is_side side x.placed.packet.from then x ∷ packets_of side xs else packets_of side xs

abbrev pub bytes_of : Side → List Heard → List ℕ
bytes_of side [] = []
bytes_of side (x ∷ xs) = if is_side side x.from then x.byte ∷ bytes_of side xs else bytes_of side xs

-- a payload, and the number of its first frame
pub record Sent : Type 0 where
  pub number : ℕ
  pub payload : List ℕ

abbrev pub sent : List Item → List Sent
sent [] = []
sent (x ∷ xs) = record { number = x.sequence; payload = x.placed.packet.payload } ∷ sent xs
