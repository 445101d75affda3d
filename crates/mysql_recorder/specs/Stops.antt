-- A recording that stops at an unexpected packet.
use Rattle.std.specs.Prelude.{◌≡◌, ◌⊎◌, ℕ, true, List, ◌++◌}
use Rattle.mysql_conversation.specs.Session.{IsSessionBeginning}
use Rattle.mysql_conversation.specs.declared.packet_kind.Side.{Side}
use Rattle.mysql_conversation.specs.declared.packet_kind_tag.PacketKindTag.{PacketKindTag}
use Rattle.mysql_conversation.specs.declared.pipeline.SessionError.{SessionError}
use Rattle.mysql_recorder.specs.declared.entry.Layout.{Layout}
use Rattle.mysql_frames.specs.Frames.{Framed}
use Rattle.mysql_recorder.specs.Frames.{Piece, AreFrames, AreFrom, of_side}
use Rattle.mysql_recorder.specs.Lines.{heard}
use Rattle.mysql_recorder.specs.Recorded.{Recorded, IsShown, has_lost}
use Rattle.mysql_recorder.specs.Recorded as recorded
use Rattle.mysql_recorder.specs.Refused.{ShowsRefused}
use Rattle.mysql_recorder.specs.Refusals.{IfRefused}
use Rattle.mysql_recorder.specs.Shown.{Item, placed, Writes}
use Rattle.mysql_recorder.specs.Sides.{Stand}
use Rattle.mysql_recorder.specs.Sides as sides
use Rattle.mysql_recorder.specs.declared.error.RecordingError.{RecordingError}
use Rattle.mysql_recorder.specs.declared.recording.Recording.{Recording}
use Rattle.mysql_recorder.specs.declared.sides.Sides.{Sides}

-- These bytes are the frames of some packets, which are expected and shown, and then those of an unexpected one.
abbrev pub StopsIn : List PacketKindTag → Layout → Side → List ℕ → List Item → SessionError → List ℕ → List ℕ → Type 0
StopsIn all layout side bytes items why before after =
    (here : List Item) × (sequence : ℕ) × (payload : List ℕ) × (next : ℕ) × (left : List ℕ) × (rest : List ℕ) × (mid : List ℕ)
    × AreFrom side here × AreFrames here bytes left × Framed sequence payload next left rest × Writes layout items here before mid
    × IsSessionBeginning (placed (items ++ here)) × ShowsRefused all layout side sequence payload (placed (items ++ here)) why mid after

-- in a piece of a side
abbrev pub PieceStops : List PacketKindTag → Side → List ℕ → Sides → RecordingError → List ℕ → List ℕ → Type 0
PieceStops all side bytes s e before after = (pieces : List Piece) (items : List Item) → Stand s pieces items
    → IfRefused e (λ why. StopsIn all (sides.layout s) side (of_side side s.client.reader.held s.server.reader.held ++ bytes) items why before after)

-- in the pending part of a line
abbrev pub LineStops : List PacketKindTag → Recording → RecordingError → List ℕ → List ℕ → Type 0
LineStops all r e before after = PieceStops all r.line.side r.line.bytes.items r.sides e before after

-- This text was read, and these packets of it are shown. In the held and pending bytes there are more expected packets, and then an
-- unexpected one.
pub record StopsAfter (all : List PacketKindTag) (layout : Layout) (text : List ℕ) (items : List Item) (why : SessionError) (before after : List ℕ) : Type 0 where
  pub side : Side
  pub bytes : List ℕ
  pub shown : IsShown text (heard side bytes) items
  pub stops : StopsIn all layout side (of_side side shown.client_left shown.server_left ++ bytes) items why before after

abbrev pub TextStops : List PacketKindTag → Recording → RecordingError → List ℕ → List ℕ → Type 0
TextStops all r e before after = (text : List ℕ) (items : List Item) → Recorded r text items → IfRefused e (λ why. StopsAfter all (recorded.layout r) text items why before after)

-- something is lost, or it stops after a prefix of this text
abbrev pub Stops : List PacketKindTag → List ℕ → Recording → Recording → RecordingError → List ℕ → List ℕ → Type 0
Stops all input old new e before after = (text : List ℕ) (items : List Item) → Recorded old text items
    → (has_lost new ≡ true) ⊎ IfRefused e (λ why. (front : List ℕ) × (back : List ℕ) × (here : List Item) × (mid : List ℕ) × (input ≡ front ++ back)
    × Writes (recorded.layout old) items here before mid × StopsAfter all (recorded.layout old) (text ++ front) (items ++ here) why mid after)
