-- Where something of a recording is lost.
use Rattle.std.specs.Prelude.{◌≡◌, ◌⊎◌, ℕ, ◌≤◌, true, List, [], ◌∷◌, ◌++◌, length, slice_index}
use Rattle.mysql_conversation.specs.Session.{IsSessionBeginning}
use Rattle.mysql_conversation.specs.declared.packet_kind.Side.{Side}
use Rattle.mysql_conversation.specs.declared.packet_kind_tag.PacketKindTag.{PacketKindTag}
use Rattle.mysql_conversation.specs.declared.pipeline.SessionError.{SessionError}
use Rattle.mysql_show.specs.Appended.{Stays}
use Rattle.mysql_recorder.specs.declared.entry.Layout.{Layout}
use Rattle.mysql_frames.specs.FrameReader.{NoneWhole, AllLonger}
use Rattle.mysql_recorder.specs.Frames.{Piece, AreFrames, AreFrom, of_side}
use Rattle.mysql_recorder.specs.Lines.{AreLines, Line, heard, text_of, Stands}
use Rattle.mysql_recorder.specs.Marks.{IsMark}
use Rattle.mysql_recorder.specs.Recorded.{Recorded, IsShown, has_lost, layout, longest}
use Rattle.mysql_recorder.specs.Shown.{Item, placed, Writes}
use Rattle.mysql_recorder.specs.Sides.{Stand}
use Rattle.mysql_recorder.specs.Sides as sides
use Rattle.mysql_recorder.specs.Stops.{StopsIn}
use Rattle.mysql_recorder.specs.declared.line.Place.{Place}
use Rattle.mysql_recorder.specs.declared.recording.Recording.{Recording}
use Rattle.mysql_recorder.specs.declared.sides.Sides.{Sides}

-- ---- the bytes of a side

-- the number of a payload that begins with these bytes: the one in its header, if that is complete
abbrev pub IsNumberOf : ℕ → List ℕ → Type 0
IsNumberOf number bytes = 4 ≤ length bytes → number ≡ slice_index bytes 3

-- whatever follows, no payload's frames begin with these bytes
abbrev pub AreNoFrames : List ℕ → Type 0
AreNoFrames bytes = (number : ℕ) × IsNumberOf number bytes × ((more : List ℕ) → NoneWhole number (bytes ++ more))

-- whatever follows, each payload whose frames begin with these bytes is longer than the limit
abbrev pub AreTooLong : ℕ → List ℕ → Type 0
AreTooLong limit bytes = (number : ℕ) × IsNumberOf number bytes × ((more : List ℕ) → AllLonger limit number (bytes ++ more))

-- These bytes are the frames of some packets, which are expected and shown, and then frames of no payload within the limit.
abbrev pub BreaksIn : Layout → ℕ → Side → List ℕ → List Item → List ℕ → List ℕ → Type 0
BreaksIn layout limit side bytes items before after =
    (here : List Item) × (left : List ℕ) × AreFrom side here × AreFrames here bytes left × Writes layout items here before after
    × IsSessionBeginning (placed (items ++ here)) × (AreNoFrames left ⊎ AreTooLong limit left)

-- the frames are malformed, or a packet is unexpected, and is shown
abbrev pub LosesIn : List PacketKindTag → Layout → ℕ → Side → List ℕ → List Item → List ℕ → List ℕ → Type 0
LosesIn all layout limit side bytes items before after =
    BreaksIn layout limit side bytes items before after ⊎ ((why : SessionError) × StopsIn all layout side bytes items why before after)

-- in a piece of a side
abbrev pub PieceLosesIn : List PacketKindTag → Side → List ℕ → Sides → List ℕ → List ℕ → Type 0
PieceLosesIn all side bytes s before after = (pieces : List Piece) (items : List Item) → Stand s pieces items
    → LosesIn all (sides.layout s) (sides.longest s) side (of_side side s.client.reader.held s.server.reader.held ++ bytes) items before after

-- if something is lost now, it is lost in the piece, and what was shown stays
abbrev pub PieceLoses : List PacketKindTag → Side → List ℕ → Sides → Sides → List ℕ → List ℕ → Type 0
PieceLoses all side bytes old new before after = sides.has_lost new ≡ true → (pieces : List Piece) (items : List Item) → Stand old pieces items
    → (mid : List ℕ)
    × LosesIn all (sides.layout old) (sides.longest old) side (of_side side old.client.reader.held old.server.reader.held ++ bytes) items before mid
    × Stays mid after

-- ---- lines

-- the same for the pending part of a line
abbrev pub LineLoses : List PacketKindTag → Recording → Recording → List ℕ → List ℕ → Type 0
LineLoses all old new before after = PieceLoses all old.line.side old.line.bytes.items old.sides new.sides before after

-- for a line that ends: something is lost in the pending part, or the whole line is pending and is a mark for missing bytes
abbrev pub LineEndLoses : List PacketKindTag → Recording → Recording → List ℕ → List ℕ → Type 0
LineEndLoses all old new before after =
    LineLoses all old new before after ⊎ ((old.line.is_untaken ≡ true) × IsMark old.line.bytes.items × Stays before after)

-- ---- texts

-- This text was read, and these packets of it are shown; something is lost in the held and pending bytes.
pub record LosesAfter (all : List PacketKindTag) (layout : Layout) (limit : ℕ) (text : List ℕ) (items : List Item) (before after : List ℕ) : Type 0 where
  pub side : Side
  pub bytes : List ℕ
  pub shown : IsShown text (heard side bytes) items
  pub loses : LosesIn all layout limit side (of_side side shown.client_left shown.server_left ++ bytes) items before after

-- These packets are shown for the text's complete lines, and the next line is a mark for missing bytes.
pub record EndsInMark (text : List ℕ) (items : List Item) : Type 0 where
  pub lines : List Line
  pub line : List ℕ
  pub at : Place
  pub side : Side
  pub mark : List ℕ
  pub are_lines : AreLines lines
  pub text_is : text ≡ text_of lines ++ line
  pub shown : IsShown (text_of lines) [] items
  pub says : Stands at line (heard side mark)
  pub is_mark : IsMark mark

-- after a text for which these packets are shown something is lost: in its pending part; or, at the end of its last line, by a mark
abbrev pub IsLost : List PacketKindTag → Layout → ℕ → Type 0 → List ℕ → List Item → List ℕ → List ℕ → Type 0
IsLost all layout limit ends text items before after =
    LosesAfter all layout limit text items before after ⊎ (EndsInMark text items × ends × (before ≡ after))

abbrev pub TextLoses : List PacketKindTag → Type 0 → Recording → Recording → List ℕ → List ℕ → Type 0
TextLoses all ends old new before after = has_lost new ≡ true → (text : List ℕ) (items : List Item) → Recorded old text items
    → (mid : List ℕ) × IsLost all (layout old) (longest old) ends text items before mid × Stays mid after

-- these bytes begin with a line feed
abbrev pub IsAtFeed : List ℕ → Type 0
IsAtFeed bytes = (rest : List ℕ) × (bytes ≡ 10 ∷ rest)

-- If something is lost now, it is lost after a prefix of the input, whose packets are shown. What was shown stays.
abbrev pub Loses : List PacketKindTag → List ℕ → Recording → Recording → List ℕ → List ℕ → Type 0
Loses all input old new before after = has_lost new ≡ true → (text : List ℕ) (items : List Item) → Recorded old text items
    → (front : List ℕ) × (back : List ℕ) × (here : List Item) × (shown : List ℕ) × (mid : List ℕ) × (input ≡ front ++ back)
    × Writes (layout old) items here before shown × IsLost all (layout old) (longest old) (IsAtFeed back) (text ++ front) (items ++ here) shown mid × Stays mid after
