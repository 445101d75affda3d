-- What came from both sides of a connection, and is shown.
use Rattle.std.specs.Prelude.{◌≡◌, ◌⊎◌, ℕ, Bool, true, false, List, [], ◌++◌, Option, Some, None, is_some}
use Rattle.mysql_conversation.specs.Agreements.{Agreed}
use Rattle.mysql_conversation.specs.Pipelined.{Numbered}
use Rattle.mysql_conversation.specs.Session.{IsResumedSession, IsSession}
use Rattle.mysql_conversation.specs.declared.packet_kind.Side.{Side}
use Rattle.mysql_conversation.specs.declared.packet_kind.Side.TheVariants.{Client, Server}
use Rattle.mysql_recorder.specs.declared.entry.Layout.{Layout}
use Rattle.mysql_observer.specs.Observed as observed
use Rattle.mysql_observer.specs.Observed.{Observed, Resumed}
use Rattle.mysql_observer.specs.declared.observer.Observer.{Observer}
use Rattle.mysql_recorder.specs.Frames.{Piece, AreFrames, NoneComes, AreFrom, ComeIn, IsNumbered}
use Rattle.mysql_recorder.specs.Shown.{Item, placed, Writes}
use Rattle.mysql_recorder.specs.declared.packets.Packets.{Packets}
use Rattle.mysql_recorder.specs.declared.sides.Sides.{Sides}
use Rattle.mysql_recorder.specs.declared.stream.Stream.{Stream}

-- a stream inside a conversation, after these packets of the connection
abbrev pub IsAt : Stream → Packets → List Item → Type 0
IsAt stream packets items = IsNumbered stream.reader × Observed packets.observer (placed items)

-- These packets of a side are in a piece up to its rest, and an entry for each is appended.
pub record Reads (side : Side) (piece left : List ℕ) (items here : List Item) (old new : Stream) (before after : Packets) (text_before text_after : List ℕ) : Type 0 where
  pub from : AreFrom side here
  pub frames : AreFrames here (old.reader.held ++ piece) (new.reader.held ++ left)
  pub numbered : IsNumbered new.reader
  pub limit : new.reader.limit ≡ old.reader.limit
  pub observed : Observed after.observer (placed (items ++ here))
  pub written : Writes before.layout items here text_before text_after

abbrev pub layout : Sides → Layout
layout s = s.packets.layout

abbrev pub has_lost : Sides → Bool
has_lost s = s.has_lost

-- the longest payload
abbrev pub longest : Sides → ℕ
longest s = s.longest

-- the options of a recording
pub record Settings : Type 0 where
  pub layout : Layout
  -- the longest payload
  pub longest : ℕ
  -- how many commands may wait
  pub may_wait : ℕ
  -- the recording contains the decrypted payloads after a request for TLS
  pub is_deciphered : Bool
  -- sums are requested
  pub has_sums : Bool

abbrev pub settings : Sides → Settings
settings s = record {
  layout = s.packets.layout;
  longest = s.longest;
  may_wait = observed.limit s.packets.observer;
  is_deciphered = s.packets.is_deciphered;
  has_sums = is_some s.packets.sums;
}

-- the options that apply to the packets of a connection
pub record Options : Type 0 where
  pub layout : Layout
  pub may_wait : ℕ
  pub is_deciphered : Bool
  pub has_sums : Bool

abbrev pub options : Packets → Options
options p = record { layout = p.layout; may_wait = observed.limit p.observer; is_deciphered = p.is_deciphered; has_sums = is_some p.sums }

-- a side's stream
abbrev pub stream_of : Side → Sides → Stream
stream_of Client s = s.client
stream_of Server s = s.server

abbrev pub passed_of : Side → Sides → Option ℕ
passed_of side s = (stream_of side s).passed

-- A stream is synchronized: if a header is held, its number is the expected one, and the held bytes begin no payload's frames.
pub record InStep (stream : Stream) (longest : ℕ) : Type 0 where
  pub numbered : IsNumbered stream.reader
  pub limit : stream.reader.limit ≡ longest
  pub none : NoneComes stream.reader.held
  pub none_passed : stream.passed ≡ None

-- These pieces came, and these packets in them, for a connection from its greeting on, without a loss.
pub record Stand (s : Sides) (pieces : List Piece) (items : List Item) : Type 0 where
  pub come : ComeIn [] [] pieces items s.client.reader.held s.server.reader.held
  pub client : InStep s.client s.longest
  pub server : InStep s.server s.longest
  pub observed : Observed s.packets.observer (placed items)
  pub nothing_lost : s.has_lost ≡ false

-- these packets are a whole session, and neither side has an incomplete payload
abbrev pub IsWhole : Sides → List Item → Type 0
IsWhole s items = (s.client.reader.held ≡ []) × (s.server.reader.held ≡ []) × IsSession (placed items)

-- all that was asked for is answered: of a connection from its greeting on, and of one that is resumed
abbrev pub IsAtRest : Observer → Type 0
IsAtRest o = ((items : List Numbered) → Observed o items → IsSession items) × ((a : Agreed) (before : ℕ) (items : List Numbered) → Resumed o a before items → IsResumedSession a items)

-- Both streams are in step, no payload is cut, and all that was asked for is answered: of what is observed now, also after a loss.
pub record HasEnded (s : Sides) : Type 0 where
  pub client : (s.client.passed ≡ None) × (s.client.reader.held ≡ [])
  pub server : (s.server.passed ≡ None) × (s.server.reader.held ≡ [])
  pub rests : IsAtRest s.packets.observer

-- A stream is not synchronized, and nothing of it has come yet.
pub record IsAwaited (stream : Stream) (longest : ℕ) : Type 0 where
  pub passed : stream.passed ≡ Some 0
  pub held : stream.reader.held ≡ []
  pub limit : stream.reader.limit ≡ longest

-- The connection resumes at its next command, with what both sides agreed on, and nothing of it has come yet. Exchanges are counted on from
-- this number.
pub record IsResynced (s : Sides) (agreed : Agreed) (before : ℕ) : Type 0 where
  pub resumed : Resumed s.packets.observer agreed before []
  pub client : IsAwaited s.client s.longest
  pub server : IsAwaited s.server s.longest

-- after these pieces something is lost; or they came too, and an entry for each of their packets is appended
abbrev pub GoesOn : List Piece → Sides → Sides → List ℕ → List ℕ → Type 0
GoesOn more old new before after = (pieces : List Piece) (items : List Item) → Stand old pieces items
    → (has_lost new ≡ true) ⊎ ((here : List Item) × Stand new (pieces ++ more) (items ++ here) × Writes (layout old) items here before after)

abbrev pub piece : Side → List ℕ → Piece
piece side bytes = record { side = side; bytes = bytes }

-- everything except for the expected answer is the same
abbrev pub IsSame : Sides → Sides → Type 0
IsSame old new = new ≡ record old { answer = new.answer }

-- if nothing is lost, nothing is appended
abbrev pub SaysNothing : Sides → List ℕ → List ℕ → Type 0
SaysNothing s before after = (pieces : List Piece) (items : List Item) → Stand s pieces items → after ≡ before
