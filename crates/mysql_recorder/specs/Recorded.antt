-- What a recording has read, and shown.
use Rattle.std.specs.Prelude.{◌≡◌, ◌⊎◌, ℕ, Bool, true, List, [], ◌∷◌, ◌++◌}
use Rattle.mysql_conversation.specs.Agreements.{Agreed}
use Rattle.mysql_observer.specs.Observed as observed
use Rattle.mysql_recorder.specs.declared.entry.Layout.{Layout}
use Rattle.mysql_recorder.specs.Frames.{Piece, joined, ComeIn, NoneComes}
use Rattle.mysql_recorder.specs.Lines.{AreLines, Heard, heard, IsRead, IsOfSide, Line, said_by, Stands, text_of}
use Rattle.mysql_recorder.specs.Shown.{Item, Writes}
use Rattle.mysql_recorder.specs.Sides.{Settings, Stand}
use Rattle.mysql_recorder.specs.Sides as sides
use Rattle.mysql_recorder.specs.Steps as steps
use Rattle.mysql_recorder.specs.declared.line.Place.{Place}
use Rattle.mysql_recorder.specs.declared.recording.Recording.{Recording}

abbrev pub layout : Recording → Layout
layout r = sides.layout r.sides

-- the longest payload
abbrev pub longest : Recording → ℕ
longest r = sides.longest r.sides

-- the options
abbrev pub settings : Recording → Settings
settings r = sides.settings r.sides

-- the number of the last exchange
abbrev pub last_exchange : Recording → ℕ
last_exchange r = observed.last_exchange r.sides.packets.observer

-- the state within its line
abbrev pub place : Recording → Place
place r = r.place

-- something is lost
abbrev pub has_lost : Recording → Bool
has_lost r = sides.has_lost r.sides

-- the meaning of a text so far: these bytes from complete lines, and those of the incomplete one
abbrev pub IsReadTo : List ℕ → Place → List Heard → List Heard → Type 0
IsReadTo text at said more =
    (lines : List Line) × (line : List ℕ) × AreLines lines × (text ≡ text_of lines ++ line) × (said ≡ said_by lines) × Stands at line more

-- This text was read, and these packets of it are shown: for a connection from its greeting on, without a loss. The part of a line that may
-- be a mark for missing bytes is pending. If nothing of a line is consumed, the whole line is pending.
pub record Recorded (r : Recording) (text : List ℕ) (items : List Item) : Type 0 where
  pub said : List Heard
  pub pieces : List Piece
  pub read : IsRead text r.place said
  pub waits : said ≡ joined pieces ++ heard r.line.side r.line.bytes.items
  pub line : (r.line.bytes.items ≡ []) ⊎ IsOfSide r.line.side r.place
  pub untaken : r.line.is_untaken ≡ true → IsReadTo text r.place (joined pieces) (heard r.line.side r.line.bytes.items)
  pub stand : Stand r.sides pieces items

-- these packets are a whole session, and neither side has an incomplete payload
abbrev pub IsWhole : Recording → List Item → Type 0
IsWhole r items = sides.IsWhole r.sides items

-- also after a loss: both streams are synchronized, no payload is incomplete, and every command is answered
abbrev pub HasEnded : Recording → Type 0
HasEnded r = sides.HasEnded r.sides

-- the notices at the end for streams that are still not synchronized
abbrev pub SaysLeft : Recording → (old new : List ℕ) → Type 0
SaysLeft r old new = steps.SaysLeft r.sides old new

-- From this place in the text on, the connection resumes at its next command, with what both sides agreed on: neither stream was
-- synchronized before. Exchanges are counted on.
pub record IsResynced (old new : Recording) (agreed : Agreed) : Type 0 where
  pub awaited : sides.IsResynced new.sides agreed (last_exchange old)
  pub place : new.place ≡ old.place
  pub line : new.line ≡ old.line

-- after this text something is lost; or it is read too, and an entry for each of its packets is appended
abbrev pub GoesOn : List ℕ → Recording → Recording → List ℕ → List ℕ → Type 0
GoesOn more old new before after = (text : List ℕ) (items : List Item) → Recorded old text items
    → (has_lost new ≡ true) ⊎ ((here : List Item) × Recorded new (text ++ more) (items ++ here) × Writes (layout old) items here before after)

-- the same for the pending part of a line, which is consumed
abbrev pub Takes : Recording → Recording → List ℕ → List ℕ → Type 0
Takes old new before after = (pieces : List Piece) (items : List Item) → Stand old.sides pieces items
    → (has_lost new ≡ true) ⊎ ((here : List Item) × Stand new.sides (pieces ++ sides.piece old.line.side old.line.bytes.items ∷ []) (items ++ here) × Writes (layout old) items here before after)

-- The text has bytes of both sides. They come in pieces of one side each, except for these last ones, and the packets are those that end in
-- the pieces; the rest of either stream contains none.
pub record IsShown (text : List ℕ) (waits : List Heard) (items : List Item) : Type 0 where
  pub at : Place
  pub said : List Heard
  pub pieces : List Piece
  pub client_left : List ℕ
  pub server_left : List ℕ
  pub read : IsRead text at said
  pub parts : said ≡ joined pieces ++ waits
  pub packets : ComeIn [] [] pieces items client_left server_left
  pub client_none : NoneComes client_left
  pub server_none : NoneComes server_left

-- The text was read to its end, and these packets of it are shown; the rest of either stream is held.
pub record IsFinished (r : Recording) (text : List ℕ) (items : List Item) : Type 0 where
  pub shown : IsShown text [] items
  pub stand : Stand r.sides shown.pieces items

-- at the end of the text something is lost, or an entry is appended for each packet in its rest
abbrev pub Finishes : Recording → Recording → List ℕ → List ℕ → Type 0
Finishes old new before after = (text : List ℕ) (items : List Item) → Recorded old text items
    → (has_lost new ≡ true) ⊎ ((here : List Item) × IsFinished new text (items ++ here) × Writes (layout old) items here before after)
