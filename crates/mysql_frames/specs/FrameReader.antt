-- The state of a frame reader, and what it returns.
use Rattle.std.specs.Prelude.{◌≡◌, ◌≢◌, ℕ, ◌+◌, ◌*◌, ◌<◌, ◌≤◌, List, [], ◌++◌, length}
use Rattle.mysql_frames.specs.Frames.{Framed, FullFrames, header, most}
use Rattle.mysql_frames.specs.declared.error.FrameError.{FrameError}
use Rattle.mysql_frames.specs.declared.error.FrameError.TheVariants.{Memory, OutOfOrder, TooLong}

-- the bytes held of an incomplete payload, the sequence number of its first frame, and the limit of a payload's length
pub record ReaderState : Type 0 where
  pub held : List ℕ
  pub number : ℕ
  pub limit : ℕ

-- no payload's frames begin with these bytes
abbrev pub NoneWhole : ℕ → List ℕ → Type 0
NoneWhole number bytes = (payload : List ℕ) (after : ℕ) (rest : List ℕ) → Framed number payload after bytes rest → ⊥

-- each payload whose frames begin with these bytes is longer than the limit
abbrev pub AllLonger : ℕ → ℕ → List ℕ → Type 0
AllLonger limit number bytes = (payload : List ℕ) (after : ℕ) (rest : List ℕ) → Framed number payload after bytes rest → limit < length payload

-- the bytes begin with the header of the next frame, in order and within the limit
abbrev pub BeginsInOrder : ReaderState → List ℕ → Type 0
BeginsInOrder reader bytes = (len : ℕ) × (others : List ℕ) × (len ≤ reader.limit) × (bytes ≡ header len reader.number ++ others)

-- The bytes held contain a header with this length and number, after a given number of full frames in order and within the limit; the
-- expected number is `after`. Other bytes follow it.
pub record HoldsHeader (reader : ReaderState) (full after len number : ℕ) (others : List ℕ) : Type 0 where
  pub before : FullFrames most full reader.number after reader.held (header len number ++ others)
  pub within : full * most ≤ reader.limit

-- the first wrong header has an unexpected number
abbrev pub ShowsOutOfOrder : ReaderState → Type 0
ShowsOutOfOrder reader = (full after len number : ℕ) × (others : List ℕ) × HoldsHeader reader full after len number others × (number ≢ after)

-- the first wrong header is in order, and makes the payload longer than the limit
abbrev pub ShowsTooLong : ReaderState → Type 0
ShowsTooLong reader = (full after len : ℕ) × (others : List ℕ) × HoldsHeader reader full after len after others × (reader.limit < full * most + len)

-- no header that is held is out of order or makes the payload longer than the limit
abbrev pub ShowsNoFault : ReaderState → Type 0
ShowsNoFault reader = (ShowsOutOfOrder reader → ⊥) × (ShowsTooLong reader → ⊥)

-- the last header that is held is in order and within the limit, and its frame is incomplete
abbrev pub LacksPart : ReaderState → Type 0
LacksPart reader = (full after len : ℕ) × (others : List ℕ) × HoldsHeader reader full after len after others × (full * most + len ≤ reader.limit) × (length others < len)

-- The first wrong header that is held, and what it means whatever bytes follow. It never asks for memory.
abbrev pub ShowsFault : ReaderState → FrameError → Type 0
ShowsFault reader OutOfOrder = ShowsOutOfOrder reader × ((more : List ℕ) → NoneWhole reader.number (reader.held ++ more))
ShowsFault reader TooLong = ShowsTooLong reader × ((more : List ℕ) → AllLonger reader.limit reader.number (reader.held ++ more))
ShowsFault reader Memory = ⊥

-- why a reader, as it is left, refuses the rest of the input
abbrev pub Refuses : ReaderState → (rest : List ℕ) → FrameError → Type 0
Refuses reader rest OutOfOrder = ShowsFault reader OutOfOrder
Refuses reader rest TooLong = ShowsFault reader TooLong
Refuses reader rest Memory = LacksPart reader × BeginsInOrder reader (reader.held ++ rest)

-- The bytes held and the input begin with the payload's frames; the rest of the input follows them.
pub record HandsOut (old : ReaderState) (input payload : List ℕ) (new : ReaderState) (rest : List ℕ) : Type 0 where
  pub framed : Framed old.number payload new.number (old.held ++ input) rest
  pub within : length payload ≤ old.limit
  pub none_held : new.held ≡ []
  pub limit : new.limit ≡ old.limit

-- All of the input is held, and it completes no payload.
pub record HoldsAll (old : ReaderState) (input : List ℕ) (new : ReaderState) (rest : List ℕ) : Type 0 where
  pub held : new.held ≡ old.held ++ input
  pub none_left : rest ≡ []
  pub none_whole : NoneWhole new.number new.held
  pub number : new.number ≡ old.number
  pub limit : new.limit ≡ old.limit

-- No byte is lost: the bytes held and the rest of the input are, together, those before the call.
pub record Keeps (old : ReaderState) (input : List ℕ) (new : ReaderState) (rest : List ℕ) : Type 0 where
  pub bytes : new.held ++ rest ≡ old.held ++ input
  pub number : new.number ≡ old.number
  pub limit : new.limit ≡ old.limit
