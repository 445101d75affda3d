-- An incomplete payload.
use Rattle.std.specs.Prelude.{◌≡◌, ℕ, ◌+◌, ◌*◌, ◌%◌, ◌<◌, ◌≤◌, zero, suc, List, [], ◌++◌, length, take, drop, max, min}
use Rattle.mysql_frames.specs.FrameHeader.{length_in}
use Rattle.mysql_frames.specs.FrameReader.{ReaderState}
use Rattle.mysql_frames.specs.Frames.{most, header, next}
use Rattle.mysql_frames.specs.declared.unfinished.Unfinished.{Unfinished}

-- the bytes of a given number of full frames of a payload, of the next frame's header, and of the part of that frame that arrived
abbrev pub raw : ℕ → ℕ → ℕ → List ℕ → List ℕ → List ℕ
raw size zero number payload head = head ++ payload
raw size (suc full) number payload head = header size number ++ (take size payload ++ raw size full (next number) (drop size payload) head)

-- the bytes taken so far of an incomplete payload
abbrev pub held : Unfinished → List ℕ
held r = raw most r.full r.first r.payload.items r.head.items

-- the state of a reader
abbrev pub state_of : Unfinished → ReaderState
state_of u = record { held = held u; number = u.first; limit = u.limit }

-- the number of the frame after this many
abbrev pub number_of : ℕ → ℕ → ℕ
number_of full first = (first + full) % 256

-- the parts of a reader are consistent
pub record IsReading (r : Unfinished) : Type 0 where
  pub first : r.first < 256
  pub head : length r.head.items ≤ 4
  pub start : r.full * most ≤ length r.payload.items
  pub nothing_yet : length r.head.items < 4 → length r.payload.items ≡ r.full * most
  pub within : length r.head.items ≡ 4 → length r.payload.items ≤ r.full * most + length_in r.head.items
  pub bounded : length r.payload.items ≤ r.limit

-- between payloads, all that fit in one frame within the limit are read in place; while one is incomplete, none is
pub record IsReady (r : Unfinished) : Type 0 where
  pub between : held r ≡ [] → r.in_place ≡ min (r.limit + 1) most
  pub within : 0 < r.in_place → held r ≡ []
  pub bound : r.in_place ≤ min (r.limit + 1) most

-- a complete header of a frame of a given length is held, and it is the expected one
pub record IsHeader (r : Unfinished) (len : ℕ) : Type 0 where
  pub head : r.head.items ≡ header len (number_of r.full r.first)
  pub below : r.full * most + len ≤ r.limit
  pub no_longer : len ≤ most

-- a complete frame of a given length is held
pub record HasFrame (r : Unfinished) (len : ℕ) : Type 0 where
  pub header : IsHeader r len
  pub body : length r.payload.items ≡ r.full * most + len

-- this capacity is too small for the payload including a next frame of a given length, and for the part of it that is held with the input
-- or 65,536 bytes, whichever is more
pub record LacksCapacity (capacity : ℕ) (r : Unfinished) (len : ℕ) (input : List ℕ) : Type 0 where
  pub frame : capacity < r.full * most + len
  pub comes : capacity < length r.payload.items + max 65536 (length input)

-- the next frame's header is held, and this capacity is too small for its frame
abbrev pub Lacks : ℕ → Unfinished → List ℕ → Type 0
Lacks capacity r input = (len : ℕ) × IsHeader r len × LacksCapacity capacity r len input
