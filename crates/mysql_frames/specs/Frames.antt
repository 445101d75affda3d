-- Frames: how payloads are transmitted in a stream of bytes.
use Rattle.std.specs.Prelude.{◌≡◌, ℕ, ◌+◌, ◌/◌, ◌%◌, ◌<◌, ◌≤◌, zero, suc, List, [], ◌∷◌, ◌++◌, length}

-- the most bytes of a payload in one frame
abbrev pub most : ℕ
most = 16777215

-- the header of a frame with a given number of bytes: the length in three bytes, little-endian, and the sequence number
abbrev pub header : ℕ → ℕ → List ℕ
header len number = (len % 256) ∷ (len / 256 % 256) ∷ (len / 65536) ∷ number ∷ []

-- the next sequence number
abbrev pub next : ℕ → ℕ
next number = (number + 1) % 256

-- the bytes are a frame with this number and content, and then the rest
abbrev pub IsFrame : ℕ → List ℕ → List ℕ → List ℕ → Type 0
IsFrame number content bytes rest = (length content ≤ most) × (bytes ≡ header (length content) number ++ (content ++ rest))

-- For frames of at most `size` bytes of a payload: the bytes are a given number of full frames and a shorter one, which may be empty, with
-- this payload, numbered from `number` on, and then the rest. The next frame would have the number `after`.
abbrev pub FramedIn : ℕ → ℕ → ℕ → List ℕ → ℕ → List ℕ → List ℕ → Type 0
FramedIn size zero number payload after bytes rest =
    (length payload < size) × (bytes ≡ header (length payload) number ++ (payload ++ rest)) × (after ≡ next number)
FramedIn size (suc full) number payload after bytes rest =
    (chunk : List ℕ) × (more : List ℕ) × (mid : List ℕ)
    × (length chunk ≡ size) × (payload ≡ chunk ++ more) × (bytes ≡ header size number ++ (chunk ++ mid)) × FramedIn size full (next number) more after mid rest

-- the bytes are a given number of full frames of a payload, numbered from `number` on, and then the rest, whose first frame would have the
-- number `after`
abbrev pub FullFrames : ℕ → ℕ → ℕ → ℕ → List ℕ → List ℕ → Type 0
FullFrames size zero number after bytes rest = (number ≡ after) × (bytes ≡ rest)
FullFrames size (suc full) number after bytes rest =
    (chunk : List ℕ) × (mid : List ℕ) × (length chunk ≡ size) × (bytes ≡ header size number ++ (chunk ++ mid)) × FullFrames size full (next number) after mid rest

-- the bytes are the frames of this payload, and then the rest
abbrev pub Framed : ℕ → List ℕ → ℕ → List ℕ → List ℕ → Type 0
Framed number payload after bytes rest = (full : ℕ) × FramedIn most full number payload after bytes rest

-- the bytes are the frames of these payloads, with consecutive numbers, and then the rest
abbrev pub Stream : ℕ → List (List ℕ) → ℕ → List ℕ → List ℕ → Type 0
Stream number [] after bytes rest = (number ≡ after) × (bytes ≡ rest)
Stream number (payload ∷ payloads) after bytes rest =
    (between : ℕ) × (mid : List ℕ) × Framed number payload between bytes mid × Stream between payloads after mid rest

-- the frames of a payload are appended, whatever bytes follow
abbrev pub AppendsFrames : ℕ → List ℕ → ℕ → (old new : List ℕ) → Type 0
AppendsFrames number payload after old new =
    (bytes : List ℕ) × (new ≡ old ++ bytes) × ((rest : List ℕ) → Framed number payload after (bytes ++ rest) rest)
