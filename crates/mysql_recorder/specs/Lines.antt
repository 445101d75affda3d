-- The lines of a recording, and what they mean.
use Rattle.std.specs.Prelude.{◌≡◌, ◌≢◌, ◌⊎◌, ℕ, ◌+◌, ◌-◌, ◌*◌, ◌≤◌, ◌==◌, ◌||◌, ◌&&◌, nat_le, Bool, List, [], ◌∷◌, ◌++◌, Option, Some, None, option_map, if◌then◌else◌}
use Rattle.std.specs.List.{All}
use Rattle.mysql_conversation.specs.declared.packet_kind.Side.{Side}
use Rattle.mysql_conversation.specs.declared.packet_kind.Side.TheVariants.{Client, Server}
use Rattle.mysql_recorder.specs.declared.line.Place.{Place}
use Rattle.mysql_recorder.specs.declared.line.Place.TheVariants as place
use Rattle.mysql_recorder.specs.declared.line.Said.{Said}
use Rattle.mysql_recorder.specs.declared.line.Said.TheVariants as says

-- a byte of a side's stream
pub record Heard : Type 0 where
  pub from : Side
  pub byte : ℕ

-- bytes of one side
abbrev pub heard : Side → List ℕ → List Heard
heard side [] = []
heard side (b ∷ bytes) = record { from = side; byte = b } ∷ heard side bytes

-- ---- digits

-- a digit in lower case, and its value
abbrev pub IsLowerDigit : ℕ → ℕ → Type 0
IsLowerDigit c value = ((48 ≤ c) × (c ≤ 57) × (value + 48 ≡ c)) ⊎ ((97 ≤ c) × (c ≤ 102) × (value + 87 ≡ c))

abbrev pub IsDigit : ℕ → ℕ → Type 0
IsDigit c value = IsLowerDigit c value ⊎ ((65 ≤ c) × (c ≤ 70) × (value + 55 ≡ c))

-- what may separate two bytes: a space, or a carriage return
abbrev pub IsSpace : ℕ → Type 0
IsSpace c = (c ≡ 32) ⊎ (c ≡ 13)

-- bytes, two digits each, high digit first
pub data Spells : List ℕ → List ℕ → Type 0 where
  nothing : Spells [] []
  space : {text bytes : List ℕ} (c : ℕ) → IsSpace c → Spells text bytes → Spells (c ∷ text) bytes
  byte : {text bytes : List ℕ} (c d high low : ℕ) → IsDigit c high → IsDigit d low → Spells text bytes → Spells (c ∷ d ∷ text) ((16 * high + low) ∷ bytes)

-- ---- lines

-- how a side's line begins: > for the client; < or a tab for the server
abbrev pub IsSign : Side → ℕ → Type 0
IsSign Client c = c ≡ 62
IsSign Server c = (c ≡ 60) ⊎ (c ≡ 9)

-- a line of the client without a sign: it begins with a lowercase digit
abbrev pub IsBare : List ℕ → List ℕ → Type 0
IsBare line bytes =
    (c : ℕ) × (d : ℕ) × (high : ℕ) × (low : ℕ) × (text : List ℕ) × (more : List ℕ)
    × (line ≡ c ∷ d ∷ text) × IsLowerDigit c high × IsDigit d low × Spells text more × (bytes ≡ (16 * high + low) ∷ more)

-- a line with these bytes of a side's stream
abbrev pub SaysBytes : Side → List ℕ → List ℕ → Type 0
SaysBytes side line bytes =
    ((sign : ℕ) × (text : List ℕ) × (line ≡ sign ∷ text) × IsSign side sign × Spells text bytes) ⊎ ((side ≡ Client) × IsBare line bytes)

-- how a line without bytes begins: with a carriage return, #, =, F or N
abbrev pub IsSilentSign : ℕ → Type 0
IsSilentSign c = (c ≡ 13) ⊎ (c ≡ 35) ⊎ (c ≡ 61) ⊎ (c ≡ 70) ⊎ (c ≡ 78)

abbrev pub IsNoLineFeed : ℕ → Type 0
IsNoLineFeed c = c ≢ 10

-- a line without bytes: an empty one, or one that begins so
abbrev pub SaysNothing : List ℕ → Type 0
SaysNothing line = (line ≡ []) ⊎ ((sign : ℕ) × (text : List ℕ) × (line ≡ sign ∷ text) × IsSilentSign sign × All IsNoLineFeed text)

-- a line without its line feed, and its meaning
pub record Line : Type 0 where
  pub text : List ℕ
  pub says : List Heard

abbrev pub IsLine : Line → Type 0
IsLine line = (SaysNothing line.text × (line.says ≡ [])) ⊎ ((side : Side) × (bytes : List ℕ) × SaysBytes side line.text bytes × (line.says ≡ heard side bytes))

abbrev pub AreLines : List Line → Type 0
AreLines [] = Unit {0}
AreLines (line ∷ lines) = IsLine line × AreLines lines

abbrev pub text_of : List Line → List ℕ
text_of [] = []
text_of (line ∷ lines) = (line.text ++ 10 ∷ []) ++ text_of lines

abbrev pub said_by : List Line → List Heard
said_by [] = []
said_by (line ∷ lines) = line.says ++ said_by lines

-- ---- an incomplete line

-- the bytes of a line, and after them the first digit of another one
abbrev pub IsHalf : Side → ℕ → List ℕ → List ℕ → Type 0
IsHalf side high line bytes =
    (front : List ℕ) × (c : ℕ) × (line ≡ front ++ c ∷ []) × (high ≤ 15)
    × ((SaysBytes side front bytes × IsDigit c high) ⊎ ((front ≡ []) × (side ≡ Client) × (bytes ≡ []) × IsLowerDigit c high))

-- the part of the line so far, and its meaning
abbrev pub Stands : Place → List ℕ → List Heard → Type 0
Stands place.Start line said = (line ≡ []) × (said ≡ [])
Stands (place.Between side) line said = (bytes : List ℕ) × SaysBytes side line bytes × (said ≡ heard side bytes)
Stands (place.Half side high) line said = (bytes : List ℕ) × IsHalf side high line bytes × (said ≡ heard side bytes)
Stands place.Silent line said = SaysNothing line × (line ≢ []) × (said ≡ [])

-- the meaning of one more byte of the line: a byte of a stream, or the end of the line; the end of a line without bytes means nothing
abbrev pub Passes : Option Said → ℕ → List ℕ → List Heard → Place → Type 0
Passes None c line said new = Stands new (line ++ c ∷ []) said ⊎ ((c ≡ 10) × (new ≡ place.Start) × (said ≡ []) × IsLine (record { text = line; says = said }))
Passes (Some (says.Byte side value)) c line said new = Stands new (line ++ c ∷ []) (said ++ record { from = side; byte = value } ∷ [])
Passes (Some says.End) c line said new = (c ≡ 10) × (new ≡ place.Start) × IsLine (record { text = line; says = said })

-- its meaning for the streams
abbrev pub says_of : Option Said → List Heard
says_of None = []
says_of (Some (says.Byte side value)) = record { from = side; byte = value } ∷ []
says_of (Some says.End) = []

-- the line belongs to a side
abbrev pub IsOfSide : Side → Place → Type 0
IsOfSide t (place.Between side) = side ≡ t
IsOfSide t (place.Half side high) = side ≡ t
IsOfSide t place.Start = ⊥
IsOfSide t place.Silent = ⊥

-- it does up to its end, and its bytes are of that side
abbrev pub StaysOf : Option Said → Place → Place → Type 0
StaysOf None old new = (t : Side) → IsOfSide t old → IsOfSide t new
StaysOf (Some (says.Byte side value)) old new = ((t : Side) → IsOfSide t old → side ≡ t) × IsOfSide side new
StaysOf (Some says.End) old new = Unit {0}

-- the meaning of a text so far: of complete lines, and of the incomplete one
abbrev pub IsRead : List ℕ → Place → List Heard → Type 0
IsRead text at said =
    (lines : List Line) × (line : List ℕ) × (more : List Heard) × AreLines lines
    × (text ≡ text_of lines ++ line) × (said ≡ said_by lines ++ more) × Stands at line more

-- ---- byte by byte: the state within a line after one more byte, unless the byte is not allowed there

abbrev pub is_between : ℕ → ℕ → ℕ → Bool
is_between low c high = nat_le low c && nat_le c high

abbrev pub lower_value : ℕ → Option ℕ
lower_value c = if is_between 48 c 57 then Some (c - 48) else (if is_between 97 c 102 then Some (c - 97 + 10) else None)

abbrev pub digit_value : ℕ → Option ℕ
digit_value c = if is_between 65 c 70 then Some (c - 65 + 10) else lower_value c

abbrev pub half : Side → ℕ → Place
half side high = place.Half side high

-- after the first byte of a line
abbrev pub begun_by : ℕ → Option Place
begun_by c =
    if c == 62 then Some (place.Between Client)
    else (if c == 60 || c == 9 then Some (place.Between Server)
    else (if c == 10 then Some place.Start
    else (if c == 13 || (c == 35 || (c == 61 || (c == 70 || c == 78))) then Some place.Silent
    else option_map (half Client) (lower_value c))))

-- after one more byte of a side's line: a space and a carriage return mean nothing
abbrev pub after_byte : Side → ℕ → Option Place
after_byte side c = if c == 32 || c == 13 then Some (place.Between side) else option_map (half side) (digit_value c)

abbrev pub next_place : Place → ℕ → Option Place
next_place place.Start c = begun_by c
next_place (place.Between side) c = if c == 10 then Some place.Start else after_byte side c
next_place (place.Half side high) c = option_map (λ low. place.Between side) (digit_value c)
next_place place.Silent c = if c == 10 then Some place.Start else Some place.Silent

-- after a text, unless one of its lines is malformed
abbrev pub place_from : Option Place → List ℕ → Option Place
place_from None text = None
place_from (Some at) [] = Some at
place_from (Some at) (c ∷ text) = place_from (next_place at c) text

abbrev pub place_after : Place → List ℕ → Option Place
place_after at text = place_from (Some at) text
