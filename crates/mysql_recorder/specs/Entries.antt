-- Packets and notices as they are shown.
use Rattle.std.specs.Prelude.{◌≡◌, ℕ, List, [], ◌∷◌, ◌++◌, length, codes, decimal}
use Rattle.mysql_conversation.specs.declared.packet_kind.Side.{Side}
use Rattle.mysql_conversation.specs.declared.packet_kind.Side.TheVariants as side
use Rattle.mysql_show.specs.FieldObject.{AppendsObject, object_line}
use Rattle.mysql_show.specs.FieldText.{AppendsLines, lines_of}
use Rattle.mysql_show.specs.Fields.{Said, said, Number, Word, Digits}
use Rattle.mysql_recorder.specs.declared.entry.Layout.{Layout}
use Rattle.mysql_recorder.specs.declared.entry.Layout.TheVariants as layout
use Rattle.mysql_recorder.specs.declared.entry.Notice.{Notice}
use Rattle.mysql_recorder.specs.declared.entry.Packet.{Packet}

abbrev pub sign_of : Side → List ℕ
sign_of side.Client = codes ">"
sign_of side.Server = codes "<"

abbrev pub name_of_side : Side → List ℕ
name_of_side side.Client = codes "client"
name_of_side side.Server = codes "server"

-- the earlier text is unchanged, and this prefix of the appended text follows
abbrev pub Begins : List ℕ → List ℕ → List ℕ → Type 0
Begins front old new = (rest : List ℕ) × (new ≡ old ++ (front ++ rest))

-- ---- packets

-- the head of an entry
pub record Entry : Type 0 where
  pub side : Side
  pub sequence : ℕ
  pub exchange : ℕ
  pub kind : List ℕ
  pub payload : List ℕ

abbrev pub entry_as : Packet → Entry
entry_as p = record { side = p.side; sequence = p.sequence; exchange = p.exchange; kind = p.kind.now; payload = p.payload.now }

-- the line that begins a packet
abbrev pub entry_line : Entry → List ℕ
entry_line e = sign_of e.side ++ (codes " " ++ (decimal e.sequence ++ (codes " " ++ (e.kind ++ codes "\n"))))

-- the members of each packet's object
abbrev pub entry_head : Entry → List Said
entry_head e =
    said (codes "side") (Word (name_of_side e.side))
    ∷ said (codes "sequence") (Number e.sequence)
    ∷ said (codes "exchange") (Number e.exchange)
    ∷ said (codes "kind") (Word e.kind)
    ∷ said (codes "size") (Number (length e.payload))
    ∷ said (codes "payload") (Digits e.payload)
    ∷ []

-- an entry with its fields, in a layout
abbrev pub entry_text : Layout → Entry → List Said → List ℕ
entry_text layout.Lines e fields = entry_line e ++ lines_of fields
entry_text layout.Json e fields = object_line (entry_head e) fields

-- the beginning of the output for any fields: the line; in an object, the members in the order of their names
abbrev pub entry_front : Layout → Entry → List ℕ
entry_front layout.Lines e = entry_line e
entry_front layout.Json e = []

-- also with floats, whose digits aren't specified: after its line, the entry's fields are appended, or its object is
abbrev pub AppendsEntry : Layout → Entry → List Said → (old new : List ℕ) → Type 0
AppendsEntry layout.Lines e fields old new = AppendsLines fields (old ++ entry_line e) new
AppendsEntry layout.Json e fields old new = AppendsObject (entry_head e) fields old new

-- ---- notices

abbrev pub notice_line : Side → (kind : List ℕ) → List ℕ
notice_line side kind = sign_of side ++ (codes " " ++ (kind ++ codes "\n"))

abbrev pub notice_head : Side → (exchange : ℕ) → (kind : List ℕ) → List Said
notice_head side exchange kind =
    said (codes "side") (Word (name_of_side side)) ∷ said (codes "exchange") (Number exchange) ∷ said (codes "kind") (Word kind) ∷ []

-- a notice about a side's stream, between its packets
abbrev pub notice_text : Layout → Side → (exchange : ℕ) → (kind : List ℕ) → List Said → List ℕ
notice_text layout.Lines side exchange kind fields = notice_line side kind ++ lines_of fields
notice_text layout.Json side exchange kind fields = object_line (notice_head side exchange kind) fields

abbrev pub notice_front : Layout → Notice → List ℕ
notice_front layout.Lines n = notice_line n.side n.kind.now
notice_front layout.Json n = []
