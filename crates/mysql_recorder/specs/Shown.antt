-- Packets as they are shown.
use Rattle.std.specs.Prelude.{◌≡◌, ℕ, false, List, [], ◌∷◌, ◌++◌}
use Rattle.mysql_conversation.specs.PacketKindTag.{name_of, text_of}
use Rattle.mysql_conversation.specs.Piped.{place}
use Rattle.mysql_conversation.specs.Pipelined.{Numbered}
use Rattle.mysql_conversation.specs.declared.packet_kind.PacketKind.{PacketKind}
use Rattle.mysql_conversation.specs.declared.packet_kind.Side.{Side}
use Rattle.mysql_show.specs.Fields.{Said, have_float}
use Rattle.mysql_recorder.specs.declared.entry.Layout.{Layout}
use Rattle.mysql_observer.specs.Observed.{Observed}
use Rattle.mysql_observer.specs.declared.observer.Observer.{Observer}
use Rattle.mysql_recorder.specs.Entries.{Entry, entry_text, AppendsEntry}
use Rattle.mysql_recorder.specs.RecordFields.{AreFields}

-- a packet of a recording: the number of its first frame, its side, its payload, its kind, and the number of its exchange
pub record Item : Type 0 where
  pub sequence : ℕ
  pub placed : Numbered

abbrev pub item : ℕ → Side → List ℕ → PacketKind → ℕ → Item
item sequence side payload kind exchange = record { sequence = sequence; placed = place side payload kind exchange }

abbrev pub placed : List Item → List Numbered
placed [] = []
placed (x ∷ xs) = x.placed ∷ placed xs

abbrev pub entry_of : Item → Entry
entry_of x = record {
  side = x.placed.packet.from;
  sequence = x.sequence;
  exchange = x.placed.number;
  kind = text_of (name_of x.placed.packet.kind);
  payload = x.placed.packet.payload;
}

-- An entry with such fields is appended. Without floats among them, the text is the entry's.
abbrev pub AppendsFields : (List Said → Type 0) → Layout → Entry → (old new : List ℕ) → Type 0
AppendsFields Are layout entry old new =
    (fields : List Said) × Are fields × (have_float fields ≡ false → new ≡ old ++ entry_text layout entry fields) × AppendsEntry layout entry fields old new

-- the fields of the record that is returned by an observer to which this packet came after these
abbrev pub AreFieldsOf : List Numbered → Item → List Said → Type 0
AreFieldsOf before x fields =
    (o : Observer) × Observed o (before ++ x.placed ∷ []) × AreFields o x.placed.packet.from x.placed.packet.kind x.placed.packet.payload fields

-- an entry with those fields is appended
abbrev pub Appends : Layout → List Numbered → Item → (old new : List ℕ) → Type 0
Appends layout before x old new = AppendsFields (AreFieldsOf before x) layout (entry_of x) old new

-- an entry for each of the packets that come after these is appended, in order
abbrev pub Writes : Layout → (before items : List Item) → List ℕ → List ℕ → Type 0
Writes layout before [] old new = old ≡ new
Writes layout before (x ∷ xs) old new = (mid : List ℕ) × Appends layout (placed before) x old mid × Writes layout (before ++ x ∷ []) xs mid new
