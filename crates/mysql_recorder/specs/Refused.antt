-- An unexpected packet, as it is shown.
use Rattle.std.specs.Prelude.{◌≡◌, ◌⊎◌, ℕ, List, [], ◌∷◌, ◌++◌, length, take, min, codes}
use Rattle.mysql_conversation.specs.PacketKindTag.{text_of}
use Rattle.mysql_conversation.specs.Piped.{place}
use Rattle.mysql_conversation.specs.Pipelined.{Numbered}
use Rattle.mysql_conversation.specs.Session.{GoesOn, IsSessionBeginning}
use Rattle.mysql_conversation.specs.declared.packet_kind.PacketKind.{PacketKind}
use Rattle.mysql_conversation.specs.declared.packet_kind.Side.{Side}
use Rattle.mysql_conversation.specs.declared.packet_kind.Side.TheVariants.{Client, Server}
use Rattle.mysql_conversation.specs.declared.packet_kind_tag.PacketKindTag.{PacketKindTag}
use Rattle.mysql_conversation.specs.declared.pipeline.SessionError.{SessionError}
use Rattle.mysql_conversation.specs.declared.pipeline.SessionError.TheVariants as refusal
use Rattle.mysql_show.specs.Fields.{Said, said, Bytes, Word}
use Rattle.mysql_recorder.specs.declared.entry.Layout.{Layout}
use Rattle.mysql_observer.specs.Observed.{highest_exchange}
use Rattle.mysql_recorder.specs.Reasons.{IsRefusedFor}
use Rattle.mysql_recorder.specs.Entries.{Entry, entry_text}

abbrev pub refusal_text : SessionError → List ℕ
refusal_text refusal.UnexpectedPacket = codes "Unexpected"
refusal_text refusal.Full = codes "Full"
refusal_text refusal.Memory = codes "Memory"
refusal_text refusal.Encrypted = codes "Encrypted"
refusal_text refusal.Compressed = codes "Compressed"

abbrev pub expected_fields : List PacketKindTag → List Said
expected_fields [] = []
expected_fields (name ∷ names) = said (codes "expected") (Word (text_of name)) ∷ expected_fields names

-- its first 64 bytes, why it is refused, and the expected kinds
abbrev pub refused_fields : List ℕ → SessionError → List PacketKindTag → List Said
refused_fields payload why names =
    said (codes "begins") (Bytes (take (min (length payload) 64) payload)) ∷ said (codes "refused") (Word (refusal_text why)) ∷ expected_fields names

-- after these packets, one of a kind with this name may come, from either side
unfoldable pub MayCome : List Numbered → PacketKindTag → Type 0
MayCome items name = GoesOn Client name items ⊎ GoesOn Server name items

-- of all these names, those of kinds that may come, in order
abbrev pub AreExpected : List Numbered → List PacketKindTag → List PacketKindTag → Type 0
AreExpected items [] names = names ≡ []
AreExpected items (name ∷ all) names =
    ((more : List PacketKindTag) × (names ≡ name ∷ more) × MayCome items name × AreExpected items all more) ⊎ ((MayCome items name → ⊥) × AreExpected items all names)

abbrev pub refused_entry : Side → ℕ → ℕ → List ℕ → Entry
refused_entry side sequence exchange payload = record { side = side; sequence = sequence; exchange = exchange; kind = codes "refused"; payload = payload }

-- After these packets, the packet is shown as unexpected; `all` are the names of all kinds. It belongs to the last exchange.
abbrev pub ShowsRefused : List PacketKindTag → Layout → Side → ℕ → List ℕ → List Numbered → SessionError → List ℕ → List ℕ → Type 0
ShowsRefused all layout side sequence payload items why before after =
    (exchange : ℕ) × (names : List PacketKindTag) × AreExpected items all names
    × (after ≡ before ++ entry_text layout (refused_entry side sequence exchange payload) (refused_fields payload why names))
    × (why ≡ refusal.UnexpectedPacket → (kind : PacketKind) (number : ℕ) → IsSessionBeginning (items ++ place side payload kind number ∷ []) → ⊥)
    × (exchange ≡ highest_exchange items) × IsRefusedFor items side payload why
