-- Unexpected packets of a connection.
use Rattle.std.specs.Prelude.{◌≡◌, ℕ, List, ◌++◌}
use Rattle.mysql_conversation.specs.Pipelined.{Numbered}
use Rattle.mysql_conversation.specs.declared.packet_kind.Side.{Side}
use Rattle.mysql_conversation.specs.declared.packet_kind_tag.PacketKindTag.{PacketKindTag}
use Rattle.mysql_conversation.specs.declared.pipeline.SessionError.{SessionError}
use Rattle.mysql_recorder.specs.declared.entry.Layout.{Layout}
use Rattle.mysql_observer.specs.Observed.{Observed, last_exchange}
use Rattle.mysql_recorder.specs.Refused.{AreExpected, refused_entry, refused_fields}
use Rattle.mysql_recorder.specs.Entries.{Entry, entry_text}
use Rattle.mysql_recorder.specs.declared.error.RecordingError.{RecordingError}
use Rattle.mysql_recorder.specs.declared.error.RecordingError.TheVariants as error
use Rattle.mysql_observer.specs.declared.observer.Observer.{Observer}

-- which of these names are those of kinds that may come next
abbrev pub Expects : Observer → List PacketKindTag → List PacketKindTag → Type 0
Expects f all names = (items : List Numbered) → Observed f items → AreExpected items all names

-- the entry is appended with the fields of an unexpected packet
abbrev pub AppendsRefused : List PacketKindTag → Layout → Observer → Entry → SessionError → List ℕ → List ℕ → Type 0
AppendsRefused all layout f entry why before after =
    (names : List PacketKindTag) × Expects f all names × (after ≡ before ++ entry_text layout entry (refused_fields entry.payload why names))

-- of the last exchange
abbrev pub Refuses : List PacketKindTag → Layout → Observer → Side → ℕ → List ℕ → SessionError → List ℕ → List ℕ → Type 0
Refuses all layout f side sequence payload why before after = AppendsRefused all layout f (refused_entry side sequence (last_exchange f) payload) why before after

-- if the error is a refusal, this holds for its reason
abbrev pub IfRefused : RecordingError → (SessionError → Type 0) → Type 0
IfRefused (error.Refused why) P = P why
IfRefused _ _ = Unit {0}

-- if the error is a malformed line, this holds
abbrev pub IfLine : RecordingError → Type 0 → Type 0
IfLine error.Line P = P
IfLine _ _ = Unit {0}
