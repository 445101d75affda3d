-- Why a packet is unexpected.
use Rattle.std.specs.Prelude.{◌≡◌, ◌<◌, ℕ, List, [], ◌∷◌, ◌++◌}
use Rattle.mysql_conversation.specs.Agreements.{Agreed}
use Rattle.mysql_conversation.specs.Piped as pipe
use Rattle.mysql_conversation.specs.Piped.{HasNoCapacity, IsFull, MustWait, place}
use Rattle.mysql_conversation.specs.Pipelined.{Numbered}
use Rattle.mysql_conversation.specs.Session.{IsResumedBeginning, IsSessionBeginning}
use Rattle.mysql_conversation.specs.declared.packet_kind.PacketKind.{PacketKind}
use Rattle.mysql_conversation.specs.declared.packet_kind.Side.{Side}
use Rattle.mysql_conversation.specs.declared.packet_kind.Side.TheVariants.{Client}
use Rattle.mysql_conversation.specs.declared.pipeline.Pipeline.{Pipeline}
use Rattle.mysql_conversation.specs.declared.pipeline.SessionError.{SessionError}
use Rattle.mysql_conversation.specs.declared.pipeline.SessionError.TheVariants as refusal
use Rattle.mysql_observer.specs.Observed.{AgreesOnCompression, Continues, IsHidden, Observed, Resumed}
use Rattle.mysql_observer.specs.declared.observer.Observer.{Observer}

-- a command would have to wait, and may, but there is no capacity for it
abbrev pub LacksMemory : Pipeline → Side → Type 0
LacksMemory p side = (side ≡ Client) × MustWait p × (pipe.waiting p < pipe.limit p) × HasNoCapacity p

-- no packet of this side and payload goes on with what came: of a connection from its greeting on, or of one that is resumed
abbrev pub NoneGoesOn : Observer → Side → List ℕ → Type 0
NoneGoesOn o side payload =
    ((items : List Numbered) (kind : PacketKind) (number : ℕ) → Observed o items → IsSessionBeginning (items ++ place side payload kind number ∷ []) → ⊥)
    × ((a : Agreed) (before : ℕ) (items : List Numbered) (kind : PacketKind) (number : ℕ) → Resumed o a before items → IsResumedBeginning a (items ++ place side payload kind number ∷ []) → ⊥)

-- why a packet is refused
abbrev pub IsReason : Observer → Side → List ℕ → SessionError → Type 0
IsReason o side payload refusal.UnexpectedPacket = NoneGoesOn o side payload
IsReason o side payload refusal.Full = (p : Pipeline) × Continues o p × IsFull p side payload
IsReason o side payload refusal.Memory = (p : Pipeline) × Continues o p × LacksMemory p side
IsReason o side payload refusal.Encrypted = IsHidden o side payload
IsReason o side payload refusal.Compressed = AgreesOnCompression o side payload

-- an observer that was passed these packets refuses this one for this reason
abbrev pub IsRefusedFor : List Numbered → Side → List ℕ → SessionError → Type 0
IsRefusedFor items side payload why = (o : Observer) × Observed o items × IsReason o side payload why
