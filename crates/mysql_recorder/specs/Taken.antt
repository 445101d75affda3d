-- One packet that is shown.
use Rattle.std.specs.Prelude.{ℕ, List, [], ◌∷◌, ◌++◌}
use Rattle.mysql_conversation.specs.Pipelined.{Numbered}
use Rattle.mysql_conversation.specs.declared.packet_kind.PacketKind.{PacketKind}
use Rattle.mysql_conversation.specs.declared.packet_kind.Side.{Side}
use Rattle.mysql_recorder.specs.declared.entry.Layout.{Layout}
use Rattle.mysql_observer.specs.Observed.{Observed}
use Rattle.mysql_recorder.specs.Shown.{item, Appends}
use Rattle.mysql_observer.specs.declared.observer.Observer.{Observer}

-- the packet, of some kind and exchange, continues what came, and its entry is appended
abbrev pub ShowsPacket : Layout → Side → ℕ → List ℕ → List Numbered → Observer → List ℕ → List ℕ → Type 0
ShowsPacket layout side sequence payload items new before after =
    (kind : PacketKind) × (exchange : ℕ) × Observed new (items ++ (item sequence side payload kind exchange).placed ∷ [])
    × Appends layout items (item sequence side payload kind exchange) before after
