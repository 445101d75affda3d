-- Packets as they were sent.
use Rattle.std.specs.Prelude.{◌≡◌, List, [], ◌∷◌}
use Rattle.mysql_packets.specs.Pipelined.{Numbered}
use Rattle.examples_proved.specs.declared.audit.Sent.{Sent}

-- the packets of a conversation are those that were sent: each of its side, with its payload
abbrev pub AreSent : List Numbered → List Sent → Type 0
AreSent [] [] = Unit {0}
AreSent [] (s ∷ sent) = ⊥
AreSent (x ∷ items) [] = ⊥
AreSent (x ∷ items) (s ∷ sent) = (x.packet.from ≡ s.from) × (x.packet.payload ≡ s.payload.now) × AreSent items sent
