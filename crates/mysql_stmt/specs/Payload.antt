-- The limit of one packet.
use Rattle.std.specs.Prelude.{ℕ, ◌-◌, ◌^◌}

-- the most bytes of a packet
abbrev pub max_payload : ℕ
max_payload = 2 ^ 24 - 1
