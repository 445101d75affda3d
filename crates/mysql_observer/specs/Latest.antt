-- The exchange of the packet that came last, and the result that came last.
use Rattle.std.specs.Prelude.{ℕ, ◌==◌, Bool, List, [], ◌∷◌}
use Rattle.mysql_conversation.specs.Pipelined.{Numbered}
use Rattle.mysql_conversation.specs.declared.packet_kind.PacketKind.{PacketKind}
use Rattle.mysql_conversation.specs.declared.packet_kind.PacketKind.TheVariants as kind
use Rattle.mysql_observer.specs.declared.latest.Latest.{Latest}

abbrev pub none : Latest
none = record { exchange = 0; result_exchange = 0; column_count = 0 }

-- A result begins with the count of its columns.
abbrev pub latest_after : PacketKind → ℕ → Latest → Latest
latest_after (kind.ColumnCount n follow) number l = record { exchange = number; result_exchange = number; column_count = n }
latest_after _ number l = record { exchange = number; result_exchange = l.result_exchange; column_count = l.column_count }

abbrev pub latest_of : Latest → List Numbered → Latest
latest_of l [] = l
latest_of l (x ∷ xs) = latest_of (latest_after x.packet.kind x.number l) xs

-- after these packets
abbrev pub latest_in : List Numbered → Latest
latest_in items = latest_of none items

-- the packet that came last is of the exchange of the result
abbrev pub is_of_result : Latest → Bool
is_of_result l = l.exchange == l.result_exchange
