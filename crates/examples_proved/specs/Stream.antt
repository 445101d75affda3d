-- What a loop over a writer of requests has done.
use Rattle.std.specs.Prelude.{◌≡◌, ℕ, List, ◌∷◌, ◌++◌, map}
use Rattle.std.specs.Global.{Vec}
use Rattle.mysql_packets.specs.Value.{Content}
use Rattle.mysql_packets.specs.ValueRef.{ref_content}
use Rattle.mysql_packets.specs.RequestWriter.{WriterState, Holds}
use Rattle.mysql_packets.specs.StreamedRows.{Streams}
use Rattle.mysql_packets.specs.declared.value.ValueRef.{ValueRef}

-- what the rows hold
abbrev pub row_held : Vec ValueRef → List Content
row_held row = map ref_content row.items

abbrev pub rows_held : List (Vec ValueRef) → List (List Content)
rows_held rows = map row_held rows

abbrev pub bytes_of : List (Vec ℕ) → List (List ℕ)
bytes_of requests = map (λ r. r.items) requests

-- a row more was written: what is streamed after it is streamed from here
pub record Steps (w : WriterState) (row : List Content) (before : List (List ℕ)) (m : WriterState) (after : List (List ℕ)) : Type 0 where
  pub holds : (held : List (List Content)) → Holds w held → (later : List (List Content)) × Holds m later
  pub streams : (held : List (List Content)) → Holds w held → (rest : List (List Content)) (requests : List (List ℕ)) (u : WriterState) → Streams m rest requests u
      → (sent : List (List ℕ)) × (after ≡ before ++ sent) × Streams w (row ∷ rest) (sent ++ requests) u
