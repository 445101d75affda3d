-- A caller's own loop over a writer of requests.
use Rattle.std.specs.Prelude.{◌≡◌, ◌⊎◌, ℕ, true, false, List, [], ◌∷◌, length, map, Ok}
use Rattle.mysql_cuts.specs.Cut.{IsFewest}
use Rattle.mysql_values.specs.Value.{Content}
use Rattle.mysql_bulk.specs.Builder.{BuilderState, packing, after_request}
use Rattle.mysql_bulk.specs.declared.error.BulkRowError.{BulkRowError}
use Rattle.mysql_bulk.specs.CollectedRows.{EndsRefused}
use Rattle.mysql_bulk.specs.Request.{BulkRequest, request_bytes}
use Rattle.mysql_bulk.specs.RequestWriter.{WriterState, as_builder, request_of, Holds, AddsAsBuilder, FinishesAsBuilder}

-- Rows were offered to a writer in order, and each was written: if it did not fit with the waiting rows, the writer returned that, and
-- their request was released first. These are the bytes of the requests that were released.
abbrev pub Streams : WriterState → List (List Content) → List (List ℕ) → WriterState → Type 0
Streams w [] requests u = (requests ≡ []) × (u ≡ w)
Streams w (row ∷ rows) requests u =
    ((m : WriterState) × AddsAsBuilder w row (Ok true) m × Streams m rows requests u)
    ⊎ ((n : WriterState) × (v : WriterState) × (m : WriterState) × (later : List (List ℕ)) × AddsAsBuilder w row (Ok false) n × FinishesAsBuilder n v × AddsAsBuilder v row (Ok true) m
    × (requests ≡ n.bytes ∷ later) × Streams m rows later u)

-- these are the bytes of the requests that a builder makes of the parts, in order
abbrev pub AreBytes : BuilderState → List (List (List Content)) → List (List ℕ) → Type 0
AreBytes s [] [] = Unit {0}
AreBytes s (part ∷ parts) (bytes ∷ requests) = (bytes ≡ request_bytes (request_of s part)) × AreBytes (after_request s) parts requests
AreBytes s [] (bytes ∷ requests) = ⊥
AreBytes s (part ∷ parts) [] = ⊥

-- the requests are those of a cut with the fewest parts
pub record AreFewest (w : WriterState) (rows : List (List Content)) (requests : List (List ℕ)) : Type 0 where
  pub cut : List (List (List Content))
  pub fewest : IsFewest (packing (as_builder w []) (length w.types)) rows cut
  pub bytes : AreBytes (as_builder w []) cut requests

-- the row after these was refused: these are the requests that were released, and the rows that wait
pub record StreamEndsRefused (w : WriterState) (rows : List (List Content)) (requests : List (List ℕ)) (row : List Content) (later : List (List Content)) (e : BulkRowError) (u : WriterState) : Type 0 where
  pub sent : List BulkRequest
  pub bytes : requests ≡ map request_bytes sent
  pub waiting : List (List Content)
  pub holds : Holds u waiting
  pub ends : EndsRefused (as_builder w []) rows sent row later e (as_builder u waiting)
