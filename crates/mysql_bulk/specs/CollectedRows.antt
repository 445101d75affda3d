-- A caller's own loop over a builder: rows are added in order, and a request is built when one doesn't fit.
use Rattle.std.specs.Prelude.{◌≡◌, ◌⊎◌, true, false, List, [], ◌∷◌, ◌++◌, Ok}
use Rattle.mysql_cuts.specs.Cut.{rows_in, NoneEmpty, FullFrom, IsFullFromFront}
use Rattle.mysql_values.specs.Value.{Content}
use Rattle.mysql_bulk.specs.declared.error.BulkRowError.{BulkRowError}
use Rattle.mysql_bulk.specs.declared.error.BulkRowError.TheVariants.{MixedArity, MixedTypes, TooLarge, Memory}
use Rattle.mysql_bulk.specs.Builder.{BuilderState, AddsCopy, BuildsRequest}
use Rattle.mysql_bulk.specs.Request.{BulkRequest}
use Rattle.mysql_bulk.specs.WholeRun.{AreRequests, IsNew, left_by}
use Rattle.mysql_bulk.specs.WholeRunRefusal.{taken_front, measure, RefusesArity, RefusesSize, RefusesTypes}

-- Each row waits: if it didn't fit with the waiting rows, their request was built first. These are the requests that were built.
abbrev pub Collects : BuilderState → List (List Content) → List BulkRequest → BuilderState → Type 0
Collects s [] requests t = (requests ≡ []) × (t ≡ s)
Collects s (row ∷ rows) requests t =
    ((u : BuilderState) × AddsCopy s row (Ok true) u × Collects u rows requests t)
    ⊎ ((n : BuilderState) × (v : BuilderState) × (u : BuilderState) × (request : BulkRequest) × (later : List BulkRequest) × AddsCopy s row (Ok false) n × BuildsRequest n request v
    × AddsCopy v row (Ok true) u × (requests ≡ request ∷ later) × Collects u rows later t)

-- the right row is refused, and for the right reason: the same one in each list that begins with these rows, except for memory
abbrev pub RefusesIn : BuilderState → List (List Content) → List Content → BulkRowError → Type 0
RefusesIn s rows row MixedArity = RefusesArity s rows row
RefusesIn s rows row MixedTypes = RefusesTypes s rows row
RefusesIn s rows row TooLarge = RefusesSize s rows row
RefusesIn s rows row Memory = Unit {0}

-- a refused row ended the loop over these rows; `later` are the rows after it
pub record EndsRefused (s : BuilderState) (rows : List (List Content)) (requests : List BulkRequest) (row : List Content) (later : List (List Content)) (e : BulkRowError) (t : BuilderState) : Type 0 where
  -- the rows that were sent, one part for each request, none of them empty
  pub cut : List (List (List Content))
  pub none_empty : NoneEmpty cut
  -- no row is lost: each was sent or waits
  pub all_rows : rows_in cut ++ t.waiting ≡ s.waiting ++ rows
  pub requests_are : AreRequests s cut requests
  -- each part fits, and would not fit with the next row
  pub full_parts : FullFrom (measure s (s.waiting ++ (rows ++ row ∷ later))) s.types_due cut (t.waiting ++ row ∷ later)
  -- the settings are unchanged
  pub left : t ≡ left_by s cut t.waiting
  -- on a new builder, no fitting cut of a prefix of its rows is ahead of these requests, and the right row is refused
  pub full_from_front : IsNew s → IsFullFromFront (measure s (s.waiting ++ (rows ++ row ∷ later))) (taken_front s (s.waiting ++ (rows ++ row ∷ later))) cut
  pub refused : IsNew s → RefusesIn s (s.waiting ++ (rows ++ row ∷ later)) row e
