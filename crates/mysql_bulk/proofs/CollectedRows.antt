-- A caller's own loop over a builder is a run over the rows.
use Rattle.std.proofs.Common.{ℕ, false, true, List, [], ◌∷◌, ◌++◌, None, Some, Ok, Err, sym, ◌∙◌, ap, append_assoc, inl, inr}
use Rattle.std.proofs.lemmas.List.{append-nil, append_cancel_right}
use Rattle.std.specs.Global.{Vec}
use Rattle.mysql_values.specs.declared.value.Value.{Value}
use Rattle.mysql_values.specs.Value.{Content}
use Rattle.mysql_bulk.specs.declared.error.BulkExecuteRequestError.{BulkExecuteRequestError}
use Rattle.mysql_bulk.specs.declared.error.BulkExecuteRequestBuilderError.TheVariants as refused
use Rattle.mysql_bulk.specs.declared.error.BulkRowError.{BulkRowError}
use Rattle.mysql_bulk.specs.Builder.{BuilderState, Adds, AddsCopy, BuildsRequest, IsConsistent}
use Rattle.mysql_bulk.specs.CollectedRows.{Collects, EndsRefused}
use Rattle.mysql_bulk.specs.Request.{BulkRequest}
use Rattle.mysql_bulk.specs.Row.{contents_of_row}
use Rattle.mysql_bulk.specs.WholeRun.{RunGives}
use Rattle.mysql_bulk.proofs.WholeRun.{Running, running_none, running_more, running_sends, parts_left, full, gives_all, gives_refused, copy_refused}

-- a run up to this place
abbrev RunsTo : BuilderState → List (List Content) → List BulkRequest → BuilderState → List (List Content) → Type 0
RunsTo s all requests b rest = (cut : List (List (List Content))) × Running s all requests cut b rest

-- one more row is waiting
one_more : {s : BuilderState} {all : List (List Content)} {requests : List BulkRequest} {b : BuilderState} (row : List Content) (rest : List (List Content)) (u : BuilderState)
    → RunsTo s all requests b (row ∷ rest) → AddsCopy b row (Ok true) u → RunsTo s all requests u rest
one_more row rest u r a = rw a.2 (r.0, running_more row rest r.1 a.0 a.1)

-- the request of the waiting rows is built, since the next row does not fit
one_sent : {s : BuilderState} {all : List (List Content)} {requests : List BulkRequest} {b : BuilderState} (row : List Content) (rest : List (List Content)) (n v : BuilderState) (request : BulkRequest)
    → RunsTo s all requests b (row ∷ rest) → AddsCopy b row (Ok false) n → BuildsRequest n request v → RunsTo s all (requests ++ request ∷ []) v (row ∷ rest)
one_sent {s} {all} {requests} {b} row rest n v request r a built =
    (r.0 ++ b.waiting ∷ [], running_sends v (row ∷ rest) request r.1 (rw a.3 at built) (a.2, a.0, a.1))

collected : {s : BuilderState} {all : List (List Content)} (rows rest : List (List Content)) (b t : BuilderState) (before requests : List BulkRequest) → RunsTo s all before b (rows ++ rest) → Collects b rows requests t
    → RunsTo s all (before ++ requests) t rest
collected [] rest b t before requests r c = rw (c.0, c.1, append-nil) r
collected (row ∷ rows) rest b t before requests r c = elim c [
  | inl at ↦ collected rows rest at.0 t before requests (one_more row (rows ++ rest) at.0 r at.1) at.2
  | inr at ↦
      let sent = one_sent row (rows ++ rest) at.0 at.1 at.3 r at.5 at.6 in
      rw (at.8, ← append_assoc before (at.3 ∷ []) at.4) (collected rows rest at.2 t (before ++ at.3 ∷ []) at.4 (one_more row (rows ++ rest) at.2 sent at.7) at.9)
]

-- from the start
runs_to : (s t : BuilderState) (rows rest : List (List Content)) (requests : List BulkRequest) → IsConsistent s → Collects s rows requests t → RunsTo s (s.waiting ++ (rows ++ rest)) requests t rest
runs_to s t rows rest requests c collects = collected rows rest s t [] requests ([], running_none s (rows ++ rest) c) collects

-- all rows were sent, the last of them by a request that is built after the loop
pub all_collected : (s t u : BuilderState) (rows : List (List Content)) (requests : List BulkRequest) (last : BulkRequest) → IsConsistent s → Collects s rows requests t → BuildsRequest t last u
    → (ends : List ℕ) × RunGives s (s.waiting ++ rows) (requests ++ last ∷ []) ends None u
all_collected s t u rows requests last c collects built =
    let sent = running_sends u [] last (runs_to s t rows [] requests c collects).1 built built.some in
    (_, rw append-nil at (gives_all sent (ap (λ (b : BuilderState). b.waiting) built.left)))

-- a row was refused
pub row_ends : (s t : BuilderState) (rows later : List (List Content)) (requests : List BulkRequest) (row : Vec Value) (e : BulkExecuteRequestError) → IsConsistent s → Collects s rows requests t → Adds t row (Err e) t
    → (ends : List ℕ) × RunGives s (s.waiting ++ (rows ++ contents_of_row row ∷ later)) requests ends (Some (refused.Request e)) t
row_ends s t rows later requests row e c collects a = (_, gives_refused row later (runs_to s t rows (contents_of_row row ∷ later) requests c collects).1 e a)

-- a copy of a row was refused
pub copy_ends : (s t : BuilderState) (rows later : List (List Content)) (requests : List BulkRequest) (row : List Content) (e : BulkRowError) → IsConsistent s → Collects s rows requests t → AddsCopy t row (Err e) t
    → EndsRefused s rows requests row later e t
copy_ends s t rows later requests row e c collects a =
    let r = (runs_to s t rows (row ∷ later) requests c collects).1 in
    record {
      cut = _;
      none_empty = r.packed.none_empty;
      all_rows = r.packed.same ∙ append_cancel_right r.before (s.waiting ++ rows) (row ∷ later) (r.whole ∙ sym (append_assoc s.waiting rows (row ∷ later)));
      requests_are = r.requests_are;
      full_parts = r.packed.full_so_far;
      left = parts_left r;
      full_from_front = full (row ∷ later) r;
      refused = copy_refused row later r e a;
    }
