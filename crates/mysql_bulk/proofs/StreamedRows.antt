-- A caller's own loop over a request writer is the loop over the builder with the same waiting rows.
use Rattle.std.proofs.Common.{◌≡◌, ◌≢◌, ℕ, true, List, [], ◌∷◌, ◌++◌, map, Result, Ok, Err, refl, sym, ◌∙◌, ap, subst, inl, inr, ◌⊎◌, arith, length, length-append}
use Rattle.std.specs.Prelude.{All}
use Rattle.std.proofs.lemmas.List.{append-nil, map-append}
use Rattle.std.proofs.lemmas.List.Elements.{All-nil}
use Rattle.mysql_cuts.specs.Cut.{IsFewest, rows_in}
use Rattle.mysql_values.specs.Value.{Content}
use Rattle.mysql_bulk.specs.declared.error.BulkExecuteRequestError.{BulkExecuteRequestError}
use Rattle.mysql_bulk.specs.declared.error.BulkRowError.{BulkRowError}
use Rattle.mysql_bulk.specs.declared.error.BulkRowError.TheVariants as copy
use Rattle.mysql_bulk.specs.Builder.{BuilderState, packing, AddsCopy, Builds, BuildsRequest, IsConsistent, IsRequest, after_request}
use Rattle.mysql_bulk.specs.CollectedRows.{Collects}
use Rattle.mysql_bulk.specs.ColumnTypes.{TakesTypes}
use Rattle.mysql_bulk.specs.Request.{BulkRequest, request_bytes}
use Rattle.mysql_bulk.specs.RequestWriter.{WriterState, as_builder, request_of, Holds, AddsAsBuilder}
use Rattle.mysql_bulk.specs.StreamedRows.{Streams, AreBytes, AreFewest, StreamEndsRefused}
use Rattle.mysql_bulk.specs.WholeRun.{AreRequests, IsNew}
use Rattle.mysql_bulk.proofs.CollectedRows.{all_collected, copy_ends}
use Rattle.mysql_bulk.proofs.RequestWriter.{holds_request}
use Rattle.mysql_bulk.proofs.ColumnTypes.{first_is_long}
use Rattle.mysql_bulk.proofs.RunSteps.{none_built}
use Rattle.mysql_bulk.proofs.WholeRun.{new_consistent}

some_last : {X : Type 0} (xs : List X) (x : X) → xs ++ x ∷ [] ≢ []
some_last xs x e = omega (arith, ap length e, length-append xs (x ∷ []))

-- the builder is as after a request
is_after : (s t : BuilderState) (result : Result BulkRequest BulkExecuteRequestError) → Builds s result t → s.waiting ≢ [] → t ≡ after_request s
is_after s t (Ok request) b some = b.left
is_after s t (Err e) b some = absurd (some (none_built s t e b).0)

-- ---- the loops

-- the steps of a writer that had written these rows
record IsCollected (w : WriterState) (part rows : List (List Content)) (requests : List (List ℕ)) (u : WriterState) : Type 0 where
  sent : List BulkRequest
  bytes : requests ≡ map request_bytes sent
  waiting : List (List Content)
  holds : Holds u waiting
  collects : Collects (as_builder w part) rows sent (as_builder u waiting)

is_collected : (rows : List (List Content)) (w u : WriterState) (part : List (List Content)) (requests : List (List ℕ)) → Holds w part → Streams w rows requests u → IsCollected w part rows requests u
is_collected [] w u part requests h s = record {
  sent = [];
  bytes = s.0;
  waiting = part;
  holds = rw s.1 h;
  collects = (refl, ap (λ (x : WriterState). as_builder x part) s.1);
}
is_collected (row ∷ rows) w u part requests h s = elim s [
  | inl at ↦
      let a = at.1 part h in
      let later = is_collected rows at.0 u a.0 requests a.1 at.2 in
      record { sent = later.sent; bytes = later.bytes; waiting = later.waiting; holds = later.holds; collects = inl (as_builder at.0 a.0, a.2, later.collects) }
  | inr at ↦
      let a = at.4 part h in
      let full = as_builder at.0 a.0 in
      let some : a.0 ≢ [] = λ e. a.2.2 (sym (ap (λ (b : BuilderState). b.waiting) a.2.3) ∙ e) in
      let built = holds_request at.0 a.0 a.1 some in
      let f = at.5 a.0 a.1 in
      let after : as_builder at.1 [] ≡ after_request full = is_after full (as_builder at.1 []) f.0 f.2 some in
      let b = at.6 [] f.1 in
      let later = is_collected rows at.2 u b.0 at.3 b.1 at.8 in
      record {
        sent = built.0 ∷ later.sent;
        bytes = at.7 ∙ ap (λ (l : List ℕ). l ∷ at.3) built.2 ∙ ap (λ (l : List (List ℕ)). request_bytes built.0 ∷ l) later.bytes;
        waiting = later.waiting;
        holds = later.holds;
        collects = inr (full, as_builder at.1 [], as_builder at.2 b.0, built.0, later.sent, a.2, subst (BuildsRequest full built.0) (sym after) built.1, b.2, refl, later.collects);
      }
]

-- rows are waiting at the end
waits : (rows : List (List Content)) (s t : BuilderState) (requests : List BulkRequest) → (s.waiting ≢ []) ⊎ (rows ≢ []) → Collects s rows requests t → t.waiting ≢ []
waits [] s t requests (inl some) c = λ e. some (sym (ap (λ (b : BuilderState). b.waiting) c.1) ∙ e)
waits [] s t requests (inr none) c = absurd (none refl)
waits (row ∷ rows) s t requests some c = elim c [
  | inl at ↦ waits rows at.0 t requests (inl (λ e. some_last s.waiting row (sym (ap (λ (b : BuilderState). b.waiting) at.1.2) ∙ e))) at.2
  | inr at ↦ waits rows at.2 t at.4 (inl (λ e. some_last at.1.waiting row (sym (ap (λ (b : BuilderState). b.waiting) at.7.2) ∙ e))) at.9
]

-- ---- the bytes

is_request : (s : BuilderState) (rows : List (List Content)) (q : BulkRequest) → IsRequest s rows q → q ≡ request_of s rows
is_request s rows q i = λ k. record { stmt_id = i.id k; bulk_flags = i.flags k; types = i.types k; values = i.values k }

are_bytes : (s : BuilderState) (cut : List (List (List Content))) (requests : List BulkRequest) → AreRequests s cut requests → AreBytes s cut (map request_bytes requests)
are_bytes s [] [] a = tt
are_bytes s (part ∷ cut) (q ∷ requests) a = (ap request_bytes (is_request s part q a.0), are_bytes (after_request s) cut requests a.1)
are_bytes s cut requests a = absurd a

-- ---- the ends of a loop that began without a row

pub streamed_fewest : (w u : WriterState) (rows : List (List Content)) (requests : List (List ℕ)) → Holds w [] → w.types_due ≡ true → Streams w rows requests u → rows ≢ [] → AreFewest w rows (requests ++ u.bytes ∷ [])
streamed_fewest w u rows requests h due s some =
    let start = as_builder w [] in
    let new : IsNew start = record { arity = refl; types_due = due; waiting = refl } in
    let c = is_collected rows w u [] requests h s in
    let last = holds_request u c.waiting c.holds (waits rows start (as_builder u c.waiting) c.sent (inr some) c.collects) in
    let run = (all_collected start (as_builder u c.waiting) (after_request (as_builder u c.waiting)) rows c.sent last.0 (new_consistent start new) c.collects last.1).1 in
    let all : rows_in run.cut ++ [] ≡ rows = sym (append-nil (rows_in run.cut ++ [])) ∙ ap (λ (l : List (List Content)). (rows_in run.cut ++ []) ++ l) (sym run.ended.1) ∙ run.all_rows in
    let taken : All (TakesTypes start.columns) rows = subst (All (TakesTypes start.columns)) all run.taken in
    let bytes : map request_bytes (c.sent ++ last.0 ∷ []) ≡ requests ++ u.bytes ∷ [] =
    map-append request_bytes c.sent (last.0 ∷ [])
    ∙ ap (λ (l : List (List ℕ)). l ++ request_bytes last.0 ∷ []) (sym c.bytes)
    ∙ ap (λ (l : List ℕ). requests ++ l ∷ []) (sym last.2) in
    record {
      cut = run.cut;
      fewest = subst (λ n. IsFewest (packing start n) rows run.cut) (sym (first_is_long w.types rows some taken)) (run.fewest new refl);
      bytes = subst (AreBytes start run.cut) bytes (are_bytes start run.cut (c.sent ++ last.0 ∷ []) run.requests_are);
    }

-- a refusal leaves the builder unchanged
stays : (s t : BuilderState) (row : List Content) (e : BulkRowError) → AddsCopy s row (Err e) t → t ≡ s
stays s t row copy.MixedArity a = a.1
stays s t row copy.MixedTypes a = a.2
stays s t row copy.TooLarge a = a.3
stays s t row copy.Memory a = a.2

none_consistent : (w : WriterState) → IsConsistent (as_builder w [])
none_consistent w = record { one_length = tt; arity = refl; taken = All-nil (TakesTypes (as_builder w []).columns); fits = λ some. absurd (some refl) }

pub stream_refused : (w u v : WriterState) (rows later : List (List Content)) (requests : List (List ℕ)) (row : List Content) (e : BulkRowError) → Holds w [] → Streams w rows requests u → AddsAsBuilder u row (Err e) v
    → StreamEndsRefused w rows requests row later e u
stream_refused w u v rows later requests row e h s a =
    let c = is_collected rows w u [] requests h s in
    let t = as_builder u c.waiting in
    let r = a c.waiting c.holds in
    let A : BuilderState → Type 0 = λ b. AddsCopy t row (Err e) b in
    record {
      sent = c.sent;
      bytes = c.bytes;
      waiting = c.waiting;
      holds = c.holds;
      ends = copy_ends (as_builder w []) t rows later c.sent row e (none_consistent w) c.collects (subst A (stays t (as_builder v r.0) row e r.2) r.2);
    }
