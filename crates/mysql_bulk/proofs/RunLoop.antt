-- A caller's own loop of `next`, over any input.
use Rattle.std.proofs.Common.{◌≡◌, Bool, true, false, List, [], ◌∷◌, ◌++◌, Option, Some, None, Result, Ok, Err, refl, sym, ◌∙◌, ap, subst, inl, inr, ◌⊎◌, append_assoc}
use Rattle.std.proofs.lemmas.List.{append-nil}
use Rattle.std.specs.Prelude.{is_none}
use Rattle.std.specs.Global.{Vec}
use Rattle.std.specs.Iterator.{Yields, YieldsThen}
use Rattle.mysql_values.specs.declared.params.Params.{Params}
use Rattle.mysql_values.specs.declared.params.ParamsError.{ParamsError}
use Rattle.mysql_values.specs.declared.value.Value.{Value}
use Rattle.mysql_values.specs.Value.{Content}
use Rattle.mysql_bulk.specs.declared.error.BulkExecuteRequestBuilderError.{BulkExecuteRequestBuilderError}
use Rattle.mysql_bulk.specs.declared.error.BulkExecuteRequestBuilderError.TheVariants as refused
use Rattle.mysql_bulk.specs.declared.error.BulkExecuteRequestError.{BulkExecuteRequestError}
use Rattle.mysql_bulk.specs.Builder.{BuilderState, TakesRow, RowFits}
use Rattle.mysql_bulk.specs.RunLoop.{GivesRequests, WholeLoop, SentAllRows, RefusedRow, RefusedParams}
use Rattle.mysql_bulk.specs.ParamsRun.{Names, GivesRowOfParams, NextRequestOfParams}
use Rattle.mysql_bulk.specs.Request.{BulkRequest}
use Rattle.mysql_bulk.specs.Row.{contents_of_row, contents_of_rows}
use Rattle.mysql_bulk.specs.Run.{NextRow, RunState, SendsRequest, NextRequest}
use Rattle.mysql_bulk.proofs.RowsOfInput.{Upto, StandsAt, starts, accepts, carries, sends, came_next, all_came, at_end}
use Rattle.mysql_bulk.proofs.WholeRun.{Running, running_sends, gives_all, gives_refused, gives_params}

two_ways : {A : Type 0} (b : Bool) → b ≡ true → b ≡ false → A
two_ways b t f = let e : true ≡ false = sym t ∙ f in cc

module _ {S : Type 0} (steps : S → Option (Vec Value) → S → Type 0) where
  -- the calls so far returned these requests, and the run goes on
  record Going (s : RunState S) (requests : List BulkRequest) (t : RunState S) : Type 0 where
    going : t.ended ≡ false
    cut : List (List (List Content))
    upto : Upto steps s.builder s.rows requests cut t.builder t.carried t.rows

  -- they returned the requests of all rows
  abbrev Done : RunState S → List BulkRequest → RunState S → Type 0
  Done s requests t = (t.ended ≡ true) × SentAllRows steps s requests t

  -- the input ended
  all_rows : (s u : RunState S) (requests : List BulkRequest) (cut : List (List (List Content))) (rows : List (Vec Value)) → Running s.builder (s.builder.waiting ++ contents_of_rows rows) requests cut u.builder [] → u.builder.waiting ≡ []
      → YieldsThen (NextRow steps) (None, s.rows) rows None (None, u.rows) → SentAllRows steps s requests u
  all_rows s u requests cut rows r none came = record { rows = rows; came = came; ends = _; gives = gives_all r none }

  one_request : {s t : RunState S} {requests : List BulkRequest} (u : RunState S) (request : BulkRequest) → Going s requests t → SendsRequest steps t request u → Going s (requests ++ request ∷ []) u ⊎ Done s (requests ++ request ∷ []) u
  one_request {s} {t} {requests} u request g f = by_carried u.carried refl
    where
      upto : Upto steps s.builder s.rows requests g.cut f.full f.accepted.came.0.0 f.accepted.came.0.1
      upto = accepts steps g.upto f.full f.accepted.taken f.accepted.came.0 f.accepted.came.1 f.accepted.accepts

      by_carried : (o : Option (Vec Value)) → u.carried ≡ o → Going s (requests ++ request ∷ []) u ⊎ Done s (requests ++ request ∷ []) u
      by_carried None c =
          let came : NextRow steps f.accepted.came.0 None (None, u.rows) = rw c at f.accepted.came.2 in
          let all = running_sends u.builder [] request (at_end steps upto u.rows came) f.builds f.builds.some in
          inr (f.ended ∙ ap (is_none {T = Vec Value}) c, all_rows s u (requests ++ request ∷ []) _ upto.rows all (ap (λ (b : BuilderState). b.waiting) f.builds.left) (came_next steps upto None u.rows came))
      by_carried (Some row) c =
          let came : NextRow steps f.accepted.came.0 (Some row) (None, u.rows) = rw c at f.accepted.came.2 in
          let full : TakesRow f.full (contents_of_row row) × (RowFits f.full (contents_of_row row) → ⊥) = rw c at f.accepted.full in
          inl (record { going = f.ended ∙ ap (is_none {T = Vec Value}) c; cut = g.cut ++ f.full.waiting ∷ []; upto = rw c (sends steps (carries steps upto row u.rows came) u.builder request f.builds full.0 full.1) })

  module _ (next : RunState S → Option (Result BulkRequest BulkExecuteRequestBuilderError) → RunState S → Type 0)
      (sends_one : (s t : RunState S) (request : BulkRequest) → next s (Some (Ok request)) t → SendsRequest steps s request t) where
    -- the end is the last
    over : {s : RunState S} (v last : RunState S) (before requests : List BulkRequest) → Done s before v → GivesRequests next v requests last → Done s (before ++ requests) last
    over {s} v last before [] d g = rw (append-nil before) (subst (Done s before) g d)
    over v last before (q ∷ requests) d g = two_ways v.ended d.0 (sends_one v g.0 q g.1).accepted.going

    follow : {s : RunState S} (v last : RunState S) (before requests : List BulkRequest) → Going s before v → GivesRequests next v requests last → Going s (before ++ requests) last ⊎ Done s (before ++ requests) last
    follow {s} v last before [] x g = inl (rw (append-nil before) (subst (Going s before) g x))
    follow v last before (q ∷ requests) x g = elim (one_request g.0 q x (sends_one v g.0 q g.1)) [
      | inl going ↦ rw (← append_assoc before (q ∷ []) requests) (follow g.0 last (before ++ q ∷ []) requests going g.2)
      | inr done ↦ inr (rw (← append_assoc before (q ∷ []) requests) (over g.0 last (before ++ q ∷ []) requests done g.2))
    ]

    loop : {s u : RunState S} {requests : List BulkRequest} {refusal : Option BulkExecuteRequestBuilderError} (w : WholeLoop next s requests refusal u) → Going s requests w.last ⊎ Done s requests w.last
    loop {s} {u} {requests} w = follow s w.last [] requests (record { going = w.going; cut = []; upto = starts steps s.builder s.rows s.carried w.consistent w.carried }) w.gave

    -- the loop still went on when a row or parameters were refused
    still : {s u : RunState S} {requests : List BulkRequest} {refusal : Option BulkExecuteRequestBuilderError} (w : WholeLoop next s requests refusal u) → w.last.ended ≡ false → Going s requests w.last
    still w going = elim (loop w) [
      | inl g ↦ g
      | inr done ↦ two_ways w.last.ended done.0 going
    ]

    pub sent_all : (s u : RunState S) (requests : List BulkRequest) (w : WholeLoop next s requests None u) → NextRequest steps w.last None u → SentAllRows steps s requests u
    sent_all s u requests w (inl n) = elim (loop w) [
      | inl g ↦ two_ways w.last.ended n.0 g.going
      | inr done ↦ subst (SentAllRows steps s requests) (sym n.1) done.1
    ]
    sent_all s u requests w (inr n) =
        let g = still w n.accepted.going in
        let upto = accepts steps g.upto u.builder n.accepted.taken n.accepted.came.0 n.accepted.came.1 n.accepted.accepts in
        let came : NextRow steps n.accepted.came.0 None (None, u.rows) = rw n.carried at n.accepted.came.2 in
        all_rows s u requests g.cut upto.rows (at_end steps upto u.rows came) n.waiting (came_next steps upto None u.rows came)

    -- a row was refused
    pub refused_row : (s u : RunState S) (requests : List BulkRequest) (e : BulkExecuteRequestError) (w : WholeLoop next s requests (Some (refused.Request e)) u)
        → NextRequest steps w.last (Some (Err (refused.Request e))) u → RefusedRow steps s requests e u
    refused_row s u requests e w r =
        let upto = carries steps (accepts steps (still w r.going).upto u.builder r.taken r.came.0 r.came.1 r.accepts) r.row u.rows r.came.2 in
        record {
          rows = upto.rows;
          row = r.row;
          came = came_next steps upto (Some r.row) u.rows (refl, refl, refl);
          gives = λ later. (_, gives_refused r.row later (upto.run (contents_of_row r.row ∷ later) (later, refl)) e r.refused);
        }

-- ---- over parameters

module _ {S : Type 0} (steps : S → Option Params → S → Type 0) (names : Names) where
  sends_params : (s t : RunState S) (request : BulkRequest) → NextRequestOfParams steps names s (Some (Ok request)) t → SendsRequest (GivesRowOfParams steps names) s request t
  sends_params s t request n = n

  pub sent_all_params : (s u : RunState S) (requests : List BulkRequest) → WholeLoop (NextRequestOfParams steps names) s requests None u → SentAllRows (GivesRowOfParams steps names) s requests u
  sent_all_params s u requests w = sent_all (GivesRowOfParams steps names) (NextRequestOfParams steps names) sends_params s u requests w w.ends

  pub refused_row_of_params : (s u : RunState S) (requests : List BulkRequest) (e : BulkExecuteRequestError) → WholeLoop (NextRequestOfParams steps names) s requests (Some (refused.Request e)) u
      → RefusedRow (GivesRowOfParams steps names) s requests e u
  refused_row_of_params s u requests e w = refused_row (GivesRowOfParams steps names) (NextRequestOfParams steps names) sends_params s u requests e w w.ends

  -- no row is carried before parameters without values
  at_params : (place : Option (Vec Value) × S) (before : S) → StandsAt (GivesRowOfParams steps names) place None before → place ≡ (None, before)
  at_params place before (inl e) = e
  at_params place before (inr e) = absurd e

  pub refused_params : (s u : RunState S) (requests : List BulkRequest) (e : ParamsError) → WholeLoop (NextRequestOfParams steps names) s requests (Some (refused.Params e)) u → RefusedParams steps names s requests e u
  refused_params s u requests e w =
      let rows = GivesRowOfParams steps names in
      let r = w.ends.no_row in
      let upto = accepts rows (still rows (NextRequestOfParams steps names) sends_params w w.ends.going).upto u.builder r.taken (None, r.before) r.came r.accepts in
      record {
        rows = upto.rows;
        before = r.before;
        came = subst (Yields (NextRow rows) (None, s.rows) upto.rows) (at_params upto.place r.before upto.stands) upto.came;
        params = r.params;
        given = r.given;
        refused = r.refused;
        ends = _;
        gives = gives_params e (all_came rows upto);
      }
