-- A run over the rows of a vector.
use Rattle.std.proofs.Common.{◌≡◌, ◌≢◌, ℕ, ◌+◌, List, [], ◌∷◌, ◌++◌, length, Option, Some, None, Ok, Err, refl, sym, ◌∙◌, ap, subst, length-append, option_to_list}
use Rattle.std.proofs.lemmas.List.{nil_from_length, map-append}
use Rattle.std.specs.Prelude.{IfSome}
use Rattle.std.specs.Global.{Vec, Global}
use Rattle.std.specs.Iterator.{Yields, YieldsThen}
use Rattle.std.specs.Vec.Iter.{into_iter_items, into_iter_len, into_iter_steps}
use Rattle.std.specs.declared.vec.IntoIter.{IntoIter}
use Rattle.mysql_cuts.specs.Cut.{rows_in, ends_after}
use Rattle.mysql_cuts.proofs.Packed.{joined_push}
use Rattle.mysql_values.specs.declared.value.Value.{Value}
use Rattle.mysql_values.specs.Value.{Content}
use Rattle.mysql_bulk.specs.declared.error.BulkExecuteRequestBuilderError.TheVariants.{Request}
use Rattle.mysql_bulk.specs.declared.error.BulkExecuteRequestError.TheVariants.{Memory}
use Rattle.mysql_bulk.specs.declared.error.BulkExecuteRequestError.{BulkExecuteRequestError}
use Rattle.mysql_bulk.specs.Builder.{BuilderState, Adds, IsConsistent, packing}
use Rattle.mysql_bulk.specs.Request.{BulkRequest}
use Rattle.mysql_bulk.specs.Row.{contents_of_row, contents_of_rows}
use Rattle.mysql_bulk.specs.Run.{NextRowAfter, NextRow, AcceptsUntilFull}
use Rattle.mysql_bulk.specs.WholeRun.{RequestIsDue, PutsRequest, RunGives}
use Rattle.mysql_bulk.proofs.WholeRun.{Running, running_none, running_accepts, running_sends, ends_after-push, gives_all, gives_memory, gives_refused}

abbrev pub Input : Type 0
Input = IntoIter (Vec Value) Global

-- the carried row, and the rows of the input
abbrev pub held : Option (Vec Value) → Input → List (Vec Value)
held carried input = option_to_list carried ++ into_iter_items input

comes_one : (c : Option (Vec Value)) (s : Input) (x : Vec Value) (d : Option (Vec Value)) (t : Input) → NextRowAfter into_iter_steps c s (Some x) (d, t) → held c s ≡ x ∷ held d t
comes_one None s x d t a =
    rw a.0 a.1.0
comes_one (Some row) s x d t a =
    rw a.1 (let e = a.0 in let f = ap into_iter_items a.2 in cc)

no_rows : (t : Input) → into_iter_len t ≡ 0 → into_iter_items t ≡ []
no_rows t h = nil_from_length (into_iter_items t) (sym t.rest.ok.0 ∙ h)

comes_end : (c : Option (Vec Value)) (s : Input) (last : Option (Vec Value)) (t : Input) → NextRowAfter into_iter_steps c s last (None, t) → (held c s ≡ held last t) × (last ≡ None → held last t ≡ [])
comes_end c s (Some x) t a = (comes_one c s x None t a, λ e. cc)
comes_end None s None t a = (no_rows s a.1.0 ∙ sym (no_rows t a.1.1), λ e. no_rows t a.1.1)
comes_end (Some row) s None t a = absurd a

comes_all : (c : Option (Vec Value)) (s : Input) (taken : List (Vec Value)) (d : Option (Vec Value)) (t : Input) → Yields (NextRow into_iter_steps) (c, s) taken (d, t) → held c s ≡ taken ++ held d t
comes_all c s [] d t y = ap (λ (p : Option (Vec Value) × Input). held p.0 p.1) y
comes_all c s (x ∷ taken) d t y = comes_one c s x y.0.0 y.0.1 y.1 ∙ ap (λ (l : List (Vec Value)). x ∷ l) (comes_all y.0.0 y.0.1 taken d t y.2)

-- the rows taken so far, and those not yet taken
pub came : (c : Option (Vec Value)) (s : Input) (taken : List (Vec Value)) (last : Option (Vec Value)) (t : Input) → YieldsThen (NextRow into_iter_steps) (c, s) taken last (None, t)
    → (held c s ≡ taken ++ held last t) × (last ≡ None → held last t ≡ [])
came c s taken last t y =
    let end = comes_end y.0.0 y.0.1 last t y.2 in
    (comes_all c s taken y.0.0 y.0.1 y.1 ∙ ap (λ (l : List (Vec Value)). taken ++ l) end.0, end.1)

-- the state of a run over all these rows: the carried row and those of the input are still to come
pub record RunSoFar (s : BuilderState) (all : List (List Content)) (requests : List BulkRequest) (ends : List ℕ) (sent : ℕ) (b : BuilderState) (carried : Option (Vec Value)) (input : Input) : Type 0 where
  pub cut : List (List (List Content))
  pub running : Running s all requests cut b (contents_of_rows (held carried input))
  pub ends_are : ends ≡ ends_after 0 cut
  pub sent_is : sent ≡ length (rows_in cut)

-- rows were accepted up to the last one, which does not fit with those that wait, or up to the end
pub record Filled (s : BuilderState) (all : List (List Content)) (requests : List BulkRequest) (ends : List ℕ) (sent : ℕ) (b : BuilderState) (last : Option (Vec Value)) (left : Input) : Type 0 where
  pub so_far : RunSoFar s all requests ends sent b last left
  pub at_end : last ≡ None → held last left ≡ []
  pub full : IfSome last (λ row. Adds b row (Ok (Some row)) b)

pub run_begins : (s : BuilderState) (rows : List (Vec Value)) (input : Input) (requests : List BulkRequest) (ends : List ℕ) → IsConsistent s → into_iter_items input ≡ rows → requests ≡ [] → ends ≡ []
    → RunSoFar s (s.waiting ++ contents_of_rows rows) requests ends 0 s None input
run_begins s rows input requests ends c e q n =
    rw (q, n, ← e) (record { cut = []; running = running_none s (contents_of_rows (into_iter_items input)) c; ends_are = refl; sent_is = refl })

module _ {s : BuilderState} {all : List (List Content)} {requests : List BulkRequest} {ends : List ℕ} {sent : ℕ} {b : BuilderState} {carried : Option (Vec Value)} {input : Input} (w : RunSoFar s all requests ends sent b carried input) where
  -- some of the rows to come
  to_come : (taken : List (Vec Value)) (last : Option (Vec Value)) (left : Input) → held carried input ≡ taken ++ held last left
      → Running s all requests w.cut b (contents_of_rows taken ++ contents_of_rows (held last left))
  to_come taken last left e = subst (Running s all requests w.cut b) (ap contents_of_rows e ∙ map-append contents_of_row taken (held last left)) w.running

  -- rows were accepted
  pub run_fills : (m : BuilderState) (last : Option (Vec Value)) (left : Input) → AcceptsUntilFull into_iter_steps b carried input (Ok last) m left → Filled s all requests ends sent m last left
  run_fills m last left f =
      let more = came carried input f.0 last left f.1 in
      record {
        so_far = record {
          cut = w.cut;
          running = running_accepts m (contents_of_rows f.0) (contents_of_rows (held last left)) (to_come f.0 last left more.0) f.2;
          ends_are = w.ends_are;
          sent_is = w.sent_is;
        };
        at_end = more.1;
        full = f.3;
      }

  -- the next row is refused
  pub ends_refused : (t : BuilderState) (left : Input) (e : BulkExecuteRequestError) → AcceptsUntilFull into_iter_steps b carried input (Err e) t left → RunGives s all requests ends (Some (Request e)) t
  ends_refused t left e f =
      let rest = contents_of_rows (into_iter_items left) in
      let there = running_accepts t (contents_of_rows f.0) (contents_of_row f.1 ∷ rest) (to_come f.0 (Some f.1) left (came carried input f.0 (Some f.1) left f.2).0) f.3 in
      rw w.ends_are (gives_refused f.1 rest there e f.4)

  -- all rows were sent
  pub ends_done : held carried input ≡ [] → b.waiting ≡ [] → RunGives s all requests ends None b
  ends_done e m = rw w.ends_are (gives_all (rw e at w.running) m)

module _ {s : BuilderState} {all : List (List Content)} {requests : List BulkRequest} {ends : List ℕ} {sent : ℕ} {b : BuilderState} where
  -- if nothing is waiting after rows were taken, no row is left
  pub ends_empty : {last : Option (Vec Value)} {left : Input} → Filled s all requests ends sent b last left → b.waiting ≡ [] → RunGives s all requests ends None b
  ends_empty {last = None} f none = ends_done f.so_far (f.at_end refl) none
  ends_empty {last = Some row} f none = absurd (f.full.2 none)

  request_is_due : {last : Option (Vec Value)} {left : Input} → Filled s all requests ends sent b last left → b.waiting ≢ [] → RequestIsDue b (contents_of_rows (held last left))
  request_is_due {last = None} f some = rw (f.at_end refl) some
  request_is_due {last = Some row} f some = (some, f.full.0, f.full.1)

  -- there is no memory for the request that is due, and nothing changes
  pub ends_memory : {last : Option (Vec Value)} {left : Input} → Filled s all requests ends sent b last left → (t : BuilderState) (more : List BulkRequest) (further : List ℕ) → b.waiting ≢ [] → t ≡ b → more ≡ requests → further ≡ ends → RunGives s all more further (Some (Request Memory)) t
  ends_memory {last} {left} f t more further some x y z = rw (x, y, z, f.so_far.ends_are) (gives_memory (contents_of_rows (held last left)) f.so_far.running (request_is_due f some))

  -- the waiting rows were sent
  pub run_sends : {last : Option (Vec Value)} {left : Input} → Filled s all requests ends sent b last left → (t : BuilderState) (more : List BulkRequest) (further : List ℕ) (end : ℕ) → PutsRequest b requests more t → further ≡ ends ++ end ∷ [] → end ≡ sent + length b.waiting
      → RunSoFar s all more further end t last left
  run_sends {last} {left} f t more further end put named count =
      let w = f.so_far in
      let total : end ≡ length (rows_in w.cut ++ b.waiting) = count ∙ ap (λ n. n + length b.waiting) w.sent_is ∙ sym (length-append (rows_in w.cut) b.waiting) in
      record {
        cut = w.cut ++ b.waiting ∷ [];
        running = rw put.1 (running_sends t (contents_of_rows (held last left)) put.0 w.running put.2 (request_is_due f put.2.some));
        ends_are = named ∙ ap (λ (l : List ℕ). l ++ end ∷ []) w.ends_are ∙ ap (λ n. ends_after 0 w.cut ++ n ∷ []) total ∙ sym (ends_after-push w.cut b.waiting);
        sent_is = total ∙ ap length (sym (joined_push (packing s 0) w.cut b.waiting));
      }
