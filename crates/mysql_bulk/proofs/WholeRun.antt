-- A run over a list of rows: those sent, waiting and still to come.
use Rattle.std.proofs.Common.{◌≡◌, ◌≢◌, ℕ, ◌+◌, Bool, true, false, cond, List, [], ◌∷◌, ◌++◌, length, take, drop, Option, Some, None, Err, refl, sym, ◌∙◌, ap, subst, arith, length-append, append_assoc}
use Rattle.std.proofs.lemmas.List.{append-nil, take-append-le, take-append-drop, take_at}
use Rattle.std.proofs.lemmas.List.Sums.{take_while-cons}
use Rattle.std.proofs.lemmas.Bool.{eqb-true, eq-eqb, and_from, and_parts, false_from_ne_true}
use Rattle.std.proofs.lemmas.List.Elements.{All-nil, All-head, All-tail, All-push}
use Rattle.std.specs.Prelude.{take_while, nat_eq, slice_get, All, option_map, ◌&&◌}
use Rattle.std.specs.List.{prefix_len}
use Rattle.std.specs.Global.{Vec}
use Rattle.mysql_cuts.specs.Cut.{PartFits, rows_in, HasFittingCut, IsFewest, IsFullFromFront, NextDoesNotFit, types_after, ends_after}
use Rattle.mysql_cuts.proofs.Packed.{IsPacked, packed_more, packed_close, packed_front, packed_fewest, packed_full, packed_fits, packed_stuck, fits_front, joined_seam, open_packed, types_after_push, types_later}
use Rattle.mysql_values.specs.declared.params.ParamsError.{ParamsError}
use Rattle.mysql_values.specs.declared.value.Value.{Value}
use Rattle.mysql_values.specs.Value.{Content}
use Rattle.mysql_bulk.specs.declared.error.BulkExecuteRequestBuilderError.{BulkExecuteRequestBuilderError}
use Rattle.mysql_bulk.specs.declared.error.BulkExecuteRequestBuilderError.TheVariants.{Request, Params}
use Rattle.mysql_bulk.specs.declared.error.BulkExecuteRequestError.{BulkExecuteRequestError}
use Rattle.mysql_bulk.specs.declared.error.BulkExecuteRequestError.TheVariants.{MixedArity, MixedTypes, RowTooLarge, MemoryRow, Memory}
use Rattle.mysql_bulk.specs.declared.error.BulkRowError.{BulkRowError}
use Rattle.mysql_bulk.specs.declared.error.BulkRowError.TheVariants as copy
use Rattle.mysql_bulk.specs.CollectedRows.{RefusesIn}
use Rattle.mysql_bulk.specs.Builder.{BuilderState, packing, TakesArity, TakesRow, RowFits, after_row, Adds, AddsCopy, IsRequest, BuildsRequest, after_request, arity_after, IsConsistent}
use Rattle.mysql_bulk.specs.ColumnTypes.{takes_types, TakesTypes}
use Rattle.mysql_bulk.specs.WholeRunRefusal.{taken_front, measure, RefusesArity, RefusesTypes, RefusesSize, RefusalOfRows, IsNextAfterFront, EachFrontFits}
use Rattle.mysql_bulk.specs.Request.{BulkRequest}
use Rattle.mysql_bulk.specs.Row.{contents_of_row, first_length, EqualLengths, OneLength}
use Rattle.mysql_bulk.specs.Run.{Accepts}
use Rattle.mysql_values.specs.declared.param_type.ParamType.{ParamType}
use Rattle.mysql_bulk.proofs.BuilderRows.{one_length}
use Rattle.mysql_bulk.proofs.ColumnTypes.{taken_long}
use Rattle.mysql_bulk.specs.WholeRun.{IsNew, HadMemory, AreRequests, due_after, left_by, RequestIsDue, OfArity, holding, EachWasDue, EndsBy, RefusesNextRow, RefusalOfList, RunGives}

EqualLengths-push : (a : ℕ) (rows : List (List Content)) (row : List Content) → EqualLengths a rows → length row ≡ a → EqualLengths a (rows ++ row ∷ [])
EqualLengths-push a [] row e h = (h, tt)
EqualLengths-push a (r ∷ rows) row e h = (e.0, EqualLengths-push a rows row e.1 h)

-- a row that is allowed next is as long as the first
as_long : (known o : Option ℕ) (before : List (List Content)) (row : List Content) (rest all : List (List Content)) → o ≡ arity_after known before → TakesArity o (length row) → before ++ row ∷ rest ≡ all
    → length row ≡ first_length all
as_long known o [] row rest all a t e = ap first_length e
as_long known o (r ∷ before) row rest all a t e = (rw a at t) ∙ ap first_length e

-- on a new builder a row is allowed next if it is as long as the first and the declared types can encode it
takes_as_long : (columns : Option (List ParamType)) (o : Option ℕ) (before : List (List Content)) (row : List Content) (rest all : List (List Content)) → o ≡ arity_after (option_map length columns) before
    → before ++ row ∷ rest ≡ all → length row ≡ first_length all → TakesTypes columns row → TakesArity o (length row)
takes_as_long None o [] row rest all a e h t = rw a tt
takes_as_long (Some types) o [] row rest all a e h t = rw a (taken_long (Some types) types row refl t)
takes_as_long columns o (r ∷ before) row rest all a e h t = rw a (h ∙ sym (ap first_length e))

arity_more : (known : Option ℕ) (before : List (List Content)) (row : List Content) (rest all : List (List Content)) → before ++ row ∷ rest ≡ all → length row ≡ first_length all → Some (length row) ≡ arity_after known (before ++ row ∷ [])
arity_more known [] row rest all e h = refl
arity_more known (r ∷ before) row rest all e h = ap Some (h ∙ sym (ap first_length e))

pub ends_after-push : (parts : List (List (List Content))) (part : List (List Content)) → ends_after 0 (parts ++ part ∷ []) ≡ ends_after 0 parts ++ length (rows_in parts ++ part) ∷ []
ends_after-push parts part = from 0 parts ∙ ap (λ m. ends_after 0 parts ++ m ∷ []) (omega arith)
  where
    from : (n : ℕ) (parts : List (List (List Content))) → ends_after n (parts ++ part ∷ []) ≡ ends_after n parts ++ (n + length (rows_in parts ++ part)) ∷ []
    from n [] = refl
    from n (p ∷ parts) =
        let count : n + length p + length (rows_in parts ++ part) ≡ n + length ((p ++ rows_in parts) ++ part) =
        omega (arith, length-append (p ++ rows_in parts) part, length-append p (rows_in parts), length-append (rows_in parts) part) in
        ap (λ (l : List ℕ). (n + length p) ∷ l) (from (n + length p) parts ∙ ap (λ m. ends_after (n + length p) parts ++ m ∷ []) count)

-- later requests send types as the rule says
due_sent : (s : BuilderState) (cut : List (List (List Content))) → due_after (after_request s) cut ≡ s.rule.types_always
due_sent s cut = types_later (packing s 0) cut

AreRequests-push : (s : BuilderState) (arity : Option ℕ) (waiting : List (List Content)) (cut : List (List (List Content))) (requests : List BulkRequest) (part : List (List Content)) (request : BulkRequest) → AreRequests s cut requests
    → IsRequest (record s { arity = arity; types_due = due_after s cut; waiting = waiting }) part request → AreRequests s (cut ++ part ∷ []) (requests ++ request ∷ [])
AreRequests-push s arity waiting [] [] part request a i = (record { id = i.id; flags = i.flags; types = i.types; values = i.values; taken = i.taken }, tt)
AreRequests-push s arity waiting (p ∷ cut) (q ∷ requests) part request a i =
    (a.0, AreRequests-push (after_request s) arity waiting cut requests part request a.1 (rw (due_sent s cut) i))
AreRequests-push s arity waiting cut requests part request a i = absurd a

EachWasDue-push : (s : BuilderState) (cut : List (List (List Content))) (part rest : List (List Content)) → EachWasDue s cut (part ++ rest)
    → RequestIsDue (holding (record s { types_due = due_after s cut }) part) rest → EachWasDue s (cut ++ part ∷ []) rest
EachWasDue-push s [] part rest e d = (d, tt)
EachWasDue-push s (p ∷ cut) part rest e d =
    (subst (RequestIsDue (holding s p)) (joined_seam (packing s 0) cut part rest) e.0, EachWasDue-push (after_request s) cut part rest e.1 (rw (due_sent s cut) d))

-- rows of one length have the length that is known after them
of_arity : (known : Option ℕ) (rows : List (List Content)) → OneLength rows → OfArity (arity_after known rows) rows
of_arity None [] h = refl
of_arity (Some n) [] h = tt
of_arity known (row ∷ rows) h = h

-- the length of rows after others
length_of_waiting : (n : ℕ) (before waiting : List (List Content)) → EqualLengths n (before ++ waiting) → waiting ≢ [] → first_length waiting ≡ n
length_of_waiting n [] [] e some = absurd (some refl)
length_of_waiting n [] (row ∷ waiting) e some = e.0
length_of_waiting n (row ∷ before) waiting e some = length_of_waiting n before waiting e.1 some

-- the row is as long as the first of all, and the declared types can encode it
abbrev passes : BuilderState → List (List Content) → List Content → Bool
passes s all row = nat_eq (length row) (first_length all) && takes_types s.columns row

front_from : (s : BuilderState) (all before rest : List (List Content)) → EqualLengths (first_length all) before → All (TakesTypes s.columns) before
    → take_while (passes s all) (before ++ rest) ≡ before ++ take_while (passes s all) rest
front_from s all [] rest e t = refl
front_from s all (row ∷ before) rest e t =
    let P = passes s all in
    let yes : P row ≡ true = and_from (nat_eq (length row) (first_length all)) (takes_types s.columns row) (eq-eqb (length row) (first_length all) e.0) (All-head (TakesTypes s.columns) row before t) in
    take_while-cons P row (before ++ rest) ∙ ap (λ b. cond b (row ∷ take_while P (before ++ rest)) []) yes
    ∙ ap (λ (l : List (List Content)). row ∷ l) (front_from s all before rest e.1 (All-tail (TakesTypes s.columns) row before t))

slice_get_at : {X : Type 0} (xs : List X) (x : X) (ys : List X) → slice_get (xs ++ x ∷ ys) (length xs) ≡ Some x
slice_get_at [] x ys = refl
slice_get_at (y ∷ xs) x ys = slice_get_at xs x ys

-- a run from s over all these rows: the requests of this cut were built, the builder is b, and these rows are still to come
pub record Running (s : BuilderState) (all : List (List Content)) (requests : List BulkRequest) (cut : List (List (List Content))) (b : BuilderState) (rest : List (List Content)) : Type 0 where
  -- the rows that were sent or wait
  pub before : List (List Content)
  pub packed : IsPacked (measure s all) s.types_due cut b.waiting before rest
  pub requests_are : AreRequests s cut requests
  pub whole : before ++ rest ≡ all
  pub left : b ≡ record s { arity = arity_after s.arity before; types_due = due_after s cut; waiting = b.waiting }
  pub lengths : EqualLengths (first_length all) before
  pub taken : All (TakesTypes s.columns) before
  pub arity_stays : (n : ℕ) → s.arity ≡ Some n → b.arity ≡ Some n
  pub due : EachWasDue s cut (b.waiting ++ rest)

-- before the run
pub running_none : (s : BuilderState) (rows : List (List Content)) → IsConsistent s → Running s (s.waiting ++ rows) [] [] s rows
running_none s rows c = record {
  before = s.waiting;
  packed = open_packed (measure s (s.waiting ++ rows)) s.types_due s.waiting rows (λ n. fits s.waiting n (c.fits n));
  requests_are = tt;
  whole = refl;
  left = ap (λ a. record s { arity = a }) c.arity;
  lengths = lengths s.waiting c.one_length;
  taken = c.taken;
  arity_stays = λ n e. e;
  due = tt;
}
  where
    lengths : (waiting : List (List Content)) → EqualLengths (first_length waiting) waiting → EqualLengths (first_length (waiting ++ rows)) waiting
    lengths [] e = tt
    lengths (row ∷ waiting) e = e

    fits : (waiting : List (List Content)) → waiting ≢ [] → PartFits (packing s (first_length waiting)) s.types_due waiting → PartFits (packing s (first_length (waiting ++ rows))) s.types_due waiting
    fits [] n f = absurd (n refl)
    fits (row ∷ waiting) n f = f

module _ {s : BuilderState} {all : List (List Content)} {requests : List BulkRequest} {cut : List (List (List Content))} {b : BuilderState} where
  arity_is : {rest : List (List Content)} (r : Running s all requests cut b rest) → b.arity ≡ arity_after s.arity r.before
  arity_is r = ap (λ (u : BuilderState). u.arity) r.left

  -- a row that is allowed next is as long as the first of all
  next_long : (row : List Content) (rest : List (List Content)) (r : Running s all requests cut b (row ∷ rest)) → TakesArity b.arity (length row) → length row ≡ first_length all
  next_long row rest r t = as_long s.arity b.arity r.before row rest all (arity_is r) t r.whole

  pub parts_left : {rest : List (List Content)} → Running s all requests cut b rest → b ≡ left_by s cut b.waiting
  parts_left r = r.left ∙ ap (λ (l : List (List Content)). record s { arity = arity_after s.arity l; types_due = due_after s cut; waiting = b.waiting }) (sym r.packed.same)

  -- the declared types are unchanged
  types_to : (row : List Content) (rest : List (List Content)) (r : Running s all requests cut b rest) → TakesTypes b.columns row → TakesTypes s.columns row
  types_to row rest r t = rw r.left at t

  -- the next row fits with the waiting rows exactly if it fits the open part
  fits_to : (row : List Content) (rest : List (List Content)) (r : Running s all requests cut b (row ∷ rest)) → length row ≡ first_length all → RowFits b row → PartFits (measure s all) (due_after s cut) (b.waiting ++ row ∷ [])
  fits_to row rest r h f = rw (r.left, h) at f

  fits_from : (row : List Content) (rest : List (List Content)) (r : Running s all requests cut b (row ∷ rest)) → length row ≡ first_length all → PartFits (measure s all) (due_after s cut) (b.waiting ++ row ∷ []) → RowFits b row
  fits_from row rest r h f = rw (r.left, h) f

  -- the next row is accepted
  pub running_more : (row : List Content) (rest : List (List Content)) → Running s all requests cut b (row ∷ rest) → TakesRow b row → RowFits b row → Running s all requests cut (after_row b row) rest
  running_more row rest r t f =
      let h = next_long row rest r t.0 in
      record {
        before = r.before ++ row ∷ [];
        packed = packed_more (measure s all) s.types_due cut b.waiting r.before row rest r.packed (fits_to row rest r h f);
        requests_are = r.requests_are;
        whole = append_assoc r.before (row ∷ []) rest ∙ r.whole;
        left = λ k. record (r.left k) { arity = arity_more s.arity r.before row rest all r.whole h k; waiting = b.waiting ++ row ∷ [] };
        lengths = EqualLengths-push (first_length all) r.before row r.lengths h;
        taken = All-push (TakesTypes s.columns) r.before row r.taken (types_to row (row ∷ rest) r t.1);
        arity_stays = λ n e. ap Some (rw (r.arity_stays n e) at t.0);
        due = subst (EachWasDue s cut) (sym (append_assoc b.waiting (row ∷ []) rest)) r.due;
      }

  -- the request of the waiting rows is due: by the open part, and by the parts
  does_not_fit : (rest : List (List Content)) → Running s all requests cut b rest → RequestIsDue b rest → NextDoesNotFit (measure s all) (due_after s cut) b.waiting rest
  does_not_fit [] r d = tt
  does_not_fit (row ∷ rest) r d = λ f. d.2 (fits_from row rest r (next_long row rest r d.1.0) f)

  is_due : (rest : List (List Content)) → Running s all requests cut b rest → RequestIsDue b rest → RequestIsDue (holding (record s { types_due = due_after s cut }) b.waiting) rest
  is_due [] r d = d
  is_due (row ∷ rest) r d =
      let first = length_of_waiting (first_length all) (rows_in cut) b.waiting (subst (EqualLengths (first_length all)) (sym r.packed.same) r.lengths) d.0 in
      (d.0, (next_long row rest r d.1.0 ∙ sym first, types_to row (row ∷ rest) r d.1.1), λ f. d.2 (rw r.left f))

  -- the waiting rows are sent
  pub running_sends : (t : BuilderState) (rest : List (List Content)) (request : BulkRequest) → Running s all requests cut b rest → BuildsRequest b request t → RequestIsDue b rest
      → Running s all (requests ++ request ∷ []) (cut ++ b.waiting ∷ []) t rest
  running_sends t rest request r a d =
      rw a.left (record {
        before = r.before;
        packed = packed_close (measure s all) s.types_due cut b.waiting r.before rest r.packed a.some (does_not_fit rest r d);
        requests_are = AreRequests-push s (arity_after s.arity r.before) b.waiting cut requests b.waiting request r.requests_are (rw r.left at a.is_theirs);
        whole = r.whole;
        left = λ k. record (r.left k) { types_due = (ap (λ (u : BuilderState). u.rule.types_always) r.left ∙ sym (types_after_push (packing s 0) s.types_due cut b.waiting)) k; waiting = [] };
        lengths = r.lengths;
        taken = r.taken;
        arity_stays = r.arity_stays;
        due = EachWasDue-push s cut b.waiting rest r.due (is_due rest r d);
      })

  -- ---- what a run has produced, at any point

  -- the rows so far and those still accepted are the beginning of the list
  front_is : (rest : List (List Content)) (r : Running s all requests cut b rest) → taken_front s all ≡ r.before ++ take_while (passes s all) rest
  front_is rest r = ap (take_while (passes s all)) (sym r.whole) ∙ front_from s all r.before rest r.lengths r.taken

  -- the cut is full from the front
  pub full : (rest : List (List Content)) → Running s all requests cut b rest → IsNew s → IsFullFromFront (measure s all) (taken_front s all) cut
  full rest r n =
      let front = take_while (passes s all) rest in
      let later = drop (prefix_len (passes s all) rest) rest in
      let F : List (List Content) → Type 0 = λ e. IsFullFromFront (measure s all) e cut in
      let here = packed_front (measure s all) s.types_due cut b.waiting r.before front later (subst (IsPacked (measure s all) s.types_due cut b.waiting r.before) (sym (take-append-drop (prefix_len (passes s all) rest) rest)) r.packed) in
      subst F (sym (front_is rest r)) (packed_full (measure s all) s.types_due cut b.waiting r.before front here n.types_due)

  -- on a new builder the first request sends types
  packed_new : (rest : List (List Content)) (r : Running s all requests cut b rest) → IsNew s → IsPacked (measure s all) true cut b.waiting r.before rest
  packed_new rest r n = rw n.types_due at r.packed

  -- the rows so far have a fitting cut, and so has each of their prefixes
  so_far_fits : (rest : List (List Content)) (r : Running s all requests cut b rest) → IsNew s → (m : ℕ) → HasFittingCut (measure s all) (take m r.before)
  so_far_fits rest r n m = fits_front (measure s all) r.before m (packed_fits (measure s all) cut b.waiting r.before rest (packed_new rest r n))

  gives : (rest : List (List Content)) (refusal : Option BulkExecuteRequestBuilderError) → Running s all requests cut b rest → EndsBy refusal b rest
      → (IsNew s → HadMemory refusal → RefusalOfList s all refusal) → (IsNew s → refusal ≡ None → IsFewest (measure s all) all cut) → RunGives s all requests (ends_after 0 cut) refusal b
  gives rest refusal r e refused fewest =
      let same = sym r.packed.same in
      record {
        cut = cut;
        none_empty = r.packed.none_empty;
        dropped = rest;
        all_rows = ap (λ (l : List (List Content)). l ++ rest) r.packed.same ∙ r.whole;
        requests_are = r.requests_are;
        ends_are = refl;
        full_parts = r.packed.full_so_far;
        one_length = subst (OfArity b.arity) same (rw (arity_is r) (of_arity s.arity r.before (one_length (first_length all) r.before r.lengths)));
        taken = subst (All (TakesTypes s.columns)) same r.taken;
        arity_stays = r.arity_stays;
        each_was_due = r.due;
        left = parts_left r;
        ended = e;
        full_from_front = full rest r;
        refused = refused;
        fewest = fewest;
      }

  -- ---- the end of a run

  none_refused : Running s all requests cut b [] → IsNew s → RefusalOfRows s all None
  none_refused r n =
      let front : taken_front s all ≡ r.before = front_is [] r ∙ append-nil r.before in
      (λ m. rw front (so_far_fits [] r n m), front ∙ sym (append-nil r.before) ∙ r.whole)

  -- all rows are in the cut
  pub gives_all : Running s all requests cut b [] → b.waiting ≡ [] → RunGives s all requests (ends_after 0 cut) None b
  gives_all r w =
      gives [] None r (w, refl) (λ n h. none_refused r n)
      (λ n h. packed_fewest (measure s all) cut all (rw (w, sym (append-nil r.before) ∙ r.whole) at (packed_new [] r n)))

  -- there was no memory for the next request
  pub gives_memory : (rest : List (List Content)) → Running s all requests cut b rest → RequestIsDue b rest → RunGives s all requests (ends_after 0 cut) (Some (Request Memory)) b
  gives_memory rest r due = gives rest (Some (Request Memory)) r due (λ n h. absurd h) (λ n h. cc)

  -- parameters gave no row
  pub gives_params : (e : ParamsError) → Running s all requests cut b [] → RunGives s all requests (ends_after 0 cut) (Some (Params e)) b
  gives_params e r = gives [] (Some (Params e)) r refl (λ n h. none_refused r n) (λ n h. cc)

  -- the next row is not accepted: it follows that beginning
  module _ (row : List Content) (rest : List (List Content)) (r : Running s all requests cut b (row ∷ rest)) where
    front_next : (passing : Bool) → passes s all row ≡ passing → taken_front s all ≡ r.before ++ cond passing (row ∷ take_while (passes s all) rest) []
    front_next passing is =
        front_is (row ∷ rest) r ∙ ap (λ (l : List (List Content)). r.before ++ l) (take_while-cons (passes s all) row rest ∙ ap (λ c. cond c (row ∷ take_while (passes s all) rest) []) is)

    module _ (no : passes s all row ≡ false) where
      front_ends : taken_front s all ≡ r.before
      front_ends = front_next false no ∙ append-nil r.before

      fronts_fit : IsNew s → EachFrontFits s all
      fronts_fit n m = rw front_ends (so_far_fits (row ∷ rest) r n m)

      next_after : IsNextAfterFront s all row
      next_after = ap (λ (l : List (List Content)). slice_get l (length (taken_front s all))) (sym r.whole) ∙ ap (λ (l : List (List Content)). slice_get (r.before ++ row ∷ rest) (length l)) front_ends ∙ slice_get_at r.before row rest

      arity_after_front : b.arity ≡ arity_after s.arity (taken_front s all)
      arity_after_front = arity_is r ∙ ap (arity_after s.arity) (sym front_ends)

    other_length : (TakesArity b.arity (length row) → ⊥) → IsNew s → RefusesArity s all row
    other_length t n =
        let known : b.arity ≡ arity_after (option_map length s.columns) r.before = arity_is r ∙ ap (λ o. arity_after o r.before) n.arity in
        let no : passes s all row ≡ false = false_from_ne_true (passes s all row) (λ e.
        let both = and_parts (nat_eq (length row) (first_length all)) (takes_types s.columns row) e in
        t (takes_as_long s.columns b.arity r.before row rest all known r.whole (eqb-true (length row) (first_length all) both.0) both.1)) in
        (fronts_fit no n, next_after no, λ a. t (rw (arity_after_front no) a))

    other_types : TakesArity b.arity (length row) → (TakesTypes b.columns row → ⊥) → IsNew s → RefusesTypes s all row
    other_types a t n =
        let not_taken : TakesTypes s.columns row → ⊥ = rw r.left at t in
        let no : passes s all row ≡ false = false_from_ne_true (passes s all row) (λ e. not_taken (and_parts (nat_eq (length row) (first_length all)) (takes_types s.columns row) e).1) in
        (fronts_fit no n, next_after no, rw (arity_after_front no) at a, not_taken)

    too_large : TakesRow b row → (RowFits b row → ⊥) → b.waiting ≡ [] → IsNew s → RefusesSize s all row
    too_large t f w n =
        let k = measure s all in
        let h = next_long row rest r t.0 in
        let more = take_while (passes s all) rest in
        let front : taken_front s all ≡ r.before ++ row ∷ more = front_next true (and_from (nat_eq (length row) (first_length all)) (takes_types s.columns row) (eq-eqb (length row) (first_length all) h) (types_to row (row ∷ rest) r t.1)) in
        let alone : PartFits k (types_after k true cut) (row ∷ []) → ⊥ = λ g. f (fits_from row rest r h (rw (w, n.types_due) g)) in
        let upto : take (length r.before + 1) (taken_front s all) ≡ r.before ++ row ∷ [] =
        ap (take (length r.before + 1)) (front ∙ sym (append_assoc r.before (row ∷ []) more))
        ∙ take_at (r.before ++ row ∷ []) more (length r.before + 1) (length-append r.before (row ∷ [])) in (
          length r.before,
          ap (λ (l : List (List Content)). slice_get l (length r.before)) front ∙ slice_get_at r.before row more,
          λ c. packed_stuck k cut r.before row rest (rw w at (packed_new (row ∷ rest) r n)) alone (rw upto at c),
          λ m le. rw (ap (take m) front ∙ take-append-le m r.before (row ∷ more) le) (so_far_fits (row ∷ rest) r n m),
        )

    -- a copy of the next row is refused
    pub copy_refused : (e : BulkRowError) → AddsCopy b row (Err e) b → IsNew s → RefusesIn s all row e
    copy_refused copy.MixedArity a n = other_length a.0 n
    copy_refused copy.MixedTypes a n = other_types a.0 a.1 n
    copy_refused copy.TooLarge a n = too_large a.0 a.1 a.2 n
    copy_refused copy.Memory a n = tt

  -- the next row is refused
  module _ (row : Vec Value) (rest : List (List Content)) (r : Running s all requests cut b (contents_of_row row ∷ rest)) where
    ends_here : (e : BulkExecuteRequestError) → Adds b row (Err e) b → EndsBy (Some (Request e)) b (contents_of_row row ∷ rest) → (IsNew s → HadMemory (Some (Request e)) → RefusalOfRows s all (Some e)) → RunGives s all requests (ends_after 0 cut) (Some (Request e)) b
    ends_here e a ended why = gives (contents_of_row row ∷ rest) (Some (Request e)) r ended why (λ n h. cc)

    refuses : (e : BulkExecuteRequestError) → Adds b row (Err e) b → RefusesNextRow b e (contents_of_row row ∷ rest)
    refuses e a = record { row = row; later = rest; is_next = refl; refused = a }

    pub gives_refused : (e : BulkExecuteRequestError) → Adds b row (Err e) b → RunGives s all requests (ends_after 0 cut) (Some (Request e)) b
    gives_refused MixedArity a = ends_here MixedArity a (refuses MixedArity a) (λ n h. (contents_of_row row, other_length (contents_of_row row) rest r a.0 n))
    gives_refused (MixedTypes back) a =
        ends_here (MixedTypes back) a (refuses (MixedTypes back) a) (λ n h. rw a.2 (other_types (contents_of_row row) rest r a.0 a.1 n))
    gives_refused (RowTooLarge back) a =
        ends_here (RowTooLarge back) a (refuses (RowTooLarge back) a) (λ n h. rw a.3 (too_large (contents_of_row row) rest r a.0 a.1 a.2 n))
    gives_refused (MemoryRow back) a = ends_here (MemoryRow back) a (refuses (MemoryRow back) a) (λ n h. absurd h)
    gives_refused e a = absurd a

-- some of the next rows are accepted
pub running_accepts : {s : BuilderState} {all : List (List Content)} {requests : List BulkRequest} {cut : List (List (List Content))} {b : BuilderState} (m : BuilderState) (rows rest : List (List Content))
    → Running s all requests cut b (rows ++ rest) → Accepts b rows m → Running s all requests cut m rest
running_accepts m [] rest r a = rw a r
running_accepts m (row ∷ rows) rest r a = running_accepts m rows rest (running_more row (rows ++ rest) r a.0 a.1) a.2

-- a new builder satisfies the invariant
pub new_consistent : (s : BuilderState) → IsNew s → IsConsistent s
new_consistent s n =
    record { one_length = rw n.waiting tt; arity = rw n.waiting refl; taken = rw n.waiting (All-nil (TakesTypes s.columns)); fits = λ some. absurd (some n.waiting) }
