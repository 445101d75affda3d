-- A run over the rows of an input: those that came, and what the builder made of them.
use Rattle.std.proofs.Common.{◌≡◌, List, [], ◌∷◌, ◌++◌, Option, Some, None, refl, sym, ap, subst, inl, inr, ◌⊎◌, ◌∙◌, append_assoc}
use Rattle.std.proofs.lemmas.List.{append-nil, map-append}
use Rattle.std.specs.Global.{Vec}
use Rattle.std.specs.Iterator.{Yields, YieldsThen}
use Rattle.mysql_values.specs.declared.value.Value.{Value}
use Rattle.mysql_values.specs.Value.{Content}
use Rattle.mysql_bulk.specs.Builder.{BuilderState, BuildsRequest, IsConsistent, TakesRow, RowFits}
use Rattle.mysql_bulk.specs.Request.{BulkRequest}
use Rattle.mysql_bulk.specs.Row.{contents_of_row, contents_of_rows}
use Rattle.mysql_bulk.specs.Run.{NextRow, Accepts}
use Rattle.mysql_bulk.specs.WholeRun.{RequestIsDue}
use Rattle.mysql_bulk.proofs.WholeRun.{Running, running_none, running_accepts, running_sends}

-- these rows begin with the carried row, if there is one
abbrev pub BeginsWith : Option (Vec Value) → List (List Content) → Type 0
BeginsWith None rest = Unit {0}
BeginsWith (Some row) rest = (later : List (List Content)) × (rest ≡ contents_of_row row ∷ later)

module _ {S : Type 0} (steps : S → Option (Vec Value) → S → Type 0) where
  Yields-append : (s j t : Option (Vec Value) × S) (xs ys : List (Vec Value)) → Yields (NextRow steps) s xs j → Yields (NextRow steps) j ys t → Yields (NextRow steps) s (xs ++ ys) t
  Yields-append s j t [] ys a b = subst (λ k. Yields (NextRow steps) k ys t) (sym a) b
  Yields-append s j t (x ∷ xs) ys a b = (a.0, a.1, Yields-append a.0 j t xs ys a.2 b)

  abbrev pub GivesBack : Option (Vec Value) × S → Option (Vec Value) → S → Type 0
  GivesBack place None rows = ⊥
  GivesBack place (Some row) rows = NextRow steps place (Some row) (None, rows)

  -- the carried row and the others come next from this place
  abbrev pub StandsAt : Option (Vec Value) × S → Option (Vec Value) → S → Type 0
  StandsAt place carried rows = (place ≡ (carried, rows)) ⊎ GivesBack place carried rows

  from_place : (place : Option (Vec Value) × S) (carried : Option (Vec Value)) (rows : S) (o : Option (Vec Value)) (q : Option (Vec Value) × S) → StandsAt place carried rows → NextRow steps (carried, rows) o q → NextRow steps place o q
  from_place place carried rows o q (inl e) n = subst (λ p. NextRow steps p o q) (sym e) n
  from_place place None rows o q (inr e) n = absurd e
  from_place place (Some row) rows None q (inr e) n = absurd n
  from_place place (Some row) rows (Some x) q (inr e) n =
      let same : (None, rows) ≡ q = ap (λ (r : S). (None, r)) (sym n.2) ∙ ap (λ (o : Option (Vec Value)). (o, q.1)) (sym n.1) in
      subst (λ (r : Vec Value). NextRow steps place (Some r) q) (sym n.0) (subst (λ j. NextRow steps place (Some row) j) same e)

  rows_from : (place : Option (Vec Value) × S) (carried : Option (Vec Value)) (rows : S) (taken : List (Vec Value)) (mid : Option (Vec Value) × S) → StandsAt place carried rows → Yields (NextRow steps) (carried, rows) taken mid
      → (there : Option (Vec Value) × S) × Yields (NextRow steps) place taken there × StandsAt there mid.0 mid.1
  rows_from place carried rows [] mid at y = (place, refl, subst (λ (m : Option (Vec Value) × S). StandsAt place m.0 m.1) y at)
  rows_from place carried rows (x ∷ taken) mid at y = (mid, (y.0, from_place place carried rows (Some x) y.0 at y.1, y.2), inl refl)

  begins_at : (carried : Option (Vec Value)) (rows : S) (taken : List (Vec Value)) (mid : Option (Vec Value) × S) (rest : List (List Content)) → Yields (NextRow steps) (carried, rows) taken mid → BeginsWith mid.0 rest
      → BeginsWith carried (contents_of_rows taken ++ rest)
  begins_at carried rows [] mid rest y b = subst (λ (m : Option (Vec Value) × S). BeginsWith m.0 rest) (sym y) b
  begins_at None rows (x ∷ taken) mid rest y b = tt
  begins_at (Some row) rows (x ∷ taken) mid rest y b = (contents_of_rows taken ++ rest, ap (λ (r : Vec Value). contents_of_row r ∷ (contents_of_rows taken ++ rest)) y.1.0)

  begins_next : (carried : Option (Vec Value)) (rows left : S) (row : Vec Value) (rest : List (List Content)) → NextRow steps (carried, rows) (Some row) (None, left) → BeginsWith (Some row) rest → BeginsWith carried rest
  begins_next None rows left row rest n b = tt
  begins_next (Some x) rows left row rest n b = (b.0, b.1 ∙ ap (λ (r : Vec Value). contents_of_row r ∷ b.0) n.0)

  -- A run of a builder s over an input: it built the requests of this cut, and the builder is b. The input is before the carried row, if
  -- there is one, and the others. The rest of the rows is whatever comes from there on.
  pub record Upto (s : BuilderState) (start : S) (requests : List BulkRequest) (cut : List (List (List Content))) (b : BuilderState) (carried : Option (Vec Value)) (left : S) : Type 0 where
    pub rows : List (Vec Value)
    pub place : Option (Vec Value) × S
    pub came : Yields (NextRow steps) (None, start) rows place
    pub stands : StandsAt place carried left
    pub run : (rest : List (List Content)) → BeginsWith carried rest → Running s (s.waiting ++ (contents_of_rows rows ++ rest)) requests cut b rest

  pub starts : (s : BuilderState) (start : S) (carried : Option (Vec Value)) → IsConsistent s → carried ≡ None → Upto s start [] [] s carried start
  starts s start carried c none = record {
    rows = [];
    place = (None, start);
    came = refl;
    stands = inl (ap (λ (o : Option (Vec Value)). (o, start)) (sym none));
    run = λ rest b. running_none s rest c;
  }

  module _ {s : BuilderState} {start : S} {requests : List BulkRequest} {cut : List (List (List Content))} {b : BuilderState} where
    -- rows were accepted
    pub accepts : {carried : Option (Vec Value)} {left : S} (x : Upto s start requests cut b carried left) (m : BuilderState) (taken : List (Vec Value)) (mid : Option (Vec Value) × S)
        → Yields (NextRow steps) (carried, left) taken mid → Accepts b (contents_of_rows taken) m → Upto s start requests cut m mid.0 mid.1
    accepts {carried} {left} x m taken mid y a =
        let there = rows_from x.place carried left taken mid x.stands y in
        record {
          rows = x.rows ++ taken;
          place = there.0;
          came = Yields-append (None, start) x.place there.0 x.rows taken x.came there.1;
          stands = there.2;
          run = λ rest begins.
              running_accepts m (contents_of_rows taken) rest (rw (map-append contents_of_row x.rows taken, append_assoc (contents_of_rows x.rows) (contents_of_rows taken) rest) (x.run (contents_of_rows taken ++ rest) (begins_at carried left taken mid rest y begins))) a;
        }

    -- the next row came, and is carried
    pub carries : {carried : Option (Vec Value)} {left : S} → Upto s start requests cut b carried left → (row : Vec Value) (later : S) → NextRow steps (carried, left) (Some row) (None, later) → Upto s start requests cut b (Some row) later
    carries {carried} {left} x row later n = record {
      rows = x.rows;
      place = x.place;
      came = x.came;
      stands = inr (from_place x.place carried left (Some row) (None, later) x.stands n);
      run = λ rest begins. x.run rest (begins_next carried left later row rest n begins);
    }

    -- the request of the waiting rows was built, since the carried row does not fit
    pub sends : {row : Vec Value} {left : S} → Upto s start requests cut b (Some row) left → (t : BuilderState) (request : BulkRequest) → BuildsRequest b request t → TakesRow b (contents_of_row row)
        → (RowFits b (contents_of_row row) → ⊥) → Upto s start (requests ++ request ∷ []) (cut ++ b.waiting ∷ []) t (Some row) left
    sends {row} {left} x t request built takes full = record {
      rows = x.rows;
      place = x.place;
      came = x.came;
      stands = x.stands;
      run = λ rest begins. let due : RequestIsDue b rest = subst (RequestIsDue b) (sym begins.1) (built.some, takes, full) in running_sends t rest request (x.run rest begins) built due;
    }

    -- the rows that came, and the next one or the end
    pub came_next : {carried : Option (Vec Value)} {left : S} (x : Upto s start requests cut b carried left) (next : Option (Vec Value)) (later : S) → NextRow steps (carried, left) next (None, later)
        → YieldsThen (NextRow steps) (None, start) x.rows next (None, later)
    came_next {carried} {left} x next later n = (x.place, x.came, from_place x.place carried left next (None, later) x.stands n)

    -- these were all rows, if no more come
    pub all_came : {left : S} (x : Upto s start requests cut b None left) → Running s (s.waiting ++ contents_of_rows x.rows) requests cut b []
    all_came x = rw (← append-nil (contents_of_rows x.rows)) (x.run [] tt)

    pub at_end : {carried : Option (Vec Value)} {left : S} (x : Upto s start requests cut b carried left) (later : S) → NextRow steps (carried, left) None (None, later) → Running s (s.waiting ++ contents_of_rows x.rows) requests cut b []
    at_end {carried = None} x later n = all_came x
    at_end {carried = Some row} x later n = absurd n
