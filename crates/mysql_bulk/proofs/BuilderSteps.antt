-- How a builder stores the rows that wait, and the request that it makes of them.
use Rattle.std.proofs.Common.{◌≡◌, ◌≢◌, ℕ, zero, suc, ◌+◌, ◌*◌, ◌<◌, ◌≤◌, ◌↔◌, ◌^◌, Bool, true, false, if◌then◌else◌, List, [], ◌∷◌, ◌++◌, length, drop, Option, Some, None, unwrap_or, refl, sym, ◌∙◌, ap, subst, ◌⊎◌, inl, inr, arith, sum_by}
use Rattle.std.specs.List.{AllZip}
use Rattle.std.specs.Prelude.{All, MatchOption}
use Rattle.std.proofs.Math.Nat.{suc-mul}
use Rattle.std.proofs.lemmas.List.{length-drop, length-take-le, map-append, nil_from_length}
use Rattle.std.proofs.lemmas.List.Elements.{All-nil, All-push}
use Rattle.mysql_wire.specs.Writing.{saturated}
use Rattle.mysql_cuts.specs.Cut.{PartFits, rows_in, request_size}
use Rattle.mysql_values.specs.declared.param_type.ParamType.{ParamType}
use Rattle.mysql_values.specs.declared.value.Value.{Value}
use Rattle.mysql_values.specs.Value.{Content, content_of, contents_of}
use Rattle.mysql_bulk.specs.Builder.{Builder, BuilderState, HasRoom, packing, IsStoredAs, waiting_size, WaitingFits, TakesArity, TakesRow, RowFits, after_row, arity_after, IsConsistent}
use Rattle.mysql_bulk.specs.ColumnTypes.{TakesTypes, types_of_rows, types_so_far, types_after_row, MayFollow}
use Rattle.mysql_bulk.specs.Row.{row_size, rows_packing, first_length, EqualLengths}
use Rattle.mysql_bulk.specs.BuilderRows.{rows_of, waiting_rows}
use Rattle.mysql_bulk.proofs.ColumnTypes.{spelled_long, length-types_of_rows, types_so_far_all, types_so_far_more, types_so_far_declared}
use Rattle.mysql_bulk.proofs.DeclaredTypes.{types_before}
use Rattle.mysql_bulk.proofs.RequestBytes.{length-sent, size-rows_in}
use Rattle.mysql_bulk.proofs.BuilderRows.{flat_values, flat_none, flat_some, flat_rows, flat_more, length-rows_of, one_length, first_long}

pub saturated_small : (n : ℕ) → n < 2 ^ 64 → n ≡ saturated n
unfolding saturated
saturated_small n h = omega arith

equal_rows : (a n : ℕ) (values : List Content) → length values ≡ n * a → EqualLengths a (rows_of a n values)
equal_rows a zero values h = tt
equal_rows a (suc n) values h =
    let more : suc n * a ≡ n * a + a = suc-mul n a in
    (length-take-le a values (omega (arith, h, more)), equal_rows a n (drop a values) (omega (arith, h, more, length-drop a values)))

pub if_same : {X : Type 0} (b : Bool) (x y z : X) → x ≡ y → (if b then x else z) ≡ (if b then y else z)
if_same true x y z e = e
if_same false x y z e = refl

as_many : (arity : Option ℕ) (n l : ℕ) → TakesArity arity n → l ≡ unwrap_or arity 0 → (l ≡ n) ⊎ (l ≡ 0)
as_many None n l t e = inr e
as_many (Some a) n l t e = inl (e ∙ sym t)

types_step : (b : Bool) (columns : Option (List ParamType)) (types : List ParamType) (rows : List (List Content)) (row : List Content) → types ≡ (if b then types_so_far columns rows else [])
    → (if b then types_after_row columns types row else types) ≡ (if b then types_so_far columns (rows ++ row ∷ []) else [])
types_step true columns types rows row e = ap (λ (l : List ParamType). types_after_row columns l row) e ∙ types_so_far_more columns rows row
types_step false columns types rows row e = e

if_true : {X : Type 0} (b : Bool) (x y : X) → b ≡ true → (if b then x else y) ≡ x
if_true true x y e = refl
if_true false x y e = cc

-- the contents of a list of values after those of a row were appended
pub held_after : (more values row : List Value) → more ≡ values ++ row → contents_of more ≡ contents_of values ++ contents_of row
held_after more values row e = ap contents_of e ∙ map-append content_of values row

-- copies have the contents of the values
pub held_by_copies : (values copies : List Value) → AllZip (λ value copy. content_of copy ≡ content_of value) values copies → contents_of copies ≡ contents_of values
held_by_copies [] [] a = refl
held_by_copies (x ∷ values) (y ∷ copies) a = λ i. a.0 i ∷ held_by_copies values copies a.1 i
held_by_copies values copies a = absurd a

-- equal builders have equal states
pub same_state : {a b : Builder} → a ≡ b → a.state ≡ b.state
same_state e = ap (λ (builder : Builder). builder.state) e

-- no row, no type
no_types : (due : Bool) (columns : Option (List ParamType)) (rows : List (List Content)) → rows ≡ [] → (if due then types_so_far columns rows else []) ≡ []
no_types false columns rows e = refl
no_types true None rows e = ap (types_so_far None) e
no_types true (Some declared) rows e = ap (types_so_far (Some declared)) e

no_contents : (values : List Value) → contents_of values ≡ [] → values ≡ []
no_contents [] e = refl
no_contents (value ∷ values) e = cc

module _ {s : BuilderState} {count size : ℕ} {values : List Content} {types : List ParamType} (k : IsStoredAs s count size values types) where
  pub stored_rows : count ≢ 0 → s.waiting ≢ []
  stored_rows n e = n (flat_none s.arity count values (sym k.rows_is ∙ e))

  pub stored_equal : EqualLengths (unwrap_or s.arity 0) s.waiting
  stored_equal = subst (EqualLengths (unwrap_or s.arity 0)) (sym k.rows_is) (equal_rows (unwrap_or s.arity 0) count values k.flat.lengths)

  -- the types are those of the rows
  pub stored_types : count ≢ 0 → types ≡ (if s.types_due then types_of_rows s.columns s.waiting else [])
  stored_types n =
      k.types_is
      ∙ if_same s.types_due (types_so_far s.columns s.waiting) (types_of_rows s.columns s.waiting) [] (types_so_far_all s.columns (unwrap_or s.arity 0) s.waiting (stored_rows n) stored_equal)

  -- the values are those of the rows
  pub stored_values : values ≡ rows_in s.waiting
  stored_values = flat_values s.arity count size values k.flat ∙ ap rows_in (sym k.rows_is)

  types_size : count ≢ 0 → 2 * length types ≡ (if s.types_due then 2 * unwrap_or s.arity 0 else 0)
  types_size n =
      let a = unwrap_or s.arity 0 in
      ap (λ (l : List ParamType). 2 * length l) (stored_types n)
      ∙ length-sent s.types_due a (types_of_rows s.columns s.waiting) (length-types_of_rows s.columns s.waiting k.taken ∙ first_long a s.waiting (stored_rows n) stored_equal)

  rows_size : size ≡ sum_by row_size s.waiting
  rows_size = k.flat.size_is ∙ ap (sum_by row_size) (sym k.rows_is)

  -- the arity is the length of the waiting rows
  pub stored_arity : count ≢ 0 → unwrap_or s.arity 0 ≡ first_length s.waiting
  stored_arity n = sym (first_long (unwrap_or s.arity 0) s.waiting (stored_rows n) stored_equal)

  -- the bytes are those of the request
  pub stored_size : count ≢ 0 → 7 + 2 * length types + size ≡ waiting_size s
  stored_size n =
      let here : 7 + 2 * length types + size ≡ request_size (packing s (unwrap_or s.arity 0)) s.types_due s.waiting = omega (arith, types_size n, rows_size) in
      here ∙ ap (λ a. request_size (packing s a) s.types_due s.waiting) (stored_arity n)

  values_size : row_size values ≡ size
  values_size = ap row_size (flat_values s.arity count size values k.flat) ∙ size-rows_in (waiting_rows s.arity count values) ∙ sym k.flat.size_is

  pub stored_bytes : count ≢ 0 → 7 + 2 * length types + row_size values ≡ waiting_size s
  stored_bytes n = omega (arith, stored_size n, values_size)

  -- the request is allowed
  pub stored_allowed : count ≢ 0 → WaitingFits s
  stored_allowed n = rw (stored_arity n) at (k.fits (stored_rows n))

  pub stored_bound : count ≢ 0 → waiting_size s ≤ s.limit
  stored_bound n = (stored_allowed n).0

  -- before a row that is allowed next
  pub stored_before : (row : List Content) → TakesRow s row → s.types_due ≡ true → MayFollow s.columns types row
  stored_before row t due =
      let is : types ≡ types_so_far s.columns s.waiting = k.types_is ∙ if_true s.types_due (types_so_far s.columns s.waiting) [] due in
      subst (λ l. MayFollow s.columns l row) (sym is) (so_far s.columns t.1)
    where
      so_far : (columns : Option (List ParamType)) → TakesTypes columns row → MayFollow columns (types_so_far columns s.waiting) row
      so_far None taken =
          elim (types_before (unwrap_or s.arity 0) s.waiting stored_equal) [
            | inl long ↦ elim (as_many s.arity (length row) (length (types_so_far None s.waiting)) t.0 long) [
              | inl same ↦ inl same
              | inr none ↦ inr (nil_from_length (types_so_far None s.waiting) none)
            ]
            | inr none ↦ inr (ap (types_so_far None) none)
          ]
      so_far (Some declared) taken = (sym (spelled_long declared row taken), types_so_far_declared declared s.waiting)

  -- what holds for rows of these sizes holds for the waiting rows: a row that has no more bytes fits too
  pub stored_room : (arity : ℕ) (row : List Content) (most : Option ℕ) → arity ≡ length row
      → ((rows : List (List Content)) (row : List Content) → length rows ≡ count → size ≡ sum_by row_size rows → length row ≡ arity →
      MatchOption most (PartFits (rows_packing s.rule s.limit arity) s.types_due (rows ++ row ∷ []) → ⊥) (λ n. PartFits (rows_packing s.rule s.limit arity) s.types_due (rows ++ row ∷ []) ↔ (row_size row ≤ n)))
      → MatchOption most (RowFits s row → ⊥) (λ n. RowFits s row ↔ (row_size row ≤ n))
  stored_room arity row most long each =
      rw (k.rows_is, ← long) (each (waiting_rows s.arity count values) row (length-rows_of (unwrap_or s.arity 0) count values) k.flat.size_is (sym long))

  -- one more row is waiting
  pub stored_more : (total : ℕ) (row : List Content) → TakesRow s row → RowFits s row → total ≡ sum_by row_size (s.waiting ++ row ∷ [])
      → IsStoredAs (after_row s row) (count + 1) total (values ++ row) (if s.types_due then types_after_row s.columns types row else types)
  stored_more total row t f e =
      let rows = flat_rows s.arity count size values row k.flat t.0 in
      record {
        limit_is = k.limit_is;
        rows_is = ap (λ (l : List (List Content)). l ++ row ∷ []) k.rows_is ∙ sym rows;
        flat = flat_more s.arity count size total values row k.flat t.0 (e ∙ ap (λ (l : List (List Content)). sum_by row_size (l ++ row ∷ [])) k.rows_is);
        fits = λ n. f;
        taken = All-push (TakesTypes s.columns) s.waiting row k.taken t.1;
        types_is = types_step s.types_due s.columns types s.waiting row k.types_is;
      }

  pub rows_more : (row : List Content) → TakesArity s.arity (length row) → waiting_rows (Some (length row)) (count + 1) (values ++ row) ≡ s.waiting ++ row ∷ []
  rows_more row t = flat_rows s.arity count size values row k.flat t ∙ ap (λ (l : List (List Content)). l ++ row ∷ []) (sym k.rows_is)

  abbrev pub with_row : ℕ → ℕ → List Content → BuilderState
  with_row a n more = record s { arity = Some a; waiting = waiting_rows (Some a) n more }

  pub stored_next : (total a n : ℕ) (row more : List Content) (further : List ParamType) → TakesRow s row → RowFits s row → total ≡ sum_by row_size (s.waiting ++ row ∷ [])
      → a ≡ length row → n ≡ count + 1 → more ≡ values ++ row → further ≡ (if s.types_due then types_after_row s.columns types row else types) → IsStoredAs (with_row a n more) n total more further
  stored_next total a n row more further t f e la ln lm lf =
      rw (la, ln, lm, lf, rows_more row t.0) (stored_more total row t f e)

  pub state_next : (a n : ℕ) (row more : List Content) → TakesArity s.arity (length row) → a ≡ length row → n ≡ count + 1 → more ≡ values ++ row → with_row a n more ≡ after_row s row
  state_next a n row more t la ln lm = rw (la, ln, lm) (ap (λ (w : List (List Content)). record s { arity = Some (length row); waiting = w }) (rows_more row t))

  -- types are declared while no row is waiting
  abbrev pub declared_state : List ParamType → BuilderState
  declared_state declared = record s { columns = Some declared; arity = Some (length declared); types_due = true; waiting = waiting_rows (Some (length declared)) count values }

  none_wait : s.waiting ≡ [] → count ≡ 0
  none_wait e = flat_none s.arity count values (sym k.rows_is ∙ e)

  pub stored_declared : (declared : List ParamType) → s.waiting ≡ [] → IsStoredAs (declared_state declared) count size values types
  stored_declared declared e =
      let none = none_wait e in
      let was : length values ≡ 0 * unwrap_or s.arity 0 = k.flat.lengths ∙ ap (λ n. n * unwrap_or s.arity 0) none in
      let now : count * length declared ≡ 0 * length declared = ap (λ n. n * length declared) none in
      let no_row : waiting_rows (Some (length declared)) count values ≡ [] = flat_some (Some (length declared)) count values none in
      record {
        limit_is = k.limit_is;
        rows_is = refl;
        flat = record {
          lengths = omega (arith, was, now);
          none = λ h. cc;
          size_is = k.flat.size_is ∙ ap (sum_by row_size) (sym k.rows_is ∙ e ∙ sym no_row);
        };
        fits = λ n. absurd (n no_row);
        taken = subst (All (TakesTypes (Some declared))) (sym no_row) (All-nil (TakesTypes (Some declared)));
        types_is = k.types_is ∙ no_types s.types_due s.columns s.waiting e ∙ ap (types_so_far (Some declared)) (sym no_row);
      }

  pub state_declared : (declared : List ParamType) → s.waiting ≡ [] → declared_state declared ≡ record s { columns = Some declared; arity = Some (length declared); types_due = true }
  state_declared declared e =
      ap (λ (w : List (List Content)). record s { columns = Some declared; arity = Some (length declared); types_due = true; waiting = w }) (flat_some (Some (length declared)) count values (none_wait e) ∙ sym e)

  -- a builder without rows has no values and no types
  pub stored_no_values : (items : List Value) → values ≡ contents_of items → s.waiting ≡ [] → items ≡ []
  stored_no_values items held e = no_contents items (sym held ∙ stored_values ∙ ap rows_in e)

  pub stored_no_types : s.waiting ≡ [] → types ≡ []
  stored_no_types e = k.types_is ∙ no_types s.types_due s.columns s.waiting e

  -- the rows that wait are counted
  pub stored_count : count ≡ length s.waiting
  stored_count = sym (ap length k.rows_is ∙ length-rows_of (unwrap_or s.arity 0) count values)

  -- lists with capacity for a row are not full
  pub stored_not_full : (values_capacity types_capacity arity held : ℕ) → held ≡ length values → HasRoom (record { state = s; values_capacity = values_capacity; types_capacity = types_capacity }) arity
      → (values_capacity < held + arity) ⊎ ((s.types_due ≡ true) × (types_capacity < arity)) → ⊥
  stored_not_full values_capacity types_capacity arity held long spare (inl less) =
      let all : length values ≡ length (rows_in s.waiting) = ap length stored_values in
      let has = spare.0 in
      omega (arith, has, less, long, all)
  stored_not_full values_capacity types_capacity arity held long spare (inr less) =
      let has = spare.1 less.0 in
      let lacks = less.1 in
      omega (arith, has, lacks)

  pub stored_countable : (values_capacity types_capacity arity : ℕ) → HasRoom (record { state = s; values_capacity = values_capacity; types_capacity = types_capacity }) arity → count + 1 < 2 ^ 64
  stored_countable values_capacity types_capacity arity spare =
      let most = spare.2 in
      omega (arith, most, stored_count)

  pub stored_fits : count ≢ 0 → 7 + 2 * length types + size < 2 ^ 64
  stored_fits n = omega (arith, stored_size n, stored_bound n, k.limit_is)

  -- what holds for every builder
  pub consistent : IsConsistent s
  consistent = record {
    one_length = one_length (unwrap_or s.arity 0) s.waiting stored_equal;
    arity = known s.arity s.waiting k.flat.none (λ c. k.rows_is ∙ ap (λ n. rows_of (unwrap_or s.arity 0) n values) c) stored_equal;
    taken = k.taken;
    fits = λ n. stored_allowed (λ c. n (k.rows_is ∙ ap (λ m. rows_of (unwrap_or s.arity 0) m values) c));
  }
    where
      known : (o : Option ℕ) (rows : List (List Content)) → (o ≡ None → count ≡ 0) → (count ≡ 0 → rows ≡ []) → EqualLengths (unwrap_or o 0) rows → o ≡ arity_after o rows
      known o [] none nil e = refl
      known None (row ∷ rows) none nil e = let f : row ∷ rows ≡ [] = nil (none refl) in cc
      known (Some a) (row ∷ rows) none nil e = ap Some (sym e.0)
