-- Rows of a bulk request that are counted one after another, and the request that is written of them.
use Rattle.std.proofs.Common.{◌≡◌, ◌≢◌, ◌<◌, ◌≤◌, ◌+◌, ◌*◌, ◌++◌, ◌∷◌, ◌-◌, ◌^◌, ◌&&◌, ◌||◌, ℕ, zero, suc, Bool, true, false, List, [], length, map, take, drop, refl, sym, subst, ap, ◌∙◌, arith, inl, inr, min, sum_by}
use Rattle.std.proofs.lemmas.List.{append-nil, drop-drop, length-append, length-map, map-append, nil_from_length}
use Rattle.std.proofs.lemmas.List.Concat.{length-flat_map}
use Rattle.std.proofs.lemmas.List.Folds.{flat_map-map, list_all-append}
use Rattle.std.proofs.lemmas.List.Sums.{sum_by-append}
use Rattle.std.proofs.lemmas.Nat.{mul-le}
use Rattle.std.specs.List.{flat_map, list_all}
use Rattle.std.specs.Prelude.{nat_le, ◌==◌, ◌%◌}
use Rattle.mysql_wire.specs.Writing.{saturated}
use Rattle.mysql_bulk.specs.BulkValue.{Cell, cells_bytes}
use Rattle.mysql_bulk.specs.HeadTypes.{length-param_type}
use Rattle.mysql_bulk.specs.Request.{request_flags}
use Rattle.mysql_bulk.specs.RequestWriter.{WriterState}
use Rattle.mysql_bulk.specs.ValueRows.{rows_bytes}
use Rattle.mysql_bulk.proofs.RequestBytes.{length-head}
use Rattle.mysql_values.specs.ParamType.{param_type}
use Rattle.mysql_packets_c.specs.Bulk.{Counted, IsCounted, NextIsFull, RefusesAny, WhyRefused, WritesBuilt, cells_of, declared_type, declared_types, first_rows, head_for, head_with, may_ask, request_with, row_at, row_bytes, rows_from, rows_of, takes_row, takes_rows, writer_for}
use Rattle.mysql_packets_c.specs.Output.{PutsUnlessTooLong}
use Rattle.mysql_packets_c.specs.declared.bulk.BulkCall.{BulkCall}
use Rattle.mysql_packets_c.specs.declared.rows.CColumnType.{CColumnType}
use Rattle.mysql_packets_c.specs.declared.value.CValue.{CValue}

-- ---- places

pub next-place : (columns n : ℕ) → (n + 1) * columns ≡ n * columns + columns
next-place columns n = omega arith

-- the next row lies within the values
pub row-within : (columns rows n len : ℕ) → rows * columns ≤ len → n < rows → n * columns + columns ≤ len
row-within columns rows n len le h =
    let most : (n + 1) * columns ≤ rows * columns = mul-le (n + 1) columns rows columns (omega (arith, h)) (omega arith) in
    omega (arith, most, le, next-place columns n)

pub row-inside : (columns rows n len : ℕ) → len ≡ rows * columns → n < rows → n * columns + columns ≤ len
row-inside columns rows n len e h = row-within columns rows n len (omega (arith, e)) h

-- such a call has columns
third : (a b c d : Bool) → (a && (b && (c && d))) ≡ true → c ≡ true
third true true true d h = refl
third true true false d h = absurd cc
third true false c d h = absurd cc
third false b c d h = absurd cc

pub some-columns : (flags max columns values : ℕ) → may_ask flags max columns values ≡ true → 1 ≤ columns
some-columns flags max zero values h =
    let none : nat_le 1 0 ≡ true = third (flags == 0 || flags == 64) (nat_le 4 max) (nat_le 1 0) (values % 0 == 0) h in
    absurd cc
some-columns flags max (suc columns) values h = omega arith

-- ---- rows

pub length-rows_of : (columns n : ℕ) (values : List CValue) → length (rows_of columns n values) ≡ n
length-rows_of columns zero values = refl
length-rows_of columns (suc n) values = ap suc (length-rows_of columns n (drop columns values))

pub rows-next : (columns n : ℕ) (values : List CValue) → rows_of columns (n + 1) values ≡ rows_of columns n values ++ row_at columns n values ∷ []
rows-next columns n values = let one : n + 1 ≡ suc n = omega arith in ap (λ k. rows_of columns k values) one ∙ next n values
  where
    next : (n : ℕ) (values : List CValue) → rows_of columns (suc n) values ≡ rows_of columns n values ++ row_at columns n values ∷ []
    next zero values = let e : 0 * columns ≡ 0 = omega arith in rw e refl
    next (suc n) values =
        let further : columns + n * columns ≡ suc n * columns = omega arith in
        let place : drop (n * columns) (drop columns values) ≡ drop (suc n * columns) values = drop-drop (n * columns) columns values ∙ ap (λ k. drop k values) further in
        ap (λ (rows : List (List CValue)). take columns values ∷ rows) (next n (drop columns values) ∙ ap (λ (vs : List CValue). rows_of columns n (drop columns values) ++ take columns vs ∷ []) place)

pub first-next : (columns n : ℕ) (values : List CValue) → first_rows columns (n + 1) values ≡ first_rows columns n values ++ cells_of (row_at columns n values) ∷ []
first-next columns n values = ap (map cells_of) (rows-next columns n values) ∙ map-append cells_of (rows_of columns n values) (row_at columns n values ∷ [])

taken-next : (types : List CColumnType) (n : ℕ) (values : List CValue) → takes_rows types n values ≡ true → takes_row types (row_at (length types) n values) ≡ true → takes_rows types (n + 1) values ≡ true
taken-next types n values before row =
    ap (list_all (takes_row types)) (rows-next (length types) n values)
    ∙ list_all-append (takes_row types) (rows_of (length types) n values) (row_at (length types) n values ∷ [])
    ∙ ap (λ (b : Bool). b && (takes_row types (row_at (length types) n values) && true)) before
    ∙ ap (λ (b : Bool). b && true) row

-- the rows from one on are that row and those after it
pub rows-from-next : (types : List CColumnType) (count n : ℕ) (values : List CValue) → n < count → rows_from types count n values ≡ row_bytes types (row_at (length types) n values) ++ rows_from types count (n + 1) values
rows-from-next types count n values lt =
    let one : count - n ≡ suc (count - (n + 1)) = omega arith in
    let place : drop (length types) (drop (n * length types) values) ≡ drop ((n + 1) * length types) values =
    drop-drop (length types) (n * length types) values ∙ ap (λ k. drop k values) (sym (next-place (length types) n)) in
    ap (λ k. rows_bytes (declared_types types) (first_rows (length types) k (drop (n * length types) values))) one
    ∙ ap (λ (vs : List CValue). row_bytes types (row_at (length types) n values) ++ rows_bytes (declared_types types) (first_rows (length types) (count - (n + 1)) vs)) place

pub rows-from-none : (types : List CColumnType) (count n : ℕ) (values : List CValue) → count ≤ n → rows_from types count n values ≡ []
rows-from-none types count n values le = let none : count - n ≡ 0 = omega arith in rw none refl

pub rows-all : (types : List CColumnType) (count : ℕ) (values : List CValue) → rows_from types count 0 values ≡ rows_bytes (declared_types types) (first_rows (length types) count values)
rows-all types count values =
    let none : 0 * length types ≡ 0 = omega arith in
    let whole : count - 0 ≡ count = omega arith in
    rw (none, whole) refl

-- ---- the head

-- the types of the columns, as they are written
pub types-sent : (columns : List CColumnType) → flat_map (λ column. param_type.bytes (declared_type column)) columns ≡ flat_map param_type.bytes (declared_types columns)
types-sent columns = sym (flat_map-map param_type.bytes declared_type columns)

pub head-size : (statement_id flags : ℕ) (types : List CColumnType) → length (head_for statement_id flags types) ≡ 7 + 2 * length types
head-size statement_id flags types =
    omega (arith, length-head (record { stmt_id = statement_id; bulk_flags = request_flags true (flags == 64); types = declared_types types }), length-map types declared_type)

-- ---- one row more

-- sums that saturate at 2^64 - 1
pub past-limit : (limit len more longer size : ℕ) → more ≡ saturated size → longer ≡ min (len + more) (2 ^ 64 - 1) → limit < longer → limit < len + size
unfolding saturated
past-limit limit len more longer size e f h = omega (arith, e, f, h)

pub within-limit : (limit len more longer size : ℕ) → more ≡ saturated size → longer ≡ min (len + more) (2 ^ 64 - 1) → longer ≤ limit → limit < 2 ^ 64 - 1 → longer ≡ len + size
unfolding saturated
within-limit limit len more longer size e f h top = omega (arith, e, f, h, top)

-- the bytes of rows and of one more
pub size-more : (types : List CColumnType) (rows : List (List Cell)) (row : List CValue)
    → sum_by (λ cells. length (cells_bytes (declared_types types) cells)) (rows ++ cells_of row ∷ []) ≡ sum_by (λ cells. length (cells_bytes (declared_types types) cells)) rows + length (row_bytes types row)
size-more types rows row = omega (arith, sum_by-append (λ cells. length (cells_bytes (declared_types types) cells)) rows (cells_of row ∷ []))

module _ (call : BulkCall) (values : List CValue) where
  abbrev types : List CColumnType
  types = call.columns.now

  abbrev row : ℕ → List CValue
  row n = row_at (length call.columns.now) n values

  pub none-counted : (len : ℕ) → len ≡ 7 + 2 * length call.columns.now → IsCounted call 0 len values
  none-counted len e = record {
    rows = record { within = omega arith; taken = refl; fit = λ some. absurd (some refl) };
    size = omega (arith, e, length-map call.columns.now declared_type);
  }

  -- it fits
  pub row-counted : (rows n len longer : ℕ) → length values ≡ rows * length call.columns.now → n < rows → IsCounted call n len values → takes_row call.columns.now (row n) ≡ true
      → longer ≡ len + length (row_bytes call.columns.now (row n)) → longer ≤ call.max_allowed_packet - 4 → IsCounted call (n + 1) longer values
  row-counted rows n len longer whole lt h taken is within =
      let next = ap (sum_by (λ cells. length (cells_bytes (declared_types types) cells))) (first-next (length types) n values) ∙ size-more types (first_rows (length types) n values) (row n) in
      record {
        rows = record {
          within = omega (arith, row-inside (length types) rows n (length values) whole lt, next-place (length types) n);
          taken = taken-next types n values h.rows.taken taken;
          fit = λ some. (omega (arith, is, h.size, next, within), tt);
        };
        size = omega (arith, is, h.size, next);
      }

  -- it does not fit
  row-past : (rows n len : ℕ) → n < rows → IsCounted call n len values → takes_row call.columns.now (row n) ≡ true
      → call.max_allowed_packet - 4 < len + length (row_bytes call.columns.now (row n)) → NextIsFull (writer_for call) call.columns.now n values
  row-past rows n len lt h taken past = record {
    taken = taken;
    full = λ fits. absurd (omega (arith, fits.0, past, h.size, size-more types (first_rows (length types) n values) (row n)));
  }

  pub row-full : (rows n len : ℕ) → n < rows → IsCounted call n len values → takes_row call.columns.now (row n) ≡ true
      → call.max_allowed_packet - 4 < len + length (row_bytes call.columns.now (row n)) → n ≢ 0 → Counted call n len values
  row-full rows n len lt h taken past some = record { counted = h; full = inr (row-past rows n len lt h taken past); some = λ none. absurd (some none) }

  refused : (rows n len code : ℕ) → length values ≡ rows * length call.columns.now → n < rows → IsCounted call n len values → WhyRefused (writer_for call) call.columns.now n values code
      → RefusesAny (writer_for call) call.columns.now values code
  refused rows n len code whole lt h why = record { count = n; rows = h.rows; there = row-inside (length types) rows n (length values) whole lt; why = why }

  pub row-too-large : (rows n len : ℕ) → length values ≡ rows * length call.columns.now → n < rows → IsCounted call n len values → takes_row call.columns.now (row n) ≡ true
      → call.max_allowed_packet - 4 < len + length (row_bytes call.columns.now (row n)) → n ≡ 0 → RefusesAny (writer_for call) call.columns.now values 6
  row-too-large rows n len whole lt h taken past first = refused rows n len 6 whole lt h (inr (refl, first, row-past rows n len lt h taken past))

  pub row-refused : (rows n len : ℕ) → length values ≡ rows * length call.columns.now → n < rows → IsCounted call n len values → takes_row call.columns.now (row n) ≡ false
      → RefusesAny (writer_for call) call.columns.now values 3
  row-refused rows n len whole lt h none = refused rows n len 3 whole lt h (inl (refl, none))

  pub all-counted : (rows len : ℕ) → length values ≡ rows * length call.columns.now → IsCounted call rows len values → Counted call rows len values
  all-counted rows len whole h = record {
    counted = h;
    full = inl (sym whole);
    some = λ none. let nothing : 0 * length types ≡ 0 = omega arith in nil_from_length values (whole ∙ ap (λ k. k * length types) none ∙ nothing);
  }

  -- ---- the request

  pub counted-bytes : (n len : ℕ) → IsCounted call n len values → len ≡ length (request_with call n values)
  counted-bytes n len h =
      omega (
        arith,
        h.size,
        length-append (head_with call) (rows_from types n 0 values),
        head-size call.statement_id call.flags types,
        ap length (rows-all types n values),
        length-flat_map (cells_bytes (declared_types types)) (first_rows (length types) n values),
        length-map types declared_type,
      )

  some-rows : (n : ℕ) → 1 ≤ n → first_rows (length call.columns.now) n values ≢ []
  some-rows n some none =
      let e : n ≡ 0 = sym (length-map (rows_of (length types) n values) cells_of ∙ length-rows_of (length types) n values) ∙ ap length none in
      omega (arith, e, some)

  pub rows-written : (n len code : ℕ) (old new : List ℕ) (written rows : ℕ) → IsCounted call n len values → 1 ≤ n → call.max_allowed_packet < 2 ^ 64
      → PutsUnlessTooLong (request_with call n values) code old new written → (code ≡ 0 → rows ≡ n) → (code ≢ 0 → rows ≡ 0)
      → WritesBuilt (writer_for call) (first_rows (length call.columns.now) n values) n code old new written rows
  rows-written n len code old new written rows h some limit puts done small =
      let fits = h.rows.fit (some-rows n some) in
      let short : length (request_with call n values) < 2 ^ 64 - 1 = omega (arith, fits.0, h.size, counted-bytes n len h, limit) in
      record {
        request = request_with call n values;
        built = (some-rows n some, ap (λ (l : List ℕ). head_with call ++ l) (rows-all types n values), fits);
        bytes = puts.puts (λ e. omega (arith, (puts.long e).long, short));
        done = done;
        small = small;
      }

-- no row is counted if there is none
pub none-first : (call : BulkCall) (n len : ℕ) (values : List CValue) → IsCounted call n len values → 1 ≤ length call.columns.now → values ≡ [] → n ≡ 0
none-first call n len values h some none = no-rows n (subst (λ (vs : List CValue). n * length call.columns.now ≤ length vs) none h.rows.within)
  where
    no-rows : (n : ℕ) → n * length call.columns.now ≤ 0 → n ≡ 0
    no-rows zero h = refl
    no-rows (suc n) h = let e : suc n * length call.columns.now ≡ length call.columns.now + n * length call.columns.now = omega arith in absurd (omega (arith, h, e, some))

-- no row is refused if there is none
pub none-there : (w : WriterState) (types : List CColumnType) (values : List CValue) (code : ℕ) → RefusesAny w types values code → 1 ≤ length types → values ≡ [] → ⊥
none-there w types values code refused some none =
    let there : refused.count * length types + length types ≤ 0 = subst (λ (vs : List CValue). refused.count * length types + length types ≤ length vs) none refused.there in
    omega (arith, there, some)

pub ruleset row_places = (row-within, row-inside)

pub ruleset type_sizes = (length-param_type)

pub ruleset heads = (types-sent, append-nil)

pub ruleset bulk_rows = (row-within, row-inside, none-counted, all-counted, none-first, none-there, some-columns, counted-bytes, rows-written, rows-from-none)
