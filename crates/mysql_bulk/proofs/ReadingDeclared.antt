-- Rows under declared types are read back as their values under these types.
use Rattle.std.proofs.Common.{◌≡◌, ◌≢◌, ℕ, ◌<◌, ◌^◌, Bool, true, false, ◌&&◌, ◌||◌, not, if◌then◌else◌, pos, negsuc, List, [], ◌∷◌, ◌++◌, length, map, Some, refl, sym, ◌∙◌, ap, subst, arith}
use Rattle.std.specs.Prelude.{nat_lt}
use Rattle.std.specs.Int.{is_negative}
use Rattle.std.specs.List.{All, flat_map}
use Rattle.std.proofs.lemmas.Bool.{and_parts, ltb-true}
use Rattle.std.proofs.lemmas.List.Elements.{All-head, All-tail, All-nil, All-cons}
use Rattle.std.proofs.lemmas.List.{length-map, nil_from_length}
use Rattle.mysql_wire.specs.FlagMasks.{UNSIGNED_FLAG}
use Rattle.mysql_wire.specs.Flags.{has}
use Rattle.mysql_cuts.specs.Cut.{rows_in}
use Rattle.mysql_values.specs.declared.param_type.ParamType.{ParamType}
use Rattle.mysql_values.specs.ReadingBack.{Agrees, IsInRange}
use Rattle.mysql_values.specs.Value.{Content, NULL, Int, UInt}
use Rattle.mysql_values.specs.ValueKind.{kind_of, is_longlong}
use Rattle.mysql_values.proofs.ValueAgain.{agrees-by_kind, agrees-by_type, longlong-kind}
use Rattle.mysql_bulk.specs.Builder.{BuilderState, IsRequest}
use Rattle.mysql_bulk.specs.ColumnTypes.{is_unsigned, can_encode, spell_row, TakesTypes, types_of_rows}
use Rattle.mysql_bulk.specs.Head.{sends_types, value_columns, column_of_type}
use Rattle.mysql_bulk.specs.ParamValue.{with_indicator, param_value_bytes, values_bytes}
use Rattle.mysql_bulk.specs.ReadingBack.{AgreesWith, RowsFit, as_signed, row_under, IsDeclaredPart}
use Rattle.mysql_bulk.specs.Request.{BulkRequest, head_of, request_bytes}
use Rattle.mysql_bulk.specs.Head.{head}
use Rattle.mysql_bulk.specs.ReadRows.{bulk_rows}
use Rattle.mysql_bulk.specs.Row.{first_length}
use Rattle.mysql_bulk.proofs.ColumnTypes.{first_is_long}
use Rattle.mysql_bulk.proofs.ReadingBack.{row_bytes, bytes_of_rows, has_types, flags_small, sent_types, request_again}

-- ---- a value

-- a number that fits a signed type
small-UInt : (u : Bool) (n : ℕ) → u ≡ false → (u || nat_lt n (2 ^ 63)) ≡ true → n < 2 ^ 63
small-UInt true n e h = let f : true ≡ false = e in cc
small-UInt false n e h = ltb-true n (2 ^ 63) h

not-negative : (u : Bool) (n : ℕ) → u ≡ true → not (u && is_negative (negsuc n)) ≡ true → ⊥
not-negative true n e h = let f : false ≡ true = h in cc
not-negative false n e h = let f : false ≡ true = e in cc

agrees_as : (t : ParamType) (u : Bool) (v : Content) → is_unsigned t ≡ u → can_encode t v ≡ true → IsInRange v → Agrees t.column_type u (as_signed u v)
agrees_as t u NULL e s r = tt
agrees_as t true (Int (pos n)) e s r =
    let integers = longlong-kind (kind_of t.column_type) (and_parts (is_longlong (kind_of t.column_type)) (not (is_unsigned t && is_negative (pos n))) s).0 in
    let small : n < 2 ^ 63 = r.sfits in
    agrees-by_type t.column_type true (UInt n) (integers, refl, omega (arith, small))
agrees_as t false (Int (pos n)) e s r =
    agrees-by_type t.column_type false (Int (pos n)) (longlong-kind (kind_of t.column_type) (and_parts (is_longlong (kind_of t.column_type)) (not (is_unsigned t && is_negative (pos n))) s).0, refl, r)
agrees_as t true (Int (negsuc n)) e s r =
    absurd (not-negative (is_unsigned t) n e (and_parts (is_longlong (kind_of t.column_type)) (not (is_unsigned t && is_negative (negsuc n))) s).1)
agrees_as t false (Int (negsuc n)) e s r =
    agrees-by_type t.column_type false (Int (negsuc n)) (longlong-kind (kind_of t.column_type) (and_parts (is_longlong (kind_of t.column_type)) (not (is_unsigned t && is_negative (negsuc n))) s).0, refl, r)
agrees_as t true (UInt n) e s r =
    agrees-by_type t.column_type true (UInt n) (longlong-kind (kind_of t.column_type) (and_parts (is_longlong (kind_of t.column_type)) (is_unsigned t || nat_lt n (2 ^ 63)) s).0, refl, r)
agrees_as t false (UInt n) e s r =
    let parts = and_parts (is_longlong (kind_of t.column_type)) (is_unsigned t || nat_lt n (2 ^ 63)) s in
    agrees-by_type t.column_type false (Int (pos n)) (longlong-kind (kind_of t.column_type) parts.0, refl, record { sfits = small-UInt (is_unsigned t) n e parts.1 })
agrees_as t u v e s r = agrees-by_kind t.column_type u v s r

-- its bytes are those under its own type
same_bytes : (u : Bool) (v : Content) → param_value_bytes (with_indicator v) ≡ param_value_bytes (with_indicator (as_signed u v))
same_bytes true (Int (pos n)) = refl
same_bytes false (Int (pos n)) = refl
same_bytes u (Int (negsuc n)) = refl
same_bytes true (UInt n) = refl
same_bytes false (UInt n) = refl
same_bytes u v = refl

-- ---- a row

-- a column is unsigned exactly if its type is
same_sign : (b : Bool) → has (if b then UNSIGNED_FLAG else 0) UNSIGNED_FLAG ≡ b
same_sign true = refl
same_sign false = refl

row_agrees : (types : List ParamType) (row : List Content) → spell_row types row ≡ true → All IsInRange row → AgreesWith (map column_of_type types) (row_under types row)
row_agrees [] [] s r = tt
row_agrees (t ∷ types) (v ∷ row) s r =
    let parts = and_parts (can_encode t v) (spell_row types row) s in (
      rw (same_sign (is_unsigned t)) (agrees_as t (is_unsigned t) v refl parts.0 (All-head IsInRange v row r)),
      row_agrees types row parts.1 (All-tail IsInRange v row r),
    )
row_agrees types row s r = let f : false ≡ true = s in cc

row_same_bytes : (types : List ParamType) (row : List Content) → row_bytes row ≡ row_bytes (row_under types row)
row_same_bytes [] row = refl
row_same_bytes (t ∷ types) [] = refl
row_same_bytes (t ∷ types) (v ∷ row) = λ i. same_bytes (is_unsigned t) v i ++ row_same_bytes types row i

-- ---- the rows of a request

rows_agree : (types : List ParamType) (rows : List (List Content)) → All (TakesTypes (Some types)) rows → All (λ row. All IsInRange row) rows → All (AgreesWith (map column_of_type types)) (map (row_under types) rows)
rows_agree types [] t r = All-nil (AgreesWith (map column_of_type types))
rows_agree types (row ∷ rows) t r =
    let InRange : List Content → Type 0 = λ row. All IsInRange row in
    All-cons (AgreesWith (map column_of_type types)) (row_under types row) (map (row_under types) rows)
    (row_agrees types row (All-head (TakesTypes (Some types)) row rows t) (All-head InRange row rows r))
    (rows_agree types rows (All-tail (TakesTypes (Some types)) row rows t) (All-tail InRange row rows r))

rows_same_bytes : (types : List ParamType) (rows : List (List Content)) → flat_map row_bytes rows ≡ flat_map row_bytes (map (row_under types) rows)
rows_same_bytes types [] = refl
rows_same_bytes types (row ∷ rows) = λ i. row_same_bytes types row i ++ rows_same_bytes types rows i

-- the columns of the request, or those that are passed
columns_are : (b : Bool) (types : List ParamType) (rows : List (List Content)) → rows ≢ []
    → (if b then map column_of_type (if b then types_of_rows (Some types) rows else []) else map column_of_type types) ≡ map column_of_type types
columns_are true types [] n = absurd (n refl)
columns_are true types (row ∷ rows) n = refl
columns_are false types rows n = refl

pub declared_again : (s : BuilderState) (types : List ParamType) (rows : List (List Content)) (request : BulkRequest) → IsRequest s rows request → IsDeclaredPart s types rows
    → (bulk_rows (map column_of_type types)).Spells (map (row_under types) rows) (request_bytes request) []
declared_again s types rows request r p =
    let b = s.types_due in
    let columns = map column_of_type types in
    let under = map (row_under types) rows in
    let taken : All (TakesTypes (Some types)) rows = rw p.columns at r.taken in
    let types_are : request.types ≡ (if b then types_of_rows (Some types) rows else []) = r.types ∙ ap (λ c. if b then types_of_rows c rows else []) p.columns in
    let sends : sends_types request.bulk_flags ≡ b = ap sends_types r.flags ∙ has_types b s.results in
    let read : BulkRequest = record { stmt_id = request.stmt_id; bulk_flags = request.bulk_flags; types = request.types; values = map with_indicator (rows_in under) } in
    let values : values_bytes request.values ≡ values_bytes (map with_indicator (rows_in under)) =
    ap values_bytes r.values ∙ sym (bytes_of_rows rows) ∙ rows_same_bytes types rows ∙ bytes_of_rows under in
    let bytes : request_bytes read ≡ request_bytes request = ap (λ (l : List ℕ). head.bytes (head_of request) ++ (l ++ [])) (sym values) in
    let long : length columns ≡ first_length rows = length-map types column_of_type ∙ first_is_long types rows p.some_row taken in
    let same : value_columns columns (head_of request) ≡ columns =
    ap (λ c. if c then map column_of_type request.types else columns) sends ∙ ap (λ types. if b then map column_of_type types else columns) types_are ∙ columns_are b types rows p.some_row in
    let fits : RowsFit columns read under = record {
      stmt_id = rw r.id p.stmt_id;
      bulk_flags = rw r.flags (flags_small b s.results);
      some = λ none. p.some (nil_from_length types (sym (length-map types column_of_type) ∙ ap length none));
      types = rw (sends, types_are) (sent_types b (Some types) rows (length columns) long taken p.declarable);
      values = refl;
      agree = rw same (rows_agree types rows taken p.in_range);
    } in
    subst (λ bytes. (bulk_rows columns).Spells under bytes []) bytes (request_again columns read under fits)
