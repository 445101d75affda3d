-- The types of columns, while rows come one after another.
use Rattle.std.proofs.Common.{◌≡◌, ◌≢◌, ◌⊎◌, inl, inr, ℕ, zero, suc, ◌+◌, ◌<◌, Bool, true, false, List, [], ◌∷◌, ◌++◌, length, take, get_or, refl, sym, ◌∙◌, ap, arith, add-one}
use Rattle.std.specs.Prelude.{fold, map, ◌||◌}
use Rattle.std.specs.List.{list_any}
use Rattle.std.proofs.Math.Bool.{or_assoc}
use Rattle.std.proofs.lemmas.List.{ext_get_or}
use Rattle.std.proofs.lemmas.List.FromFn.{get_or-map-range_with_len, length-map-range_with_len}
use Rattle.mysql_values.specs.SentType.{is_uint}
use Rattle.mysql_values.specs.Value.{Content}
use Rattle.mysql_values.specs.Value.{NULL, Int, UInt}
use Rattle.mysql_wire.specs.declared.codes.column_type.ColumnType.TheVariants as column
use Rattle.mysql_values.specs.declared.param_type.ParamType.{ParamType}
use Rattle.mysql_bulk.specs.Row.{EqualLengths}
use Rattle.mysql_values.specs.ParamType.{typed, type_of}
use Rattle.mysql_bulk.specs.DeclaredTypes.{first_not_null, type_from, declared_type, column_values, declared_types, type_with, types_with_row}

-- ---- a column

-- a type that no value changes
stays : (t : ParamType) → ((v : Content) → type_with t v ≡ t) → (values : List Content) → fold type_with t values ≡ t
stays t same [] = refl
stays t same (v ∷ values) = ap (λ (u : ParamType). fold type_with u values) (same v) ∙ stays t same values

numbers_join : (u : Bool) (v : Content) → type_with (typed column.MYSQL_TYPE_LONGLONG u) v ≡ typed column.MYSQL_TYPE_LONGLONG (u || is_uint v)
numbers_join true NULL = refl
numbers_join true v = refl
numbers_join false NULL = refl
numbers_join false v = refl

numbers_stay : (u : Bool) (values : List Content) → fold type_with (typed column.MYSQL_TYPE_LONGLONG u) values ≡ typed column.MYSQL_TYPE_LONGLONG (u || list_any is_uint values)
numbers_stay true [] = refl
numbers_stay false [] = refl
numbers_stay u (v ∷ values) =
    ap (λ (t : ParamType). fold type_with t values) (numbers_join u v) ∙ numbers_stay (u || is_uint v) values
    ∙ ap (typed column.MYSQL_TYPE_LONGLONG) (or_assoc u (is_uint v) (list_any is_uint values))

null_first : (value : Content) (values : List Content) → type_from value values ≡ type_from value (NULL ∷ values)
null_first NULL values = refl
null_first value values = refl

-- the type after all values of a column is its declared type
pub type_of_column : (values : List Content) → fold type_with (type_of NULL) values ≡ declared_type values
type_of_column [] = refl
type_of_column (NULL ∷ values) = type_of_column values ∙ null_first (first_not_null values) values
type_of_column (Int n ∷ values) = numbers_stay false values
type_of_column (UInt n ∷ values) = numbers_stay true values
type_of_column (value ∷ values) = stays (type_of value) (λ v. refl) values

-- ---- the columns of rows

first_next : {V : Type 0} (content : V → Content) (row : List V) (i : ℕ) (d : V) → i < length row
    → types_with_row [] (map content (take (suc i) row)) ≡ types_with_row [] (map content (take i row)) ++ type_of (content (get_or row i d)) ∷ []
first_next content [] i d h = absurd (omega arith)
first_next content (v ∷ row) zero d h = refl
first_next content (v ∷ row) (suc i) d h = ap (λ (l : List ParamType). type_of (content v) ∷ l) (first_next content row i d (omega arith))

-- the types of a first row, one value after another
pub first_more : {V : Type 0} (content : V → Content) (row : List V) (i : ℕ) (d : V) → i < length row
    → types_with_row [] (map content (take (i + 1) row)) ≡ types_with_row [] (map content (take i row)) ++ type_of (content (get_or row i d)) ∷ []
first_more content row i d h = rw add-one (first_next content row i d h)

length-types_with_row : (types : List ParamType) (row : List Content) → length types ≡ length row → length (types_with_row types row) ≡ length row
length-types_with_row [] [] e = refl
length-types_with_row [] (v ∷ row) e = absurd (omega arith)
length-types_with_row (t ∷ types) [] e = absurd (omega arith)
length-types_with_row (t ∷ types) (v ∷ row) e = ap suc (length-types_with_row types row (omega arith))

pub length-first : (row : List Content) → length (types_with_row [] row) ≡ length row
length-first [] = refl
length-first (v ∷ row) = ap suc (length-first row)

-- the number of types is the same after more rows
length-more : (a : ℕ) (types : List ParamType) (rows : List (List Content)) → length types ≡ a → EqualLengths a rows → length (fold types_with_row types rows) ≡ a
length-more a types [] e r = e
length-more a types (row ∷ rows) e r =
    length-more a (types_with_row types row) rows (length-types_with_row types row (e ∙ sym r.0) ∙ r.0) r.1

get-types_with_row : (types : List ParamType) (row : List Content) (i : ℕ) (d : ParamType) → length types ≡ length row → i < length row
    → get_or (types_with_row types row) i d ≡ type_with (get_or types i d) (get_or row i NULL)
get-types_with_row [] [] i d e h = absurd (omega arith)
get-types_with_row [] (v ∷ row) i d e h = absurd (omega arith)
get-types_with_row (t ∷ types) [] i d e h = absurd (omega arith)
get-types_with_row (t ∷ types) (v ∷ row) zero d e h = refl
get-types_with_row (t ∷ types) (v ∷ row) (suc i) d e h = get-types_with_row types row i d (omega arith) (omega arith)

get-first : (row : List Content) (i : ℕ) (d : ParamType) → i < length row → get_or (types_with_row [] row) i d ≡ type_with (type_of NULL) (get_or row i NULL)
get-first [] i d h = absurd (omega arith)
get-first (v ∷ row) zero d h = refl
get-first (v ∷ row) (suc i) d h = get-first row i d (omega arith)

get-more : (a : ℕ) (types : List ParamType) (rows : List (List Content)) (i : ℕ) (d : ParamType) → length types ≡ a → EqualLengths a rows → i < a
    → get_or (fold types_with_row types rows) i d ≡ fold type_with (get_or types i d) (column_values rows i)
get-more a types [] i d e r h = refl
get-more a types (row ∷ rows) i d e r h =
    get-more a (types_with_row types row) rows i d (length-types_with_row types row (e ∙ sym r.0) ∙ r.0) r.1 h
    ∙ ap (λ (t : ParamType). fold type_with t (column_values rows i)) (get-types_with_row types row i d (e ∙ sym r.0) (let l = r.0 in omega arith))

pub length-types : (a : ℕ) (types : List ParamType) (row : List Content) → length types ≡ a → length row ≡ a → length (types_with_row types row) ≡ a
length-types a types row e r = length-types_with_row types row (e ∙ sym r) ∙ r

-- the types so far of all rows are their declared types
pub types_of_rows : (a : ℕ) (row : List Content) (rows : List (List Content)) → EqualLengths a (row ∷ rows) → fold types_with_row [] (row ∷ rows) ≡ declared_types (row ∷ rows)
types_of_rows a row rows r =
    let d = type_of NULL in
    let first : length (types_with_row [] row) ≡ a = length-first row ∙ r.0 in
    let long : length (fold types_with_row (types_with_row [] row) rows) ≡ a = length-more a (types_with_row [] row) rows first r.1 in
    let f : ℕ → ParamType = λ i. declared_type (column_values (row ∷ rows) i) in
    ext_get_or d (fold types_with_row (types_with_row [] row) rows) (declared_types (row ∷ rows)) (long ∙ sym r.0 ∙ sym (length-map-range_with_len f 0 (length row)))
    (λ i h.
    get-more a (types_with_row [] row) rows i d first r.1 (omega (arith, long, h))
    ∙ ap (λ (t : ParamType). fold type_with t (column_values rows i)) (get-first row i d (let l = r.0 in omega (arith, long, h, l)))
    ∙ type_of_column (column_values (row ∷ rows) i)
    ∙ sym (get_or-map-range_with_len f 0 (length row) i i d (let l = r.0 in omega (arith, long, h, l)) (omega arith)))

pub types_all : (a : ℕ) (rows : List (List Content)) → rows ≢ [] → EqualLengths a rows → fold types_with_row [] rows ≡ declared_types rows
types_all a [] n r = absurd (n refl)
types_all a (row ∷ rows) n r = types_of_rows a row rows r

-- before a row of this length: there are as many types, or no row came before
pub types_before : (a : ℕ) (rows : List (List Content)) → EqualLengths a rows → (length (fold types_with_row [] rows) ≡ a) ⊎ (rows ≡ [])
types_before a [] r = inr refl
types_before a (row ∷ rows) r = inl (length-more a (types_with_row [] row) rows (length-first row ∙ r.0) r.1)
