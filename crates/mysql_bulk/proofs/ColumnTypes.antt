-- Rows that declared types can encode, and the types of their request.
use Rattle.std.proofs.Common.{◌≡◌, ◌≢◌, ◌⊎◌, inl, inr, ℕ, suc, Bool, true, false, ◌&&◌, List, [], ◌∷◌, ◌++◌, length, Option, Some, None, refl, sym, ◌∙◌, ap, arith, ◌+◌, ◌<◌, drop, drop-cons, get_or, add-one, ◌≤◌}
use Rattle.std.proofs.lemmas.Grind.{common_steps}
use Rattle.std.specs.Prelude.{All, map, IsTrue, not, position}
use Rattle.std.specs.List.{position_or_len}
use Rattle.std.proofs.lemmas.List.Sums.{fails_before_first}
use Rattle.std.proofs.lemmas.Bool.{and_parts, false_from_ne_true, not-false}
use Rattle.std.proofs.lemmas.List.Elements.{All-head}
use Rattle.std.proofs.lemmas.List.FromFn.{length-map-range_with_len}
use Rattle.std.proofs.lemmas.List.Sums.{fold-append}
use Rattle.std.proofs.lemmas.List.{length-map}
use Rattle.mysql_values.specs.declared.param_type.ParamType.{ParamType}
use Rattle.mysql_values.specs.Value.{Content}
use Rattle.mysql_bulk.specs.ColumnTypes.{is_declarable, can_encode, spell_row, TakesTypes, types_of_rows, types_so_far, types_after_row}
use Rattle.mysql_bulk.specs.DeclaredTypes.{declared_type, column_values, types_with_row}
use Rattle.mysql_bulk.specs.Row.{first_length, EqualLengths}
use Rattle.mysql_bulk.proofs.DeclaredTypes.{types_all}

-- a row has as many values as the types that can encode it
pub spelled_long : (types : List ParamType) (row : List Content) → spell_row types row ≡ true → length row ≡ length types
spelled_long [] [] e = refl
spelled_long (t ∷ types) (value ∷ row) e = ap suc (spelled_long types row (and_parts (can_encode t value) (spell_row types row) e).1)
spelled_long types row e = let f : false ≡ true = e in cc

pub not_as_long : {V : Type 0} (content : V → Content) (types : List ParamType) (row : List V) → length types ≢ length row → spell_row types (map content row) ≡ false
not_as_long content types row n = false_from_ne_true (spell_row types (map content row)) (λ e. n (sym (spelled_long types (map content row) e) ∙ length-map row content))

spell_from : {V : Type 0} (content : V → Content) (types : List ParamType) (row : List V) (i : ℕ) (d : ParamType) (e : V) → length types ≡ length row → i < length row
    → spell_row (drop i types) (map content (drop i row)) ≡ (can_encode (get_or types i d) (content (get_or row i e)) && spell_row (drop (i + 1) types) (map content (drop (i + 1) row)))
spell_from content types row i d e same lt = rw (add-one, drop-cons types i d (omega arith), drop-cons row i e lt) refl

-- one more value can be encoded
pub spell_next : {V : Type 0} (content : V → Content) (types : List ParamType) (row : List V) (i : ℕ) (d : ParamType) (value : V) (b : Bool) → length types ≡ length row → i < length row → b ≡ can_encode (get_or types i d) (content value)
    → value ≡ get_or row i value → b ≡ true → spell_row (drop i types) (map content (drop i row)) ≡ spell_row (drop (i + 1) types) (map content (drop (i + 1) row))
spell_next {V} content types row i d value b same lt is at spelled =
    spell_from content types row i d value same lt
    ∙ ap (λ (x : Bool). x && spell_row (drop (i + 1) types) (map content (drop (i + 1) row))) (ap (λ (v : V). can_encode (get_or types i d) (content v)) (sym at) ∙ sym is ∙ spelled)

-- a row that declared types can encode has as many values as there are types
pub taken_long : (columns : Option (List ParamType)) (types : List ParamType) (row : List Content) → columns ≡ Some types → TakesTypes columns row → length row ≡ length types
taken_long None types row e t = cc
taken_long (Some declared) types row e t = let s : declared ≡ types = cc in spelled_long declared row t ∙ ap length s

pub first_is_long : (types : List ParamType) (rows : List (List Content)) → rows ≢ [] → All (TakesTypes (Some types)) rows → length types ≡ first_length rows
first_is_long types [] some taken = absurd (some refl)
first_is_long types (row ∷ rows) some taken = sym (spelled_long types row (All-head (TakesTypes (Some types)) row rows taken))

-- a request of rows has as many types as the first row has values
pub length-types_of_rows : (columns : Option (List ParamType)) (rows : List (List Content)) → All (TakesTypes columns) rows → length (types_of_rows columns rows) ≡ first_length rows
length-types_of_rows None rows a = length-map-range_with_len (λ i. declared_type (column_values rows i)) 0 (first_length rows)
length-types_of_rows (Some types) [] a = refl
length-types_of_rows (Some types) (row ∷ rows) a = sym (spelled_long types row (All-head (TakesTypes (Some types)) row rows a))

-- if no type is refused, each is declarable
pub none_refused : (types : List ParamType) → position (λ kind. not (is_declarable kind)) types ≡ None → All (λ kind. IsTrue (is_declarable kind)) types
none_refused types e = λ k d lt.
    let refused : ParamType → Bool = λ kind. not (is_declarable kind) in
    let past : length types ≤ position_or_len refused types = grind (arith, common_steps) in
    not-false (is_declarable (get_or types k d)) (fails_before_first refused types k d (omega (arith, past, lt)))

-- ---- the types so far

-- of all rows they are those of the request
pub types_so_far_all : (columns : Option (List ParamType)) (a : ℕ) (rows : List (List Content)) → rows ≢ [] → EqualLengths a rows → types_so_far columns rows ≡ types_of_rows columns rows
types_so_far_all None a rows n e = types_all a rows n e
types_so_far_all (Some types) a [] n e = refl
types_so_far_all (Some types) a (row ∷ rows) n e = refl

-- after one more row
pub types_so_far_more : (columns : Option (List ParamType)) (rows : List (List Content)) (row : List Content) → types_after_row columns (types_so_far columns rows) row ≡ types_so_far columns (rows ++ row ∷ [])
types_so_far_more None rows row = sym (fold-append types_with_row [] rows (row ∷ []))
types_so_far_more (Some types) [] row = refl
types_so_far_more (Some types) (r ∷ rows) row = refl

-- the declared types, or none before the first row
pub types_so_far_declared : (types : List ParamType) (rows : List (List Content)) → (types_so_far (Some types) rows ≡ types) ⊎ (types_so_far (Some types) rows ≡ [])
types_so_far_declared types [] = inr refl
types_so_far_declared types (row ∷ rows) = inl refl
