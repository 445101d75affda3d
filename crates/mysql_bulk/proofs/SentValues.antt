-- Values after their indicators: those that were read, or the values' own.
use Rattle.std.proofs.Common.{◌≡◌, ℕ, zero, suc, ◌+◌, ◌<◌, ◌≤◌, Bool, true, ◌&&◌, List, [], ◌∷◌, ◌++◌, length, map, take, drop, Option, Some, unwrap_or, get_or, refl, sym, ◌∙◌, ap, subst, arith, add-one, append_assoc}
use Rattle.std.proofs.lemmas.Grind.{flat_map-append}
use Rattle.std.proofs.lemmas.List.{append-nil, length-drop, length-map, map-append, nil_from_length, take_more}
use Rattle.std.proofs.lemmas.List.Folds.{length-flat_map-take}
use Rattle.std.proofs.lemmas.Option.{get_or_from_slice_get, slice_get_within}
use Rattle.std.specs.Cmp.Lexicographic.{pointwise}
use Rattle.std.specs.List.{flat_map}
use Rattle.std.specs.Prelude.{slice_get}
use Rattle.mysql_wire.specs.declared.codes.mariadb_bulk_indicator.MariadbBulkIndicator.{MariadbBulkIndicator}
use Rattle.mysql_values.specs.declared.value.Value.{Value}
use Rattle.mysql_values.specs.Value.{Content, content_of, contents_of}
use Rattle.mysql_bulk.specs.ParamValue.{ParamValue, indicator_of, with_indicator, contents, cell, param_value_bytes, values_bytes}
use Rattle.mysql_bulk.specs.SentValues.{sent_values}

-- nothing is sent only if there are no values, whatever was read
pub none_sent : (indicators : List MariadbBulkIndicator) (values : List Value) → sent_values indicators (contents_of values) ≡ [] → values ≡ []
none_sent indicators [] e = refl
none_sent [] (v ∷ values) e = absurd cc
none_sent (i ∷ indicators) (v ∷ values) e = absurd cc

-- the same values with other indicators that mean the same
pub sent_copies : (a b : List MariadbBulkIndicator) (held given copies : List Value) → contents_of copies ≡ contents_of held → given ≡ held
    → sent_values a (contents_of given) ≡ sent_values b (contents_of given) → sent_values a (contents_of copies) ≡ sent_values b (contents_of held)
sent_copies a b held given copies same is e = ap (λ v. sent_values a v) same ∙ subst (λ (l : List Value). sent_values a (contents_of l) ≡ sent_values b (contents_of l)) is e

-- where none was read
pub own_indicators : (values : List Content) → sent_values [] values ≡ map with_indicator values
own_indicators [] = refl
own_indicators (v ∷ values) = ap (λ (l : List ParamValue). with_indicator v ∷ l) (own_indicators values)

own_cells : (values : List Value) → values_bytes (sent_values [] (contents_of values)) ≡ flat_map (λ v. cell (content_of v)) values
own_cells [] = refl
own_cells (v ∷ values) = ap (λ (l : List ℕ). cell (content_of v) ++ l) (own_cells values)

pub cells_where_none : (indicators : List MariadbBulkIndicator) (values : List Value) → indicators ≡ []
    → values_bytes (sent_values indicators (contents_of values)) ≡ flat_map (λ v. cell (content_of v)) values
cells_where_none indicators values none = rw none (own_cells values)

pub built_values : (indicators : List MariadbBulkIndicator) (held values : List Content) → indicators ≡ [] → held ≡ values → sent_values indicators held ≡ map with_indicator values
built_values indicators held values none same = rw (none, same) (own_indicators values)

pub contents_of_sent : (indicators : List MariadbBulkIndicator) (values : List Content) → contents (sent_values indicators values) ≡ values
contents_of_sent indicators [] = refl
contents_of_sent [] (v ∷ values) = ap (λ (l : List Content). v ∷ l) (contents_of_sent [] values)
contents_of_sent (i ∷ indicators) (v ∷ values) = ap (λ (l : List Content). v ∷ l) (contents_of_sent indicators values)

pub length_of_sent : (indicators : List MariadbBulkIndicator) (values : List Content) → length (sent_values indicators values) ≡ length values
length_of_sent indicators [] = refl
length_of_sent [] (v ∷ values) = ap suc (length_of_sent [] values)
length_of_sent (i ∷ indicators) (v ∷ values) = ap suc (length_of_sent indicators values)

-- one more value, with the indicator that was read
pub sent_more : (indicators : List MariadbBulkIndicator) (values : List Content) (i : MariadbBulkIndicator) (v : Content) → length indicators ≡ length values
    → sent_values (indicators ++ i ∷ []) (values ++ v ∷ []) ≡ sent_values indicators values ++ record { indicator = i; content = v } ∷ []
sent_more [] [] i v e = refl
sent_more [] (x ∷ values) i v e = absurd (omega (arith, e))
sent_more (j ∷ indicators) [] i v e = absurd (omega (arith, e))
sent_more (j ∷ indicators) (x ∷ values) i v e = ap (λ (l : List ParamValue). record { indicator = j; content = x } ∷ l) (sent_more indicators values i v (omega (arith, e)))

-- the value at a place, after the indicator that was read there or its own
pub sent_read : (indicators : List MariadbBulkIndicator) (values : List Value) (place : ℕ) (i : MariadbBulkIndicator) (v : Value) → place < length indicators → place < length values
    → slice_get (sent_values indicators (contents_of values)) place ≡ Some (record { indicator = get_or indicators place i; content = content_of (get_or values place v) })
sent_read indicators [] place i v p q = absurd (omega (arith, q))
sent_read [] (x ∷ values) place i v p q = absurd (omega (arith, p))
sent_read (j ∷ indicators) (x ∷ values) zero i v p q = refl
sent_read (j ∷ indicators) (x ∷ values) (suc place) i v p q = sent_read indicators values place i v (omega (arith, p)) (omega (arith, q))

pub sent_own : (indicators : List MariadbBulkIndicator) (values : List Value) (place : ℕ) (v : Value) → length indicators ≤ place → place < length values
    → slice_get (sent_values indicators (contents_of values)) place ≡ Some (record { indicator = indicator_of (content_of (get_or values place v)); content = content_of (get_or values place v) })
sent_own indicators [] place v p q = absurd (omega (arith, q))
sent_own [] (x ∷ values) zero v p q = refl
sent_own [] (x ∷ values) (suc place) v p q = sent_own [] values place v (omega arith) (omega (arith, q))
sent_own (j ∷ indicators) (x ∷ values) zero v p q = absurd (omega (arith, p))
sent_own (j ∷ indicators) (x ∷ values) (suc place) v p q = sent_own indicators values place v (omega (arith, p)) (omega (arith, q))

pub ruleset sent_places = (sent_read, sent_own)

-- ---- one value after another

pub sent_length : (indicators : List MariadbBulkIndicator) (values : List Value) → length (sent_values indicators (contents_of values)) ≡ length values
sent_length indicators values = length_of_sent indicators (contents_of values) ∙ length-map values content_of

pub bytes_more : (xs : List ParamValue) (place : ℕ) (x : ParamValue) → slice_get xs place ≡ Some x → values_bytes (take (place + 1) xs) ≡ values_bytes (take place xs) ++ param_value_bytes x
bytes_more xs place x e =
    ap values_bytes (take_more xs place x (slice_get_within xs place x e) ∙ ap (λ (y : ParamValue). take place xs ++ y ∷ []) (get_or_from_slice_get xs place x x e))
    ∙ flat_map-append param_value_bytes (take place xs) (x ∷ [])
    ∙ ap (λ (l : List ℕ). values_bytes (take place xs) ++ l) (append-nil (param_value_bytes x))

pub bytes_fit : (xs : List ParamValue) (place : ℕ) (x : ParamValue) → slice_get xs place ≡ Some x → length (values_bytes (take place xs)) + length (param_value_bytes x) ≤ length (values_bytes xs)
bytes_fit xs place x e =
    let P : ParamValue → Type 0 = λ y. length (values_bytes (take place xs)) + length (param_value_bytes y) ≤ length (values_bytes xs) in
    subst P (get_or_from_slice_get xs place x x e) (length-flat_map-take param_value_bytes xs place x (slice_get_within xs place x e))

pub drop_at : (xs : List ParamValue) (place : ℕ) (x : ParamValue) → slice_get xs place ≡ Some x → drop place xs ≡ x ∷ drop (place + 1) xs
drop_at xs place x e = rw add-one (at xs place e)
  where
    at : (xs : List ParamValue) (place : ℕ) → slice_get xs place ≡ Some x → drop place xs ≡ x ∷ drop (suc place) xs
    at [] place e = cc
    at (y ∷ xs) zero e = ap (λ (o : Option ParamValue). unwrap_or o y ∷ xs) e
    at (y ∷ xs) (suc place) e = at xs place e

-- the values before a place are equal, and so is the claim about the others
pub equal_more : (E : ParamValue → ParamValue → Bool) (xs ys : List ParamValue) (place : ℕ) (x y : ParamValue) → slice_get xs place ≡ Some x → slice_get ys place ≡ Some y
    → pointwise E (drop place xs) (drop place ys) ≡ (E x y && pointwise E (drop (place + 1) xs) (drop (place + 1) ys))
equal_more E xs ys place x y d e = λ i. pointwise E (drop_at xs place x d i) (drop_at ys place y e i)

-- past the last place
pub equal_past : (E : ParamValue → ParamValue → Bool) (xs ys : List ParamValue) (place : ℕ) → length xs ≤ place → length ys ≤ place → pointwise E (drop place xs) (drop place ys) ≡ true
equal_past E xs ys place p q =
    let none : drop place xs ≡ [] = nil_from_length (drop place xs) (omega (arith, p, length-drop place xs)) in
    let nor : drop place ys ≡ [] = nil_from_length (drop place ys) (omega (arith, q, length-drop place ys)) in
    λ i. pointwise E (none i) (nor i)

-- one more value was split from its indicator
pub parted_more : (is js : List MariadbBulkIndicator) (vs ws : List Value) (x : ParamValue) (i : MariadbBulkIndicator) (v : Value) (items rest all : List ParamValue) → length is ≡ length vs
    → js ≡ is ++ i ∷ [] → ws ≡ vs ++ v ∷ [] → i ≡ x.indicator → content_of v ≡ x.content → items ≡ x ∷ rest → sent_values is (contents_of vs) ++ items ≡ all → sent_values js (contents_of ws) ++ rest ≡ all
parted_more is js vs ws x i v items rest all long p q a b e h =
    let same : record { indicator = i; content = content_of v } ≡ x = λ k. record { indicator = a k; content = b k } in
    rw (p, q)
    (ap (λ (l : List Content). sent_values (is ++ i ∷ []) l ++ rest) (map-append content_of vs (v ∷ []))
    ∙ ap (λ (l : List ParamValue). l ++ rest) (sent_more is (contents_of vs) i (content_of v) (long ∙ sym (length-map vs content_of)))
    ∙ ap (λ (y : ParamValue). (sent_values is (contents_of vs) ++ y ∷ []) ++ rest) same
    ∙ append_assoc (sent_values is (contents_of vs)) (x ∷ []) rest
    ∙ ap (λ (l : List ParamValue). sent_values is (contents_of vs) ++ l) (sym e)
    ∙ h)
