-- The bytes of a request, and their number.
use Rattle.std.proofs.Common.{◌≡◌, ℕ, ◌+◌, ◌*◌, Bool, true, false, if◌then◌else◌, List, [], ◌∷◌, ◌++◌, length, map, refl, ◌∙◌, ap, arith, length-append, sum_by}
use Rattle.std.specs.List.{flat_map}
use Rattle.std.proofs.lemmas.List.Sums.{sum_by-append}
use Rattle.mysql_wire.specs.MariadbBulkIndicator.{mariadb_bulk_indicator_code}
use Rattle.mysql_wire.specs.Writing.{le_bytes}
use Rattle.mysql_cuts.specs.Cut.{rows_in, request_size}
use Rattle.mysql_values.proofs.Sizes.{length-bin}
use Rattle.mysql_values.specs.declared.param_type.ParamType.{ParamType}
use Rattle.mysql_values.specs.declared.value.Value.{Value}
use Rattle.mysql_values.specs.Value.{Content, bin, bin_size, content_of, contents_of}
use Rattle.mysql_bulk.specs.Builder.{BuilderState, packing, IsRequest}
use Rattle.mysql_bulk.specs.ColumnTypes.{types_of_rows}
use Rattle.mysql_bulk.proofs.ColumnTypes.{length-types_of_rows}
use Rattle.mysql_bulk.specs.Head.{BulkHead, head}
use Rattle.mysql_bulk.specs.HeadTypes.{types_bytes, length-types}
use Rattle.mysql_bulk.specs.ParamValue.{ParamValue, with_indicator, contents, param_value_bytes, values_bytes}
use Rattle.mysql_bulk.specs.Request.{BulkRequest, head_of, request_bytes, written_size}
use Rattle.mysql_bulk.specs.Row.{param_size, row_size, values_size, first_length}

pub length-values : (values : List ParamValue) → length (values_bytes values) ≡ row_size (contents values)
unfolding le_bytes
length-values [] = refl
length-values (v ∷ values) =
    omega (
      arith,
      length-append (param_value_bytes v) (values_bytes values),
      length-values values,
      length-bin v.content,
      length-append (le_bytes 1 (mariadb_bulk_indicator_code v.indicator)) (bin v.content),
      sum_by-append param_size (v.content ∷ []) (contents values),
    )

-- a given number of bytes without the indicators, which take one each
pub length-values_alone : (values : List Value) → length (flat_map (λ (value : Value). bin (content_of value)) values) + length values ≡ row_size (contents_of values)
length-values_alone [] = refl
length-values_alone (v ∷ values) =
    omega (
      arith,
      length-append (bin (content_of v)) (flat_map (λ (value : Value). bin (content_of value)) values),
      length-values_alone values,
      length-bin (content_of v),
      sum_by-append param_size (content_of v ∷ []) (contents_of values),
    )

pub length-head : (h : BulkHead) → length (head.bytes h) ≡ 7 + 2 * length h.types
unfolding head le_bytes
length-head h = omega (arith, length-types h.types, length-append (types_bytes h.types) [])

-- a request is written as a given number of bytes
pub length-request : (r : BulkRequest) → length (request_bytes r) ≡ written_size r
length-request r =
    omega (arith, length-head (head_of r), length-values r.values, length-append (head.bytes (head_of r)) (values_bytes r.values ++ []), length-append (values_bytes r.values) [])

pub ruleset request_lengths = (length-types, length-values)

-- the size of a row's values is that of their contents
pub size_of_contents : {V : Type 0} (content : V → Content) (row : List V) → values_size content row ≡ row_size (map content row)
size_of_contents content [] = refl
size_of_contents {V} content (v ∷ row) =
    omega (
      arith,
      size_of_contents content row,
      sum_by-append (λ (value : V). 1 + bin_size (content value)) (v ∷ []) row,
      sum_by-append param_size (content v ∷ []) (map content row),
    )

-- ---- a request of rows

pub contents_indicators : (values : List Content) → contents (map with_indicator values) ≡ values
contents_indicators [] = refl
contents_indicators (v ∷ values) = ap (λ (l : List Content). v ∷ l) (contents_indicators values)

pub size-rows_in : (rows : List (List Content)) → row_size (rows_in rows) ≡ sum_by row_size rows
size-rows_in [] = refl
size-rows_in (row ∷ rows) = omega (arith, sum_by-append param_size row (rows_in rows), size-rows_in rows, sum_by-append row_size (row ∷ []) rows)

-- two bytes for each type that is sent
pub length-sent : (sent : Bool) (n : ℕ) (types : List ParamType) → length types ≡ n → 2 * length (if sent then types else []) ≡ (if sent then 2 * n else 0)
length-sent true n types e = ap (λ m. 2 * m) e
length-sent false n types e = refl

-- the request of rows is written as the bytes of rows of their sizes
pub size_of_rows : (s : BuilderState) (rows : List (List Content)) (request : BulkRequest) → IsRequest s rows request → length (request_bytes request) ≡ request_size (packing s (first_length rows)) s.types_due rows
size_of_rows s rows request i =
    let types : 2 * length request.types ≡ (if s.types_due then 2 * first_length rows else 0) = ap (λ (l : List ParamType). 2 * length l) i.types ∙ length-sent s.types_due (first_length rows) (types_of_rows s.columns rows) (length-types_of_rows s.columns rows i.taken) in
    let values : row_size (contents request.values) ≡ sum_by row_size rows = ap (λ (l : List ParamValue). row_size (contents l)) i.values ∙ ap row_size (contents_indicators (rows_in rows)) ∙ size-rows_in rows in
    omega (arith, length-request request, types, values)
