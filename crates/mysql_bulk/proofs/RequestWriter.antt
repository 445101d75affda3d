-- What a request writer has written, and the builder with the same rows.
use Rattle.std.proofs.Common.{◌≡◌, ◌≢◌, ℕ, ◌+◌, true, List, [], ◌∷◌, ◌++◌, length, map, Some, Ok, Err, IsTrue, refl, sym, ◌∙◌, ap, subst, arith, length-append}
use Rattle.std.specs.List.{flat_map}
use Rattle.std.proofs.lemmas.Grind.{flat_map-append}
use Rattle.std.proofs.lemmas.List.{append-nil, length-map, map-append}
use Rattle.std.proofs.lemmas.List.Elements.{All-nil, All-push}
use Rattle.std.proofs.lemmas.List.Sums.{sum_by-append}
use Rattle.mysql_cuts.specs.Cut.{rows_in}
use Rattle.mysql_values.specs.declared.value_ref.ValueRef.{ValueRef}
use Rattle.mysql_values.specs.Value.{Content}
use Rattle.mysql_values.specs.ValueRef.{ref_content}
use Rattle.mysql_bulk.specs.declared.error.BulkRowError.TheVariants as refused
use Rattle.mysql_bulk.specs.declared.error.BulkExecuteRequestError.TheVariants as request_refused
use Rattle.mysql_bulk.specs.Builder.{BuilderState, RowFits, IsRequest, BuildsRequest, after_request}
use Rattle.mysql_bulk.specs.ColumnTypes.{TakesTypes, spell_row}
use Rattle.mysql_bulk.specs.ParamValue.{cell, with_indicator, param_value_bytes, values_bytes}
use Rattle.mysql_bulk.specs.Request.{request_bytes}
use Rattle.mysql_bulk.specs.RequestWriter.{WriterState, as_builder, request_of, bytes_so_far, Holds, IsBuilt, AddsAsBuilder, FinishesAsBuilder, cells_bytes, head_bytes, with_row}
use Rattle.mysql_bulk.proofs.WrittenRows.{written, first_written, further_written, none_counted, some_counted}
use Rattle.mysql_bulk.specs.Row.{row_size}
use Rattle.mysql_bulk.proofs.ColumnTypes.{first_is_long}
use Rattle.mysql_bulk.proofs.RequestBytes.{length-values, contents_indicators, size_of_rows}

-- ---- the bytes of a row

-- those of its values, each after its indicator
pub cells_of : (row : List ValueRef) → cells_bytes row ≡ values_bytes (map with_indicator (map ref_content row))
cells_of [] = refl
cells_of (v ∷ row) = ap (λ (l : List ℕ). cell (ref_content v) ++ l) (cells_of row)

pub length-cells : (row : List ValueRef) → length (cells_bytes row) ≡ row_size (map ref_content row)
length-cells row =
    ap length (cells_of row)
    ∙ length-values (map with_indicator (map ref_content row))
    ∙ ap row_size (contents_indicators (map ref_content row))

-- ---- the bytes of a request, row by row

abbrev row_bytes : List Content → List ℕ
row_bytes row = values_bytes (map with_indicator row)

values_by_row : (rows : List (List Content)) → values_bytes (map with_indicator (rows_in rows)) ≡ flat_map row_bytes rows
values_by_row [] = refl
values_by_row (row ∷ rows) =
    ap values_bytes (map-append with_indicator row (rows_in rows)) ∙ flat_map-append param_value_bytes (map with_indicator row) (map with_indicator (rows_in rows)) ∙ ap (λ (l : List ℕ). row_bytes row ++ l) (values_by_row rows)

bytes_by_row : (w : WriterState) (rows : List (List Content)) → bytes_so_far (as_builder w rows) rows ≡ written (head_bytes w) row_bytes rows
bytes_by_row w [] = refl
bytes_by_row w (row ∷ rows) = ap (λ (l : List ℕ). head_bytes w ++ l) (append-nil (values_bytes (map with_indicator (rows_in (row ∷ rows)))) ∙ values_by_row (row ∷ rows))

-- ---- the request

bytes_are : (s : BuilderState) (rows : List (List Content)) → rows ≢ [] → bytes_so_far s rows ≡ request_bytes (request_of s rows)
bytes_are s [] some = absurd (some refl)
bytes_are s (row ∷ rows) some = refl

-- the bytes written are the request that the builder builds
pub holds_request : (w : WriterState) (rows : List (List Content)) → Holds w rows → rows ≢ [] → IsBuilt (as_builder w rows) w.bytes
holds_request w rows h some =
    let s = as_builder w rows in
    let request = request_of s rows in
    let theirs : IsRequest s rows request = record { id = refl; flags = refl; types = refl; values = refl; taken = h.taken } in
    let builds : BuildsRequest s request (after_request s) = record {
      some = some;
      is_theirs = theirs;
      size = size_of_rows s rows request theirs;
      fits = rw (first_is_long w.types rows some h.taken) at (h.fits some);
      left = refl;
    } in
    (request, builds, h.bytes ∙ bytes_are s rows some)

-- a writer without waiting rows
pub holds_none : (w : WriterState) → w.count ≡ 0 → w.size ≡ 0 → w.bytes ≡ [] → Holds w []
holds_none w count size bytes = record { count = count; size = size; bytes = bytes; taken = All-nil (TakesTypes (Some w.types)); fits = λ some. absurd (some refl) }

-- ---- results

abbrev pub Spells : WriterState → List ValueRef → Type 0
Spells w row = IsTrue (spell_row w.types (map ref_content row))

abbrev pub EachFits : WriterState → List ValueRef → Type 0
EachFits w row = (rows : List (List Content)) → Holds w rows → RowFits (as_builder w rows) (map ref_content row)

pub no_memory : (w : WriterState) (row : List ValueRef) → length row ≡ length w.types → Spells w row → EachFits w row → AddsAsBuilder w (map ref_content row) (Err refused.Memory) w
no_memory w row long spells fits = λ rows h. (rows, h, ((length-map row ref_content ∙ long, spells), fits rows h, refl))

-- it is written after these bytes, and the builder accepts it too
wrote : (w : WriterState) (row : List ValueRef) (size capacity : ℕ) (before : List ℕ) → length row ≡ length w.types → Spells w row → EachFits w row → size ≡ w.size + row_size (map ref_content row)
    → ((rows : List (List Content)) → Holds w rows → bytes_so_far (as_builder w (rows ++ map ref_content row ∷ [])) (rows ++ map ref_content row ∷ []) ≡ before ++ cells_bytes row)
    → AddsAsBuilder w (map ref_content row) (Ok true) (with_row w before size capacity (cells_bytes row))
wrote w row size capacity before long spells fits total bytes = λ rows h.
    let values = map ref_content row in
    let as_long : length values ≡ length w.types = length-map row ref_content ∙ long in (
      rows ++ values ∷ [],
      record {
        count = omega (arith, h.count, length-append rows (values ∷ []));
        size = omega (arith, total, h.size, sum_by-append row_size rows (values ∷ []));
        bytes = sym (bytes rows h);
        taken = All-push (TakesTypes (Some w.types)) rows values h.taken spells;
        fits = λ some. rw as_long at (fits rows h);
      },
      ((as_long, spells), fits rows h, ap (λ (n : ℕ). record (as_builder w (rows ++ values ∷ [])) { arity = Some n }) (sym as_long)),
    )

pub wrote_first : (w : WriterState) (row : List ValueRef) (size capacity : ℕ) → length row ≡ length w.types → Spells w row → EachFits w row → size ≡ w.size + row_size (map ref_content row) → w.count ≡ 0
    → AddsAsBuilder w (map ref_content row) (Ok true) (with_row w (w.bytes ++ head_bytes w) size capacity (cells_bytes row))
wrote_first w row size capacity long spells fits total empty = wrote w row size capacity (w.bytes ++ head_bytes w) long spells fits total (λ rows h.
    bytes_by_row w (rows ++ map ref_content row ∷ []) ∙ first_written (head_bytes w) row_bytes rows (map ref_content row) w.bytes (none_counted rows h.count empty) (h.bytes ∙ bytes_by_row w rows)
    ∙ ap (λ (l : List ℕ). (w.bytes ++ head_bytes w) ++ l) (sym (cells_of row)))

pub wrote_further : (w : WriterState) (row : List ValueRef) (size capacity : ℕ) → length row ≡ length w.types → Spells w row → EachFits w row → size ≡ w.size + row_size (map ref_content row) → w.count ≢ 0
    → AddsAsBuilder w (map ref_content row) (Ok true) (with_row w w.bytes size capacity (cells_bytes row))
wrote_further w row size capacity long spells fits total some =
    wrote w row size capacity w.bytes long spells fits total (λ rows h.
    bytes_by_row w (rows ++ map ref_content row ∷ []) ∙ further_written (head_bytes w) row_bytes rows (map ref_content row) w.bytes (some_counted rows h.count some) (h.bytes ∙ bytes_by_row w rows)
    ∙ ap (λ (l : List ℕ). w.bytes ++ l) (sym (cells_of row)))

-- ---- after the request

pub nothing_finished : (w : WriterState) → w.count ≡ 0 → FinishesAsBuilder w w
nothing_finished w empty = λ rows h.
    let e = none_counted rows h.count empty in
    (Err request_refused.NoParams, subst (Holds w) e h, (e, ap (as_builder w) (sym e)))

pub request_finished : (w : WriterState) (bytes : List ℕ) (capacity : ℕ) → w.count ≢ 0 → bytes ≡ []
    → FinishesAsBuilder w (record w { types_due = w.rule.types_always; count = 0; size = 0; bytes = bytes; capacity = capacity })
request_finished w bytes capacity some none = λ rows h.
    let built = holds_request w rows h (some_counted rows h.count some) in
    let left = record w { types_due = w.rule.types_always; count = 0; size = 0; bytes = bytes; capacity = capacity } in
    (Ok built.0, holds_none left refl refl none, built.1)
