-- What a request writer has written for rows of values, DEFAULT and IGNORE.
use Rattle.std.proofs.Common.{◌≡◌, ◌≢◌, ℕ, ◌+◌, true, List, [], ◌∷◌, ◌++◌, Ok, Err, refl, sym, ◌∙◌, arith, length-append}
use Rattle.std.proofs.lemmas.List.Elements.{All-nil, All-push}
use Rattle.std.proofs.lemmas.List.Sums.{sum_by-append}
use Rattle.mysql_bulk.specs.declared.error.BulkRowError.TheVariants as refused
use Rattle.mysql_bulk.specs.BulkValue.{Cell, cells_bytes, cells_size}
use Rattle.mysql_bulk.specs.RequestWriter.{WriterState, head_bytes, with_row}
use Rattle.mysql_bulk.proofs.WrittenRows.{first_written, further_written, none_counted, some_counted}
use Rattle.mysql_bulk.specs.ValueRows.{AddsCells, CellsFit, HoldsCells, IsRequestOf, Spells, request_of_cells, so_far}

-- ---- a row is offered

abbrev pub EachFits : WriterState → List Cell → Type 0
EachFits w row = (rows : List (List Cell)) → HoldsCells w rows → CellsFit w rows row

pub no_memory : (w : WriterState) (row : List Cell) → Spells w.types row → EachFits w row → AddsCells w row (Err refused.Memory) w
no_memory w row spells fits = λ rows h. (spells, fits rows h, refl)

-- its settings are unchanged, and so are the bytes of its requests
same : (w : WriterState) (row : List Cell) (size capacity : ℕ) (before : List ℕ) (rows : List (List Cell)) → so_far (with_row w before size capacity (cells_bytes w.types row)) (rows ++ row ∷ []) ≡ so_far w (rows ++ row ∷ [])
same w row size capacity before [] = refl
same w row size capacity before (r ∷ rows) = refl

-- it is written after these bytes
wrote : (w : WriterState) (row : List Cell) (size capacity : ℕ) (before : List ℕ) → Spells w.types row → EachFits w row → size ≡ w.size + cells_size w.types row
    → ((rows : List (List Cell)) → HoldsCells w rows → so_far w (rows ++ row ∷ []) ≡ before ++ cells_bytes w.types row)
    → AddsCells w row (Ok true) (with_row w before size capacity (cells_bytes w.types row))
wrote w row size capacity before spells fits total bytes = λ rows h. (
  spells,
  fits rows h,
  (
    record {
      count = omega (arith, h.count, length-append rows (row ∷ []));
      size = omega (arith, total, h.size, sum_by-append (cells_size w.types) rows (row ∷ []));
      bytes = sym (same w row size capacity before rows ∙ bytes rows h);
      taken = All-push (Spells w.types) rows row h.taken spells;
      fits = λ some. fits rows h;
    },
    refl,
  ),
)

pub wrote_first : (w : WriterState) (row : List Cell) (size capacity : ℕ) → Spells w.types row → EachFits w row → size ≡ w.size + cells_size w.types row → w.count ≡ 0
    → AddsCells w row (Ok true) (with_row w (w.bytes ++ head_bytes w) size capacity (cells_bytes w.types row))
wrote_first w row size capacity spells fits total empty = wrote w row size capacity (w.bytes ++ head_bytes w) spells fits total (λ rows h. first_written (head_bytes w) (cells_bytes w.types) rows row w.bytes (none_counted rows h.count empty) h.bytes)

pub wrote_further : (w : WriterState) (row : List Cell) (size capacity : ℕ) → Spells w.types row → EachFits w row → size ≡ w.size + cells_size w.types row → w.count ≢ 0
    → AddsCells w row (Ok true) (with_row w w.bytes size capacity (cells_bytes w.types row))
wrote_further w row size capacity spells fits total some =
    wrote w row size capacity w.bytes spells fits total (λ rows h. further_written (head_bytes w) (cells_bytes w.types) rows row w.bytes (some_counted rows h.count some) h.bytes)

-- a writer without waiting rows
pub holds_none : (w : WriterState) → w.count ≡ 0 → w.size ≡ 0 → w.bytes ≡ [] → HoldsCells w []
holds_none w count size bytes = record { count = count; size = size; bytes = bytes; taken = All-nil (Spells w.types); fits = λ some. absurd (some refl) }

-- the bytes are those of the request of the rows
pub so_far_is : (w : WriterState) (rows : List (List Cell)) → rows ≢ [] → so_far w rows ≡ request_of_cells w w.types_due rows
so_far_is w [] some = absurd (some refl)
so_far_is w (row ∷ rows) some = refl

pub holds_request : (w : WriterState) (rows : List (List Cell)) → HoldsCells w rows → rows ≢ [] → IsRequestOf w rows w.bytes
holds_request w rows h some = (some, h.bytes ∙ so_far_is w rows some, h.fits some)
