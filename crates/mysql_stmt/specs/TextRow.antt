-- Writing text rows from their cells.
use Rattle.std.specs.Prelude.{ℕ, ◌<◌, ◌^◌, List, [], ◌∷◌, length, map, Option, Some, None}
use Rattle.std.specs.List.{flat_map}
use Rattle.mysql_wire.specs.LenEnc.{lenenc_string_bytes}
use Rattle.mysql_values.specs.Value.{Content, NULL, Bytes}

-- fb for NULL, otherwise a length-encoded string
abbrev pub text_cell_bytes : Option (List ℕ) → List ℕ
text_cell_bytes None = 0xfb ∷ []
text_cell_bytes (Some content) = lenenc_string_bytes content

-- the cells, one after another
abbrev pub text_row_bytes : List (Option (List ℕ)) → List ℕ
text_row_bytes cells = flat_map text_cell_bytes cells

-- the value that a cell is read as
abbrev pub text_content : Option (List ℕ) → Content
text_content None = NULL
text_content (Some content) = Bytes content

-- the row that the cells are read as
abbrev pub text_contents : List (Option (List ℕ)) → List (Option Content)
text_contents cells = map (λ cell. Some (text_content cell)) cells

-- the content's length fits in a usize
abbrev pub TextCellFits : Option (List ℕ) → Type 0
TextCellFits None = Unit {0}
TextCellFits (Some content) = length content < 2 ^ 64
