-- A text row is read back.
use Rattle.std.proofs.Common.{◌≡◌, ℕ, List, [], ◌∷◌, ◌++◌, ◌^◌, length, Option, Some, None, Ok, false, refl, arith, append_assoc, inl, inr}
use Rattle.std.specs.List.{All}
use Rattle.std.proofs.lemmas.Bool.{cases_lt, lt-ltb, le-ltb, ne_eqb}
use Rattle.std.proofs.lemmas.List.Elements.{All-head, All-tail}
use Rattle.mysql_wire.specs.Again.{lenenc_string-again}
use Rattle.mysql_wire.specs.BytesAgain.{bytes-again}
use Rattle.mysql_wire.specs.LenEnc.{lenenc_bytes, lenenc_string_bytes}
use Rattle.mysql_wire.specs.Seq.{counted}
use Rattle.mysql_wire.specs.Spelling.{IsSpelling}
use Rattle.mysql_values.specs.ValueDeserializer.{starts_null, text_value}
use Rattle.mysql_stmt.specs.RowView.{text_row_of}
use Rattle.mysql_stmt.specs.TextRow.{text_cell_bytes, text_row_bytes, text_content, text_contents, TextCellFits}

-- no length begins like NULL
length-begins : (n : ℕ) (after : List ℕ) → starts_null (lenenc_bytes n ++ after) ≡ false
unfolding lenenc_bytes
length-begins n after =
    elim (cases_lt n 251) [
      | inl one ↦ rw (lt-ltb _ _ one) (ne_eqb n 251 (λ e. omega (arith, one, e)))
      | inr le1 ↦ elim (cases_lt n (2 ^ 16)) [
        | inl two ↦ rw (le-ltb _ _ le1, lt-ltb _ _ two) refl
        | inr le2 ↦ elim (cases_lt n (2 ^ 24)) [
          | inl three ↦ rw (le-ltb _ _ le1, le-ltb _ _ le2, lt-ltb _ _ three) refl
          | inr le3 ↦ rw (le-ltb _ _ le1, le-ltb _ _ le2, le-ltb _ _ le3) refl
        ]
      ]
    ]

string-begins : (content rest : List ℕ) → starts_null (lenenc_string_bytes content ++ rest) ≡ false
unfolding lenenc_string_bytes
string-begins content rest = rw append_assoc (length-begins (length content) (content ++ rest))

cell-again : (cell : Option (List ℕ)) → TextCellFits cell → IsSpelling text_value (text_content cell) (text_cell_bytes cell)
unfolding text_value
cell-again None fits rest = (0xfb ∷ [], refl, bytes-again 1 (0xfb ∷ []) refl rest)
cell-again (Some content) fits rest = rw (string-begins content rest) (content, refl, lenenc_string-again content fits rest)

pub text_row-again : (cells : List (Option (List ℕ))) → All TextCellFits cells → IsSpelling (text_row_of (length cells)) (text_contents cells) (text_row_bytes cells)
unfolding counted
text_row-again [] fits rest = (refl, refl)
text_row-again (cell ∷ cells) fits rest =
    let mid = text_row_bytes cells ++ rest in
    rw append_assoc (Some (text_content cell), mid, (text_content cell, refl, cell-again cell (All-head TextCellFits cell cells fits) mid), (text_contents cells, rest, text_row-again cells (All-tail TextCellFits cell cells fits) rest, (refl, refl)))

pub text_row-read : (cells : List (Option (List ℕ))) (rest : List ℕ) → All TextCellFits cells → (text_row_of (length cells)).reads (text_row_bytes cells ++ rest) ≡ Ok (text_contents cells, rest)
text_row-read cells rest fits =
    (text_row_of (length cells)).only (text_contents cells) (text_row_bytes cells ++ rest) rest (text_row-again cells fits rest)

pub text_row-spelled : (cells : List (Option (List ℕ))) (rest : List ℕ) → All TextCellFits cells → (text_row_of (length cells)).Spells (text_contents cells) (text_row_bytes cells ++ rest) rest
text_row-spelled cells rest fits = text_row-again cells fits rest

pub ruleset text_rows = (text_row-spelled, text_row-read)
