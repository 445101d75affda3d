-- The bytes written for the caller's values.
use Rattle.std.proofs.Common.{if◌then◌else◌, ◌≡◌, ◌<◌, ◌≤◌, ◌-◌, ◌^◌, ◌++◌, ◌∷◌, ℕ, List, [], Bool, true, false, ◌&&◌, IsTrue, length, drop, nat_lt, refl, sym, subst, ap, ◌∙◌, arith}
use Rattle.std.proofs.lemmas.Bool.{ltb-false, ltb-true}
use Rattle.std.specs.List.{flat_map, list_all}
use Rattle.std.proofs.lemmas.List.Folds.{flat_map-map}
use Rattle.mysql_stmt.specs.ExecuteParam.{Sent, contents, value_of}
use Rattle.mysql_stmt.specs.TextRow.{text_cell_bytes, text_row_bytes}
use Rattle.mysql_wire.specs.Writing.{saturated}
use Rattle.mysql_values.specs.ParamValue.{Plain, WithOffset}
use Rattle.mysql_values.specs.Value.{Content, NULL}
use Rattle.mysql_packets_c.specs.Execution.{param}
use Rattle.mysql_packets_c.specs.Output.{PutsSuch, PutsSuchUnlessTooLong, PutsUnlessTooLong}
use Rattle.mysql_packets_c.specs.Rows.{cell_of, cells_of}
use Rattle.mysql_packets_c.specs.Value.{date_with_offset_of, is_offset_date, is_value, value_content, values_contents}
use Rattle.mysql_packets_c.specs.declared.value.CValue.{CValue}

abbrev pub cells_bytes : List CValue → List ℕ
cells_bytes values = flat_map (λ v. text_cell_bytes (cell_of v)) values

-- the cells of a text row are those of its values
pub text-cells : (values : List CValue) → flat_map (λ v. text_cell_bytes (cell_of v)) values ≡ text_row_bytes (cells_of values)
text-cells values = sym (flat_map-map text_cell_bytes cell_of values)

pub ruleset text_rows = (text-cells)

both-parts : (a b : Bool) → IsTrue (a && b) → IsTrue a × IsTrue b
both-parts true b h = (refl, h)
both-parts false b h = let f : IsTrue false = h in absurd cc

-- what is sent for a value is its content
pub values-sent : (values : List CValue) → IsTrue (list_all is_value values) → contents param values ≡ values_contents values
values-sent [] h = refl
values-sent (v ∷ values) h =
    let both = both-parts (is_value v) (list_all is_value values) h in
    ap (λ (b : Bool). value_of (Sent (if b then Plain (value_content v) else if is_offset_date v then WithOffset (date_with_offset_of v) else Plain NULL)) ∷ contents param values) both.0 ∙ ap (λ (l : List Content). value_content v ∷ l) (values-sent values both.1)

-- the result of a writer, by the count
pub answered : (Such : List ℕ → Type 0) (count code : ℕ) (old new : List ℕ) (written : ℕ)
    → (count ≤ length old → (bytes : List ℕ) × Such bytes × (new ≡ bytes ++ drop count old))
    → (length old < count → new ≡ old)
    → (count ≤ length old → code ≡ 0)
    → (length old < count → code ≡ 5)
    → written ≡ count
    → PutsSuch Such count code old new written
answered Such count code old new written put kept fits small counted = record {
  fits = λ h. (fits h, put h);
  small = λ h. (small h, kept h);
  is_count = counted;
}

-- the same for a count that saturates at 2^64 - 1
pub answered-unless : (Such : List ℕ → Type 0) (count len code : ℕ) (old new : List ℕ) (written : ℕ)
    → len ≡ saturated count
    → length old < 2 ^ 63
    → (len ≤ length old → (bytes : List ℕ) × Such bytes × (new ≡ bytes ++ drop len old))
    → (length old < len → new ≡ old)
    → (len < 2 ^ 64 - 1 → len ≤ length old → code ≡ 0)
    → (len < 2 ^ 64 - 1 → length old < len → code ≡ 5)
    → (len < 2 ^ 64 - 1 → written ≡ len)
    → (len ≡ 2 ^ 64 - 1 → (code ≡ 4) × (written ≡ 0))
    → PutsSuchUnlessTooLong Such count code old new written
unfolding saturated
answered-unless Such count len code old new written is below put kept fits small counted long = record {
  puts = λ few.
      let whole : len ≡ count = omega (arith, is, few) in
      let short : len < 2 ^ 64 - 1 = omega (arith, whole, few) in
      subst (λ (n : ℕ). PutsSuch Such n code old new written) whole (answered Such len code old new written put kept (fits short) (small short) (counted short));
  long = λ many.
      let top : len ≡ 2 ^ 64 - 1 = omega (arith, is, many) in
      let past : length old < len = omega (arith, top, below) in
      ((long top).0, kept past, (long top).1);
}

-- bytes whose number saturates at 2^64 - 1
pub puts-counted : (bytes : List ℕ) (len code : ℕ) (old new : List ℕ) (written : ℕ)
    → len ≡ saturated (length bytes)
    → length old < 2 ^ 63
    → (len ≤ length old → new ≡ bytes ++ drop len old)
    → (length old < len → new ≡ old)
    → (len < 2 ^ 64 - 1 → len ≤ length old → code ≡ 0)
    → (len < 2 ^ 64 - 1 → length old < len → code ≡ 5)
    → (len < 2 ^ 64 - 1 → written ≡ len)
    → (len ≡ 2 ^ 64 - 1 → (code ≡ 4) × (written ≡ 0))
    → PutsUnlessTooLong bytes code old new written
unfolding saturated
puts-counted bytes len code old new written is below put kept fits small counted long = pick (nat_lt len (2 ^ 64 - 1)) refl
  where
    no-four : len < 2 ^ 64 - 1 → code ≡ 4 → (b : Bool) → nat_lt (length old) len ≡ b → ⊥
    no-four few four true e = let five = small few (ltb-true (length old) len e) in omega (arith, five, four)
    no-four few four false e = let zero = fits few (ltb-false (length old) len e) in omega (arith, zero, four)

    pick : (b : Bool) → nat_lt len (2 ^ 64 - 1) ≡ b → PutsUnlessTooLong bytes code old new written
    pick true e =
        let few : len < 2 ^ 64 - 1 = ltb-true len (2 ^ 64 - 1) e in
        let whole : len ≡ length bytes = omega (arith, is, few) in
        record {
          puts = λ other. record {
            fits = λ h. let n : len ≤ length old = omega (arith, whole, h) in (fits few n, put n ∙ ap (λ (k : ℕ). bytes ++ drop k old) whole);
            small = λ h. let n : length old < len = omega (arith, whole, h) in (small few n, kept n);
            count = counted few ∙ whole;
          };
          long = λ four. absurd (no-four few four (nat_lt (length old) len) refl);
        }
    pick false e =
        let top : len ≡ 2 ^ 64 - 1 = omega (arith, is, ltb-false len (2 ^ 64 - 1) e) in
        let past : length old < len = omega (arith, top, below) in
        record {
          puts = λ other. absurd (other (long top).0);
          long = λ four. record { long = omega (arith, is, top); buffer = kept past; none = (long top).1 };
        }
