-- A request made of rows.
use Rattle.std.proofs.Common.{◌≡◌, ◌≢◌, ◌⊎◌, inl, inr, ℕ, Bool, true, false, if◌then◌else◌, List, [], ◌∷◌, ◌++◌, length, refl, sym, ◌∙◌, ap, append_assoc}
use Rattle.std.proofs.lemmas.List.{length-map, nil_from_length}
use Rattle.std.specs.Prelude.{fold}
use Rattle.mysql_cuts.specs.Cut.{rows_in}
use Rattle.mysql_values.specs.Value.{Content}
use Rattle.mysql_values.specs.declared.param_type.ParamType.{ParamType}
use Rattle.mysql_bulk.specs.DeclaredTypes.{declared_types, types_with_row}
use Rattle.std.specs.Global.{Vec}
use Rattle.mysql_values.specs.declared.value.Value.{Value}
use Rattle.mysql_bulk.specs.Row.{contents_of_row, contents_of_rows}
use Rattle.mysql_bulk.specs.Row.{EqualLengths}
use Rattle.mysql_bulk.proofs.DeclaredTypes.{length-types, length-first, types_all}
use Rattle.mysql_bulk.proofs.BuilderSteps.{if_same}

-- the types after one more row
pub next_types : (sent : Bool) (types more : List ParamType) (row : List Content) (rest : List (List Content)) (all : List ParamType) → more ≡ (if sent then types_with_row types row else types)
    → (if sent then fold types_with_row types (row ∷ rest) else types) ≡ all → (if sent then fold types_with_row more rest else more) ≡ all
next_types true types more row rest all e h = ap (λ (t : List ParamType). fold types_with_row t rest) e ∙ h
next_types false types more row rest all e h = e ∙ h

pub next_before : (sent : Bool) (a : ℕ) (types more : List ParamType) (row : List Content) → more ≡ (if sent then types_with_row types row else types) → length row ≡ a
    → (sent ≡ true → (length types ≡ a) ⊎ (types ≡ [])) → sent ≡ true → (length more ≡ a) ⊎ (more ≡ [])
next_before false a types more row e r b s = let f : false ≡ true = s in cc
next_before true a types more row e r b s = elim (b refl) [
  | inl same ↦ inl (ap length e ∙ length-types a types row same r)
  | inr none ↦ inl (ap length e ∙ ap (λ (t : List ParamType). length (types_with_row t row)) none ∙ length-first row ∙ r)
]

-- the values after one more row
pub next_values : (values more row : List Content) (rest : List (List Content)) (all : List Content) → more ≡ values ++ row → values ++ rows_in (row ∷ rest) ≡ all → more ++ rows_in rest ≡ all
next_values values more row rest all e h = ap (λ (l : List Content). l ++ rows_in rest) e ∙ append_assoc values row (rows_in rest) ∙ h

-- the types of all rows are the declared ones
pub all_types : (sent flag : Bool) (a : ℕ) (rows : List (List Content)) → sent ≡ flag → rows ≢ [] → EqualLengths a rows
    → (if sent then fold types_with_row [] rows else []) ≡ (if flag then declared_types rows else [])
all_types sent flag a rows e n r =
    ap (λ (b : Bool). if b then fold types_with_row [] rows else []) e ∙ if_same flag (fold types_with_row [] rows) (declared_types rows) [] (types_all a rows n r)

pub some_rows : (rows : List (Vec Value)) → rows ≢ [] → contents_of_rows rows ≢ []
some_rows rows n e = n (nil_from_length rows (sym (length-map rows contents_of_row) ∙ ap length e))

-- rows of one length without values have length 0
pub no_values : (a : ℕ) (rows : List (List Content)) → rows ≢ [] → EqualLengths a rows → EqualLengths 0 rows → a ≡ 0
no_values a [] n e f = absurd (n refl)
no_values a (row ∷ rows) n e f = sym e.0 ∙ f.0
