-- A loop that looks up names in order.
use Rattle.std.proofs.Common.{◌≡◌, ℕ, ◌+◌, ◌<◌, ◌≤◌, List, [], ◌∷◌, ◌++◌, drop, length, get_or, Some, None, Result, Ok, Err, refl, sym, ap, ◌∙◌, append_assoc, add-one, arith}
use Rattle.std.proofs.Math.Seq.{drop-cons}
use Rattle.std.proofs.Math.ListN.{drop_of_length-le}
use Rattle.std.proofs.lemmas.List.{map-append, append-nil}
use Rattle.std.specs.Global.{Vec}
use Rattle.mysql_values.specs.declared.value.Value.{Value}
use Rattle.mysql_values.specs.Value.{Content, content_of, contents_of}
use Rattle.mysql_values.specs.declared.params.ParamsError.{ParamsError}
use Rattle.mysql_values.specs.declared.params.ParamsError.TheVariants as error
use Rattle.mysql_values.specs.Params.{NamedValues, value_of, values_of_names, then_values, Refusal, Missing, RefusesName, RefusesNames}

-- the contents, after those of the names before
abbrev pub later : List Content → Result (List Content) Refusal → Result (List Content) Refusal
later front (Ok contents) = Ok (front ++ contents)
later front (Err refusal) = Err refusal

regroup : (front : List Content) (name : Vec ℕ) (v : Value) (others : Result (List Content) Refusal) → later front (then_values name (Some v) others) ≡ later (front ++ content_of v ∷ []) others
regroup front name v (Ok others) = ap Ok (sym (append_assoc front (content_of v ∷ []) others))
regroup front name v (Err refusal) = refl

-- the rest, with the name at the index first
left_at : (values : NamedValues) (names : List (Vec ℕ)) (i : ℕ) (name : Vec ℕ) → i < length names → name ≡ get_or names i name
    → values_of_names values (drop i names) ≡ then_values name (value_of values name) (values_of_names values (drop (i + 1) names))
unfolding values_of_names
left_at values names i name lt is =
    let after : drop i names ≡ name ∷ drop (i + 1) names = rw (drop-cons names i name lt, ← is, add-one) refl in
    rw after refl

pub next-name : (values : NamedValues) (names : List (Vec ℕ)) (i : ℕ) (name : Vec ℕ) (v copy : Value) (row : List Value) (total : Result (List Content) Refusal)
    → i < length names → name ≡ get_or names i name → value_of values name ≡ Some v → content_of copy ≡ content_of v
    → later (contents_of row) (values_of_names values (drop i names)) ≡ total
    → later (contents_of (row ++ copy ∷ [])) (values_of_names values (drop (i + 1) names)) ≡ total
next-name values names i name v copy row total lt is found same so_far =
    let left = left_at values names i name lt is in
    rw (map-append content_of row (copy ∷ []), same) (sym (regroup (contents_of row) name v (values_of_names values (drop (i + 1) names))) ∙ (rw (left, found) at so_far))

no-value : (values : NamedValues) (names : List (Vec ℕ)) (i : ℕ) (name : Vec ℕ) (row : List Value) (total : Result (List Content) Refusal)
    → i < length names → name ≡ get_or names i name → value_of values name ≡ None
    → later (contents_of row) (values_of_names values (drop i names)) ≡ total
    → total ≡ Err (Missing name.items)
no-value values names i name row total lt is none so_far =
    let left = left_at values names i name lt is in
    sym (rw (left, none) at so_far)

pub refused-name : (values : NamedValues) (names : List (Vec ℕ)) (i : ℕ) (name : Vec ℕ) (row : List Value) (refusal : ParamsError)
    → i < length names → name ≡ get_or names i name → RefusesName (value_of values name) name refusal
    → later (contents_of row) (values_of_names values (drop i names)) ≡ values_of_names values names
    → RefusesNames values names refusal
refused-name values names i name row (error.Missing missing) lt is refuses so_far = rw refuses.1 (no-value values names i name row _ lt is refuses.0 so_far)
refused-name values names i name row error.NamedForPositional lt is refuses so_far = refuses
refused-name values names i name row error.PositionalForNamed lt is refuses so_far = refuses
refused-name values names i name row error.Memory lt is refuses so_far = λ none. absurd (omega (arith, ap length none))

pub all-named : (values : NamedValues) (names : List (Vec ℕ)) (i : ℕ) (row : List Value) (total : Result (List Content) Refusal)
    → length names ≤ i → later (contents_of row) (values_of_names values (drop i names)) ≡ total → total ≡ Ok (contents_of row)
unfolding values_of_names
all-named values names i row total le so_far = sym (rw (drop_of_length-le names le, append-nil (contents_of row)) at so_far)

pub no-names : (values : NamedValues) (names : List (Vec ℕ)) (row : List Value) → names ≡ [] → row ≡ [] → values_of_names values names ≡ Ok (contents_of row)
unfolding values_of_names
no-names values names row none empty = rw (none, empty) refl
