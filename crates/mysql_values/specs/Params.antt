-- The values of parameters.
use Rattle.std.specs.Prelude.{◌≡◌, ◌≢◌, ℕ, Bool, true, false, List, [], ◌∷◌, Option, Some, None, Result, Ok, Err, nat_eq, ◌&&◌}
use Rattle.std.specs.Cmp.Lexicographic.{pointwise}
use Rattle.std.specs.Global.{Vec}
use Rattle.std.specs.declared.hash.FoldHasher.{FoldHasher}
use Rattle.std.specs.declared.hash.BuildHasherDefault.{BuildHasherDefault}
use Rattle.indexmap.specs.IndexMap.{IndexMap, get_by}
use Rattle.mysql_values.specs.declared.params.Params.{Params}
use Rattle.mysql_values.specs.declared.params.Params.TheVariants as params
use Rattle.mysql_values.specs.declared.params.ParamsError.{ParamsError}
use Rattle.mysql_values.specs.declared.params.ParamsError.TheVariants as error
use Rattle.mysql_values.specs.declared.value.Value.{Value}
use Rattle.mysql_values.specs.Value.{Content, content_of, contents_of}

abbrev pub NamedValues : Type 0
NamedValues = IndexMap (Vec ℕ) Value (BuildHasherDefault FoldHasher)

-- the value with a name
abbrev pub value_of : NamedValues → Vec ℕ → Option Value
value_of values name = get_by (λ key. pointwise nat_eq name.items key.items) values

-- why parameters have no values for a statement
pub data Refusal : Type 0 where
  Missing : List ℕ → Refusal
  NamedForPositional : Refusal
  PositionalForNamed : Refusal

-- a value, before those of the other names
abbrev pub then_values : Vec ℕ → Option Value → Result (List Content) Refusal → Result (List Content) Refusal
then_values name None others = Err (Missing name.items)
then_values name (Some value) (Ok others) = Ok (content_of value ∷ others)
then_values name (Some value) (Err refusal) = Err refusal

-- the value of each name, in order; the error has the first name without a value
unfoldable pub values_of_names : NamedValues → List (Vec ℕ) → Result (List Content) Refusal
values_of_names values [] = Ok []
values_of_names values (name ∷ names) = then_values name (value_of values name) (values_of_names values names)

-- the values for a statement's parameters, which are named or not
abbrev pub values_of : Params → Option (List (Vec ℕ)) → Result (List Content) Refusal
values_of params.Empty names = Ok []
values_of (params.Named values) None = Err NamedForPositional
values_of (params.Named values) (Some names) = values_of_names values names
values_of (params.Positional values) None = Ok (contents_of values.items)
values_of (params.Positional values) (Some names) = Err PositionalForNamed

-- the name has no value, or memory ran out
abbrev pub RefusesName : Option Value → Vec ℕ → ParamsError → Type 0
RefusesName found name (error.Missing missing) = (found ≡ None) × (missing.items ≡ name.items)
RefusesName found name error.NamedForPositional = ⊥
RefusesName found name error.PositionalForNamed = ⊥
RefusesName found name error.Memory = Unit {0}

-- the error is that of the names, or memory ran out
abbrev pub RefusesNames : NamedValues → List (Vec ℕ) → ParamsError → Type 0
RefusesNames values names (error.Missing name) = values_of_names values names ≡ Err (Missing name.items)
RefusesNames values names error.NamedForPositional = ⊥
RefusesNames values names error.PositionalForNamed = ⊥
RefusesNames values names error.Memory = names ≢ []

-- values are looked up by names, at least one: only this allocates
abbrev pub TakesMemory : Params → Option (List (Vec ℕ)) → Type 0
TakesMemory (params.Named values) (Some names) = names ≢ []
TakesMemory _ _ = ⊥

-- the error is that of the parameters, or memory ran out
abbrev pub Refuses : Params → Option (List (Vec ℕ)) → ParamsError → Type 0
Refuses given names (error.Missing name) = values_of given names ≡ Err (Missing name.items)
Refuses given names error.NamedForPositional = values_of given names ≡ Err NamedForPositional
Refuses given names error.PositionalForNamed = values_of given names ≡ Err PositionalForNamed
Refuses given names error.Memory = TakesMemory given names

-- ---- equality

-- the same name with an equal value
abbrev pub entry_eq : (Value → Value → Bool) → Vec ℕ × Value → Vec ℕ × Value → Bool
entry_eq eq x y = pointwise nat_eq x.0.items y.0.items && eq x.1 y.1

-- the same variant with equal values; named values are compared as lists of pairs
abbrev pub params_eq : (Value → Value → Bool) → Params → Params → Bool
params_eq eq params.Empty params.Empty = true
params_eq eq (params.Named a) (params.Named b) = pointwise (entry_eq eq) a.entries b.entries
params_eq eq (params.Positional a) (params.Positional b) = pointwise eq a.items b.items
params_eq eq _ _ = false
