-- The types of parameters and attributes, with names.
use Rattle.std.specs.Prelude.{◌≡◌, ℕ, Bool, List, [], ◌∷◌, Option, Some, None, Ok, Err}
use Rattle.mysql_wire.specs.Form.{Form, ◌>>=◌, give, either, map}
use Rattle.mysql_wire.specs.LenEnc.{lenenc_string}
use Rattle.mysql_wire.specs.Reading.{Reading}
use Rattle.mysql_wire.specs.Seq.{counted}
use Rattle.mysql_values.specs.ParamType.{param_type}
use Rattle.mysql_values.specs.declared.param_type.ParamType.{ParamType}
use Rattle.mysql_stmt.specs.declared.execute_view.BoundParam.{BoundParam}

-- a type with a name
pub record NamedType : Type 0 where
  pub param_type : ParamType
  pub name : List ℕ

-- a type with an empty name
abbrev pub unnamed : ParamType → NamedType
unnamed t = record { param_type = t; name = [] }

-- a type, and the name after its length if names are sent
abbrev pub sent_type : (has_names : Bool) → Form NamedType
sent_type has_names = do
  param_type ← param_type.form tt
  name ← either has_names lenenc_string (give [])
  give (record { param_type = param_type; name = name })

-- a number of types
abbrev pub types : (has_names : Bool) → ℕ → Form (List NamedType)
types has_names count = counted count (sent_type has_names)

-- this many types, which are only checked to be complete
abbrev pub passed_types : (has_names : Bool) → ℕ → Form (Unit {0})
passed_types has_names count = map (λ ts. tt) (types has_names count)

-- parameters with these types
abbrev pub under_types : List BoundParam → List NamedType → List BoundParam
under_types [] ts = []
under_types (p ∷ ps) [] = []
under_types (p ∷ ps) (t ∷ ts) = record { param_type = t.param_type; is_sent_ahead = p.is_sent_ahead } ∷ under_types ps ts

-- ---- type by type

-- the types that were read
abbrev pub types_read : Reading (List NamedType) → List NamedType
types_read (Ok x) = x.0
types_read (Err e) = []

-- a number of types, from the front of the bytes
abbrev pub types_in : (has_names : Bool) → ℕ → List ℕ → List NamedType
types_in has_names count bytes = types_read ((types has_names count).reads bytes)

-- a number of types is complete
abbrev pub HasTypes : (has_names : Bool) → ℕ → List ℕ → Type 0
HasTypes has_names count bytes = (ts : List NamedType) × (rest : List ℕ) × ((types has_names count).reads bytes ≡ Ok (ts, rest))

-- the first one and the others, or none
abbrev pub TakesType : List NamedType → Option NamedType → List NamedType → Type 0
TakesType old None new = (old ≡ []) × (new ≡ [])
TakesType old (Some t) new = old ≡ t ∷ new
