-- What precedes the values of parameters and attributes.
use Rattle.std.specs.Prelude.{◌≡◌, ℕ, ◌==◌, Bool, true, false, not, List, [], length, Result, Ok, Err}
use Rattle.mysql_wire.specs.Form.{Form, ◌>>=◌, give, refuse, either, bytes}
use Rattle.mysql_wire.specs.Int.{byte}
use Rattle.mysql_stmt.specs.Attributes.{AttributesLeft, HasMarks, attributes_left}
use Rattle.mysql_wire.specs.Reading.{Faults}
use Rattle.mysql_wire.specs.declared.fault.FaultOf.{FaultOf}
use Rattle.mysql_stmt.specs.Bitmap.{bytes_for}
use Rattle.mysql_stmt.specs.SentTypes.{NamedType, types}

-- the NULL bitmap, whether types are sent, and the types
pub record BindFront : Type 0 where
  pub nulls : List ℕ
  pub sends_types : Bool
  pub types : List NamedType

abbrev pub nothing_bound : BindFront
nothing_bound = record { nulls = []; sends_types = false; types = [] }

-- the types, if they are sent; parameters alone may use those of an earlier execution
abbrev pub types_sent : (sends_types has_names : Bool) (count params : ℕ) → Form (List NamedType)
types_sent sends_types has_names count params = either sends_types (types has_names count) (either (count == params) (give []) refuse)

-- parse_query_bind_params: the NULL bitmap, and a byte that is not 0 if a type for each follows
abbrev pub some_bind_front : (has_names : Bool) (count params : ℕ) → Form BindFront
some_bind_front has_names count params = do
  nulls ← bytes (bytes_for 0 count)
  new_params_bound ← byte
  types ← types_sent (not (new_params_bound.0 == 0)) has_names count params
  give (record { nulls = nulls; sends_types = not (new_params_bound.0 == 0); types = types })

-- nothing if there are no parameters and no attributes
abbrev pub bind_front : (has_names : Bool) (count params : ℕ) → Form BindFront
bind_front has_names count params = either (count == 0) (give nothing_bound) (some_bind_front has_names count params)

-- as many types as there are if they are sent, otherwise none
abbrev pub AreSent : (sends_types : Bool) → ℕ → List NamedType → Type 0
AreSent true count types = length types ≡ count
AreSent false count types = types ≡ []

-- for this many, the bitmap has a bit each, and if types are sent, there is one each
pub record HasFront (count : ℕ) (f : BindFront) : Type 0 where
  pub marks : HasMarks f.nulls 0 count
  pub sent : AreSent f.sends_types count f.types

-- the attributes of a query follow what precedes their values; or its fault
abbrev pub AttributesThere : ℕ → List ℕ → Result AttributesLeft FaultOf → Type 0
AttributesThere count bytes (Ok view) =
    (f : BindFront) × (after : List ℕ) × ((bind_front true count 0).reads bytes ≡ Ok (f, after)) × (view ≡ attributes_left f.nulls 0 f.types after)
AttributesThere count bytes (Err e) = Faults false e ((bind_front true count 0).reads bytes)
