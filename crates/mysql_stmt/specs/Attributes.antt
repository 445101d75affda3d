-- The attributes of a query or an execution.
use Rattle.std.specs.Prelude.{◌≡◌, ℕ, suc, ◌+◌, ◌*◌, ◌<◌, ◌≤◌, ◌^◌, ◌==◌, Bool, false, List, [], ◌∷◌, length, Option, Some, None, Result, Ok, Err}
use Rattle.mysql_wire.specs.Each.{each}
use Rattle.mysql_wire.specs.Form.{Form, give, either, map}
use Rattle.mysql_wire.specs.Reading.{Reading, Faults, IsTail, then_read}
use Rattle.mysql_wire.specs.declared.fault.FaultOf.{FaultOf}
use Rattle.mysql_values.specs.ParamValue.{ParamContent, Plain, param_content, param_value}
use Rattle.mysql_values.specs.Value.{NULL}
use Rattle.mysql_values.specs.declared.param_type.ParamType.{ParamType}
use Rattle.mysql_stmt.specs.Bitmap.{cell}
use Rattle.mysql_stmt.specs.SentTypes.{NamedType}
use Rattle.mysql_stmt.specs.declared.execute_param.QueryAttribute.{QueryAttribute}

-- an attribute: its type and its name, and its value
pub record Attribute : Type 0 where
  pub named_type : NamedType
  pub value : ParamContent

abbrev pub attribute_of : QueryAttribute → Attribute
attribute_of a = record { named_type = record { param_type = a.param_type; name = a.name.now }; value = param_content a.value }

-- ---- grammar

-- the value of a type: no bytes if the bitmap says NULL
abbrev pub value_of : (is_null : Bool) → ParamType → Form ParamContent
value_of is_null t = either is_null (give (Plain NULL)) (param_value t)

abbrev pub attribute : (nulls : List ℕ) → ℕ → NamedType → Form Attribute
attribute nulls place t = map (λ v. record { named_type = t; value = v }) (value_of (cell nulls place == 1) t.param_type)

-- the values, by bitmap and types
abbrev pub values : (nulls : List ℕ) → ℕ → List NamedType → Form (List Attribute)
values nulls place types = each (attribute nulls) place types

-- ---- attribute by attribute

-- an attribute, followed by those that are read after it
abbrev pub more : Attribute → Reading (List Attribute) → Reading (List Attribute)
more a later = then_read later (λ xs rest. Ok (a ∷ xs, rest))

-- The remaining attributes: their number, the result of reading all of them, the rest of the bytes, the NULL bitmap, and the next one's
-- place in it.
pub record AttributesLeft : Type 0 where
  pub left : ℕ
  pub all : Reading (List Attribute)
  pub rest : List ℕ
  pub nulls : List ℕ
  pub place : ℕ

-- attributes with these types, whose values are in these bytes
abbrev pub attributes_left : (nulls : List ℕ) → ℕ → List NamedType → List ℕ → AttributesLeft
attributes_left nulls place types bytes =
    record { left = length types; all = (values nulls place types).reads bytes; rest = bytes; nulls = nulls; place = place }

-- the bitmap has a bit for each, and their number fits in a usize
pub record HasMarks (nulls : List ℕ) (place left : ℕ) : Type 0 where
  pub there : place + left ≤ 8 * length nulls
  pub counted : place + left < 2 ^ 64

-- the first of them; or none is left; or the first one's fault, and all are left
abbrev pub NextAttribute : AttributesLeft → Result (Option QueryAttribute) FaultOf → AttributesLeft → Type 0
NextAttribute old (Ok (Some a)) new = (old.left ≡ suc new.left) × (old.all ≡ more (attribute_of a) new.all)
NextAttribute old (Ok None) new = (old.left ≡ 0) × (new ≡ old)
NextAttribute old (Err e) new = Faults false e old.all × (new ≡ old)

-- one of them was read: the next place in the same bitmap, and its bytes removed
pub record IsPast (old new : AttributesLeft) : Type 0 where
  pub nulls : new.nulls ≡ old.nulls
  pub place : new.place ≡ suc old.place
  pub rest : IsTail new.rest old.rest

-- an attribute that was read
abbrev pub MovesPast : AttributesLeft → Result (Option QueryAttribute) FaultOf → AttributesLeft → Type 0
MovesPast old (Ok (Some a)) new = IsPast old new
MovesPast old _ new = new ≡ old

-- the attributes that were read
abbrev pub attributes_read : Reading (List Attribute) → List Attribute
attributes_read (Ok x) = x.0
attributes_read (Err e) = []

-- all that are left are read
abbrev pub IsGood : AttributesLeft → Type 0
IsGood view = (rest : List ℕ) × (view.all ≡ Ok (attributes_read view.all, rest))

-- the attributes that were read, and those that are left
abbrev pub PassedTo : AttributesLeft → Result (List ℕ) FaultOf → Type 0
PassedTo view (Ok rest) = view.all ≡ Ok (attributes_read view.all, rest)
PassedTo view (Err e) = Faults false e view.all
