-- The parameters and attributes of an execution, as a server reads them.
use Rattle.std.specs.Prelude.{◌≡◌, ℕ, suc, ◌+◌, ◌≤◌, ◌==◌, Bool, true, false, ◌&&◌, ◌||◌, ◌-◌, not, nat_lt, List, [], ◌∷◌, ◌++◌, length, drop, Option, Some, None, Result, Ok, Err, if◌then◌else◌}
use Rattle.mysql_wire.specs.declared.fault.FaultOf.{FaultOf}
use Rattle.mysql_wire.specs.declared.fault.FaultKind.{FaultKind}
use Rattle.mysql_wire.specs.FlagMasks.{CLIENT_QUERY_ATTRIBUTES, PARAMETER_COUNT_AVAILABLE}
use Rattle.mysql_wire.specs.Flags.{CapabilityFlags, has}
use Rattle.mysql_wire.specs.Reading.{Reading, Faults, then_read}
use Rattle.mysql_wire.specs.Form.{Form, ◌>>=◌, decode, give, either, map}
use Rattle.mysql_wire.specs.Each.{each}
use Rattle.mysql_wire.specs.LenEnc.{lenenc}
use Rattle.mysql_values.specs.ParamValue.{ParamContent}
use Rattle.mysql_values.specs.declared.param_type.ParamType.{ParamType}
use Rattle.mysql_stmt.specs.Attributes.{Attribute, AttributesLeft, IsPast, attributes_left, more, value_of, values}
use Rattle.mysql_stmt.specs.BindFront.{BindFront, HasFront, bind_front}
use Rattle.mysql_stmt.specs.Bitmap.{cell}
use Rattle.mysql_stmt.specs.OneByOne.{several_in}
use Rattle.mysql_stmt.specs.ExecuteParam.{Param, Sent, SentAhead, AsSent, param_of}
use Rattle.mysql_stmt.specs.SentTypes.{NamedType, under_types, unnamed}
use Rattle.mysql_stmt.specs.declared.execute_param.ExecuteParam.{ExecuteParam}
use Rattle.mysql_stmt.specs.declared.execute_view.BoundParam.{BoundParam}
use Rattle.mysql_stmt.specs.declared.typed_param.TypedExecuteParam.{TypedExecuteParam}

-- a parameter: its type, its name, and what is sent for it
pub record TypedParam : Type 0 where
  pub named_type : NamedType
  pub param : Param

abbrev pub read_as : TypedExecuteParam → TypedParam
read_as p = record { named_type = record { param_type = p.param_type; name = p.name.now }; param = param_of p.param }

-- ---- grammar: the count

abbrev pub has_attributes : CapabilityFlags → Bool
has_attributes capabilities = has capabilities.0 CLIENT_QUERY_ATTRIBUTES

-- under CLIENT_QUERY_ATTRIBUTES there is a count if the statement has parameters or PARAMETER_COUNT_AVAILABLE is set
abbrev pub has_count : CapabilityFlags → (flags : ℕ) → (params : ℕ) → Bool
has_count capabilities flags params = has_attributes capabilities && (not (params == 0) || has flags PARAMETER_COUNT_AVAILABLE)

-- a count of at least the statement's parameters
abbrev pub at_least : ℕ → ℕ → Option ℕ
at_least params count = if nat_lt count params then None else Some count

-- the number of parameters and attributes
abbrev pub count_of : CapabilityFlags → (flags : ℕ) → (params : ℕ) → Form ℕ
count_of capabilities flags params = either (has_count capabilities flags params) (decode (at_least params) lenenc) (give params)

-- ---- grammar: a parameter

-- a parameter, with its effective type
pub record BoundType : Type 0 where
  pub named_type : NamedType
  pub is_sent_ahead : Bool

-- a parameter of this type: no bytes if it was sent as long data, or if the bitmap says NULL
abbrev pub param_form : (is_sent_ahead is_null : Bool) → ParamType → Form Param
param_form is_sent_ahead is_null t = either is_sent_ahead (give SentAhead) (map Sent (value_of is_null t))

abbrev pub typed_param : (nulls : List ℕ) → ℕ → BoundType → Form TypedParam
typed_param nulls place p = map (λ v. record { named_type = p.named_type; param = v }) (param_form p.is_sent_ahead (cell nulls place == 1) p.named_type.param_type)

-- the parameters under the types that are sent, or under those of an earlier execution
abbrev pub in_force : (sends_types : Bool) → List BoundParam → List NamedType → List BoundType
in_force s [] ts = []
in_force false (p ∷ ps) ts = record { named_type = unnamed p.param_type; is_sent_ahead = p.is_sent_ahead } ∷ in_force false ps ts
in_force true (p ∷ ps) [] = []
in_force true (p ∷ ps) (t ∷ ts) = record { named_type = t; is_sent_ahead = p.is_sent_ahead } ∷ in_force true ps ts

-- ---- grammar: all

-- the count, and what precedes the values
abbrev pub execution_front : CapabilityFlags → (flags : ℕ) → (params : ℕ) → Form BindFront
execution_front capabilities flags params = count_of capabilities flags params >>= (λ count. bind_front (has_attributes capabilities) count params)

-- what follows the head, given what the server knows of each parameter: the count, the bitmap, the types, and the values of the parameters
-- and then of the attributes
abbrev pub execution : CapabilityFlags → (flags : ℕ) → List BoundParam → Form (List TypedParam × List Attribute)
execution capabilities flags params = do
  front ← execution_front capabilities flags (length params)
  parameters ← each (typed_param front.nulls) 0 (in_force front.sends_types params front.types)
  attributes ← values front.nulls (length params) (drop (length params) front.types)
  give (parameters, attributes)

-- ---- parameter by parameter

-- the attributes after the parameters: the NULL bitmap, the first one's place in it, and their types
pub record AttributesAhead : Type 0 where
  pub nulls : List ℕ
  pub place : ℕ
  pub types : List NamedType

-- The rest of an execution: whether it sends types, the number of parameters, those without a fault, and the bytes after the last one, or
-- the fault that follows those.
pub record ParamsLeft : Type 0 where
  pub sends_types : Bool
  pub left : ℕ
  pub params : List TypedParam
  pub end : Result (List ℕ) FaultKind
  -- the bytes after the parameters that were read, and after each of those without a fault
  pub rest : List ℕ
  pub tails : List (List ℕ)
  pub attributes : AttributesAhead

-- the parameters in these bytes, and the attributes after them
abbrev pub params_left : (sends_types : Bool) (left : ℕ) → (nulls : List ℕ) → ℕ → List BoundParam → List NamedType → List ℕ → ParamsLeft
params_left sends_types left nulls place params types bytes = record {
  sends_types = sends_types;
  left = left;
  params = (several_in (typed_param nulls) place (in_force sends_types params types) bytes).read;
  end = (several_in (typed_param nulls) place (in_force sends_types params types) bytes).end;
  rest = bytes;
  tails = (several_in (typed_param nulls) place (in_force sends_types params types) bytes).tails;
  attributes = record { nulls = nulls; place = place + length params; types = drop (length params) types };
}

-- what follows the head, while parameters are read: whether it sends types, how many parameters are left, the NULL bitmap, the next one's
-- place in it, the types that are left, and the bytes after the values that were read
pub record ParamsBytes : Type 0 where
  pub sends_types : Bool
  pub left : ℕ
  pub nulls : List ℕ
  pub place : ℕ
  pub types : List NamedType
  pub values : List ℕ

-- the rest of an execution, given what the server knows of the remaining parameters
abbrev pub left_of : ParamsBytes → List BoundParam → ParamsLeft
left_of b params = params_left b.sends_types b.left b.nulls b.place params b.types b.values

-- what follows the front, for a given number of parameters
abbrev pub bytes_after : ℕ → BindFront → List ℕ → ParamsBytes
bytes_after params f after = record { sends_types = f.sends_types; left = params; nulls = f.nulls; place = 0; types = f.types; values = after }

-- the values follow what precedes them
abbrev pub StandsAfter : CapabilityFlags → (flags : ℕ) → (params : ℕ) → List ℕ → ParamsBytes → Type 0
StandsAfter capabilities flags params bytes b =
    (f : BindFront) × (after : List ℕ) × ((execution_front capabilities flags params).reads bytes ≡ Ok (f, after)) × (b ≡ bytes_after params f after)

-- parameters under the types that are sent, if any are
abbrev pub given_types : (sends_types : Bool) → List BoundParam → List NamedType → List BoundParam
given_types sends_types params types = if sends_types then under_types params types else params

-- the execution follows what precedes the values
abbrev pub IsExecution : CapabilityFlags → (flags : ℕ) → List BoundParam → List ℕ → ParamsLeft → Type 0
IsExecution capabilities flags params bytes view =
    (f : BindFront) × (after : List ℕ) × ((execution_front capabilities flags (length params)).reads bytes ≡ Ok (f, after))
    × (view ≡ params_left f.sends_types (length params) f.nulls 0 params f.types after)

-- the result of reading all remaining parameters
abbrev pub params_to : List TypedParam → Result (List ℕ) FaultKind → Reading (List TypedParam)
params_to params (Ok rest) = Ok (params, rest)
params_to params (Err e) = Err e

abbrev pub params_of : ParamsLeft → Reading (List TypedParam)
params_of view = params_to view.params view.end

-- the attributes in the bytes after the parameters
abbrev pub attributes_at : AttributesAhead → List ℕ → AttributesLeft
attributes_at a bytes = attributes_left a.nulls a.place a.types bytes

-- the result of reading the whole rest
abbrev pub execution_of : ParamsLeft → Reading (List TypedParam × List Attribute)
execution_of view =
    then_read (params_of view) (λ ps after. then_read (attributes_at view.attributes after).all (λ attributes rest. Ok ((ps, attributes), rest)))

-- ---- reading

-- there is no parameter before this fault
abbrev pub RefusesParam : FaultOf → ParamsLeft → Type 0
RefusesParam e view = (view.params ≡ []) × Faults false e (params_of view)

-- no parameter is left
abbrev pub HasNoParam : ParamsLeft → Type 0
HasNoParam view = (view.left ≡ 0) × (view.params ≡ [])

-- this is the first of the parameters without a fault
pub record Gives (old : ParamsLeft) (x : TypedParam) (new : ParamsLeft) : Type 0 where
  pub left : old.left ≡ suc new.left
  pub params : old.params ≡ x ∷ new.params
  pub end : new.end ≡ old.end
  pub sends_types : new.sends_types ≡ old.sends_types
  pub tails : old.tails ≡ new.rest ∷ new.tails
  pub attributes : new.attributes ≡ old.attributes

-- the first of the parameters without a fault; or none is left; or the fault, and all are left
abbrev pub GivesParam : ParamsLeft → Result (Option TypedExecuteParam) FaultOf → ParamsLeft → Type 0
GivesParam old (Ok (Some x)) new = Gives old (read_as x) new
GivesParam old (Ok None) new = HasNoParam old × (new ≡ old)
GivesParam old (Err e) new = RefusesParam e old × (new ≡ old)

-- the first of the remaining parameters, given what the server knows of it, or its fault
abbrev pub GivesBound : ParamsBytes → BoundParam → List BoundParam → Result TypedExecuteParam FaultOf → ParamsBytes → Type 0
GivesBound old bound others (Ok x) new = Gives (left_of old (bound ∷ others)) (read_as x) (left_of new others)
GivesBound old bound others (Err e) new = RefusesParam e (left_of old (bound ∷ others)) × (new ≡ old)

-- ---- reading raw parameters

-- the next parameter's bit says NULL
abbrev pub is_next_marked : ParamsLeft → Bool
is_next_marked view = cell view.attributes.nulls (view.attributes.place - view.left) == 1

-- the first of the parameters without a fault, raw: its type, its name, its bit, and the bytes from which its value is read
pub record SentAs (old : ParamsLeft) (x : TypedParam) (new : ParamsLeft) : Type 0 where
  pub value : Param
  pub gives : Gives old (record { named_type = x.named_type; param = value }) new
  pub bytes : List ℕ
  pub sent : x.param ≡ AsSent (is_next_marked old) bytes
  pub parts : old.rest ≡ bytes ++ new.rest

-- that parameter; or none is left; or the fault, and all are left
abbrev pub GivesAsSent : ParamsLeft → Result (Option TypedExecuteParam) FaultOf → ParamsLeft → Type 0
GivesAsSent old (Ok (Some x)) new = SentAs old (read_as x) new
GivesAsSent old (Ok None) new = HasNoParam old × (new ≡ old)
GivesAsSent old (Err e) new = RefusesParam e old × (new ≡ old)

-- the first of the remaining parameters, given what the server knows of it, raw, or its fault
abbrev pub GivesBoundAsSent : ParamsBytes → BoundParam → List BoundParam → Result TypedExecuteParam FaultOf → ParamsBytes → Type 0
GivesBoundAsSent old bound others (Ok x) new = SentAs (left_of old (bound ∷ others)) (read_as x) (left_of new others)
GivesBoundAsSent old bound others (Err e) new = RefusesParam e (left_of old (bound ∷ others)) × (new ≡ old)

-- the first of the remaining attributes, raw
pub record AttributeSentAs (old : AttributesLeft) (x : TypedParam) (new : AttributesLeft) : Type 0 where
  pub value : ParamContent
  pub left : old.left ≡ suc new.left
  pub all : old.all ≡ more (record { named_type = x.named_type; value = value }) new.all
  pub past : IsPast old new
  pub bytes : List ℕ
  pub sent : x.param ≡ AsSent (cell old.nulls old.place == 1) bytes
  pub parts : old.rest ≡ bytes ++ new.rest

-- that attribute; or none is left; or its fault, and all are left
abbrev pub NextAttributeAsSent : AttributesLeft → Result (Option TypedExecuteParam) FaultOf → AttributesLeft → Type 0
NextAttributeAsSent old (Ok (Some x)) new = AttributeSentAs old (read_as x) new
NextAttributeAsSent old (Ok None) new = (old.left ≡ 0) × (new ≡ old)
NextAttributeAsSent old (Err e) new = Faults false e old.all × (new ≡ old)

-- the effective type: the first of those that are sent, or that of an earlier execution
abbrev pub TakesInForce : (sends_types : Bool) → ParamType → List NamedType → NamedType → List NamedType → Type 0
TakesInForce true earlier old t new = old ≡ t ∷ new
TakesInForce false earlier old t new = (t ≡ unnamed earlier) × (new ≡ old)

-- what a parameter that was read contains
abbrev pub param_read : Result ExecuteParam FaultOf → Result Param FaultOf
param_read (Ok p) = Ok (param_of p)
param_read (Err e) = Err e

-- a front for this many parameters has a bit for each parameter and for each type; if types are sent, there is one for each parameter
abbrev pub HasFrontOf : ℕ → BindFront → Type 0
HasFrontOf params f = (count : ℕ) × (params ≤ count) × HasFront count f
