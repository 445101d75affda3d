-- Values, parameters and attributes as fields, up to the first that can't be read.
use Rattle.std.specs.Prelude.{◌≡◌, ℕ, Bool, true, false, List, [], ◌∷◌, ◌++◌, map, Result, Ok, Err, codes}
use Rattle.mysql_wire.specs.Reading.{Reading}
use Rattle.mysql_wire.specs.declared.fault.FaultKind.{FaultKind}
use Rattle.mysql_wire.specs.declared.fault.FaultKind.TheVariants as kind
use Rattle.mysql_wire.specs.declared.fault.FaultOf.{FaultOf}
use Rattle.mysql_wire.specs.declared.fault.FaultOf.TheVariants as fault
use Rattle.mysql_values.specs.Value.{Content, Bytes as ByteString}
use Rattle.mysql_stmt.specs.Attributes.{Attribute}
use Rattle.mysql_stmt.specs.ExecuteParam.{Param, Sent, SentAhead, AsSent}
use Rattle.mysql_stmt.specs.ExecuteRead.{AttributesAhead, ParamsLeft, TypedParam, attributes_at}
use Rattle.mysql_stmt.specs.RowView.{RowLeft}
use Rattle.mysql_show.specs.Fields.{Held, Said, said, Bytes, Value, Word, param_held}

-- ---- faults

abbrev pub kind_text : FaultKind → List ℕ
kind_text kind.UnexpectedEof = codes "UnexpectedEof"
kind_text kind.InvalidData = codes "InvalidData"
kind_text kind.InvalidInput = codes "InvalidInput"
kind_text kind.Memory = codes "Memory"

abbrev pub fault_text : FaultOf → List ℕ
fault_text fault.UnexpectedEof = codes "UnexpectedEof"
fault_text (fault.InvalidData text) = codes "InvalidData"
fault_text (fault.InvalidInput text) = codes "InvalidInput"
fault_text fault.Memory = codes "Memory"

-- bytes that can't be read, if there are any
abbrev pub unread_fields : List ℕ → List Said
unread_fields [] = []
unread_fields (b ∷ bs) = said (codes "unread") (Bytes (b ∷ bs)) ∷ []

-- the name of a fault, and the bytes from there on
abbrev pub refused_at : (name : List ℕ) → List ℕ → List Said
refused_at name rest = said (codes "refused") (Word name) ∷ unread_fields rest

-- the fault that follows the values that were read, and the bytes from there on
abbrev pub fault_fields : Result (List ℕ) FaultKind → (rest : List ℕ) → List Said
fault_fields (Ok end) rest = []
fault_fields (Err e) rest = refused_at (kind_text e) rest

-- the bytes after values, each of which has this tail
abbrev pub after_values : {A : Type 0} → List A → (rest : List ℕ) (tails : List (List ℕ)) → List ℕ
after_values [] rest tails = rest
after_values (v ∷ vs) rest [] = rest
after_values (v ∷ vs) rest (tail ∷ tails) = after_values vs tail tails

-- ---- rows

abbrev pub value_said : Content → Said
value_said v = said (codes "value") (Value v)

-- the values of a row, and the fault after them
unfoldable pub row_fields : RowLeft → List Said
row_fields row = map value_said row.values ++ fault_fields row.end (after_values row.values row.rest row.tails)

-- ---- attributes

abbrev pub attribute_fields : List Attribute → List Said
attribute_fields [] = []
attribute_fields (a ∷ others) = said (codes "attribute") (Bytes a.named_type.name) ∷ said (codes "attribute_value") (param_held a.value) ∷ attribute_fields others

-- the fault of an attribute and the bytes from there on; if the packet is refused by it, the bytes alone
abbrev pub faulty_fields : (is_refused : Bool) → FaultKind → List ℕ → List Said
faulty_fields false e rest = refused_at (kind_text e) rest
faulty_fields true e rest = unread_fields rest

-- the attributes of a reading; if one of them can't be read, some before it, and its fault
abbrev pub AreAttributes : (is_refused : Bool) → Reading (List Attribute) → List Said → Type 0
AreAttributes is_refused (Ok x) fields = fields ≡ attribute_fields x.0
AreAttributes is_refused (Err e) fields = (front : List Attribute) × (rest : List ℕ) × (fields ≡ attribute_fields front ++ faulty_fields is_refused e rest)

-- ---- parameters

abbrev pub param_shown : Param → Held
param_shown (Sent value) = param_held value
param_shown SentAhead = Word (codes "sent ahead")
param_shown (AsSent is_null bytes) = Value (ByteString bytes)

abbrev pub param_said : TypedParam → Said
param_said p = said (codes "parameter") (param_shown p.param)

-- the attributes after the parameters, or the fault of a parameter
abbrev pub AreAfterParams : AttributesAhead → Result (List ℕ) FaultKind → (rest : List ℕ) → List Said → Type 0
AreAfterParams ahead (Ok end) rest fields = AreAttributes false (attributes_at ahead end).all fields
AreAfterParams ahead (Err e) rest fields = fields ≡ refused_at (kind_text e) rest

-- the parameters of an execution, up to the first that can't be read; if all can, also the attributes
abbrev pub AreParams : ParamsLeft → List Said → Type 0
AreParams view fields =
    (more : List Said) × AreAfterParams view.attributes view.end (after_values view.params view.rest view.tails) more × (fields ≡ map param_said view.params ++ more)
