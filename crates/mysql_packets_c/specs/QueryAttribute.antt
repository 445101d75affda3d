-- An attribute of a query or an execution, in C.
use Rattle.std.specs.Prelude.{◌≡◌, ℕ, zero, suc, List, [], ◌∷◌, Option, Some, None, Result, Ok, Err, false, if◌then◌else◌}
use Rattle.mysql_commands.specs.WithRawBytes as sent
use Rattle.mysql_commands.specs.Query.{sent_attributes}
use Rattle.mysql_stmt.specs.Attributes.{Attribute, AttributesLeft, IsGood, attributes_read}
use Rattle.mysql_commands.specs.declared.with_raw_bytes.WithRawBytes.{WithRawBytes}
use Rattle.mysql_commands.specs.declared.query.ComQueryRef.{ComQueryRef}
use Rattle.mysql_wire.specs.ColumnType.{column_type_code}
use Rattle.mysql_wire.specs.FlagMasks.{UNSIGNED}
use Rattle.mysql_wire.specs.Flags.{has}
use Rattle.mysql_wire.specs.Reading.{Reading, Faults}
use Rattle.mysql_wire.specs.declared.fault.FaultOf.{FaultOf}
use Rattle.mysql_packets_c.specs.Code.{kind_code}
use Rattle.mysql_packets_c.specs.Value.{SetsParam, param_content}
use Rattle.mysql_packets_c.specs.declared.parameter.CParameter.{CParameter}

-- the item at an index, the first being 0
abbrev pub at : {A : Type 0} → List A → ℕ → Option A
at [] i = None
at (x ∷ xs) zero = Some x
at (x ∷ xs) (suc i) = at xs i

abbrev pub listed : Option (WithRawBytes (List Attribute)) → List Attribute
listed None = []
listed (Some attributes) = sent.value attributes

-- the attributes of a query; none if none are sent
abbrev pub attributes_of : ComQueryRef → List Attribute
attributes_of q = listed (sent_attributes q)

pub record IsQueryAttribute (a : Attribute) (old new : CParameter) : Type 0 where
  pub name : new.name.now ≡ a.named_type.name
  pub content : param_content new.value ≡ a.value
  pub value : SetsParam a.value old.value new.value
  pub has_type : new.has_type ≡ 1
  pub column_type : new.column_type ≡ column_type_code a.named_type.param_type.column_type
  pub is_unsigned : new.is_unsigned ≡ (if has a.named_type.param_type.flags.0 UNSIGNED then 1 else 0)
  pub is_sent_ahead : new.is_sent_ahead ≡ 0

-- 0 and that attribute; or 7, and the struct is unchanged
abbrev pub Gives : Option Attribute → ℕ → (old new : CParameter) → Type 0
Gives (Some a) code old new = (code ≡ 0) × IsQueryAttribute a old new
Gives None code old new = (code ≡ 7) × (new ≡ old)

-- the attribute at an index of those that were read; or the code of the first fault, and the struct is unchanged
abbrev pub AttributeInto : {A : Type 0} → (attributes : A → List Attribute) → ℕ → Reading A → ℕ → (old new : CParameter) → Type 0
AttributeInto attributes i (Ok x) code old new = Gives (at (attributes x.0) i) code old new
AttributeInto attributes i (Err k) code old new = (code ≡ kind_code k) × (new ≡ old)

-- the first of the rest; or nothing is left
abbrev pub TakesFirst : AttributesLeft → Option Attribute → AttributesLeft → Type 0
TakesFirst old (Some a) new = attributes_read old.all ≡ a ∷ attributes_read new.all
TakesFirst old None new = attributes_read old.all ≡ []

-- the attributes that are read, without a fault; or the fault
abbrev pub AttributesAre : Reading (List Attribute) → Result AttributesLeft FaultOf → Type 0
AttributesAre read (Ok view) = IsGood view × (rest : List ℕ) × (read ≡ Ok (attributes_read view.all, rest))
AttributesAre read (Err e) = Faults false e read
