-- The type of a parameter, as executions and bulk requests send it.
use Rattle.std.specs.Prelude.{◌≡◌, ℕ, Bool, Some, if◌then◌else◌, refl}
use Rattle.mysql_wire.specs.declared.codes.column_type.ColumnType.{ColumnType}
use Rattle.mysql_wire.specs.declared.constant_value.Const.{Const}
use Rattle.mysql_wire.specs.Codec.{Codec, Fields}
use Rattle.mysql_wire.specs.Codecs.{◌>>=◌, give, field, block, packet, leaf, flags}
use Rattle.mysql_wire.specs.ColumnType.{column_type, column_type_code, column_type-again}
use Rattle.mysql_wire.specs.Flags.{StmtExecuteParamFlags}
use Rattle.mysql_wire.specs.Form.{size-block}
use Rattle.mysql_wire.specs.LittleEndian.{length-le_bytes}
use Rattle.mysql_wire.specs.Writing.{le_bytes}
use Rattle.mysql_values.specs.declared.param_type.ParamType.{ParamType}
use Rattle.mysql_values.specs.SentType.{sent_type, is_uint}
use Rattle.mysql_values.specs.Value.{Content}

abbrev pub type_column : ParamType → ColumnType
type_column t = t.column_type

abbrev pub type_flags : ParamType → StmtExecuteParamFlags
type_flags t = t.flags

-- a type with its flags
abbrev pub type_with_flags : ColumnType → StmtExecuteParamFlags → ParamType
type_with_flags t flags = record { column_type = t; flags = flags }

-- a type that is unsigned or not
abbrev pub typed : ColumnType → Bool → ParamType
typed t unsigned = record { column_type = t; flags = record { 0 = if unsigned then 128 else 0; 1 = record {} } }

-- the type that a value is sent as
abbrev pub type_of : Content → ParamType
type_of value = typed (sent_type value) (is_uint value)

-- ---- bytes

-- a byte that is the code of a column type
abbrev pub column_type_byte : {C : Type 0} → Codec C (Const ColumnType ℕ)
column_type_byte = leaf column_type (λ v. le_bytes 1 (column_type_code v.0)) (λ v. 1) (λ v. Unit {0})
    (λ v h. length-le_bytes 1 (column_type_code v.0)) (λ v h. column_type-again v)

abbrev pub param_type_fields : Fields (Unit {0}) ParamType ParamType
param_type_fields = do
  column_type ← field (λ p. record { 0 = p.column_type; 1 = record {} }) column_type_byte
  flags ← field (λ p. record { 0 = p.flags; 1 = record {} }) (flags {U = ℕ} 1)
  give (record { column_type = column_type.0; flags = flags.0 })

-- two bytes: the column type, and the flags
unfoldable pub param_type : Codec (Unit {0}) ParamType
param_type = packet (block 2 param_type_fields (λ p. refl)) (λ p. refl)

pub size-param_type : (param_type.form tt).size ≡ Some 2
unfolding param_type
size-param_type = size-block 2 (param_type_fields.form tt)
