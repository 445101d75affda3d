-- What precedes the values of a bulk request.
use Rattle.std.specs.Prelude.{ℕ, Bool, if◌then◌else◌, List, length, map, refl}
use Rattle.mysql_wire.specs.CommandCodes.{COM_STMT_BULK_EXECUTE}
use Rattle.mysql_wire.specs.FlagMasks.{SEND_TYPES_TO_SERVER, UNSIGNED, UNSIGNED_FLAG}
use Rattle.mysql_wire.specs.declared.little_endian.LeU16.{LeU16}
use Rattle.mysql_wire.specs.Flags.{StmtBulkExecuteFlags, has}
use Rattle.mysql_wire.specs.Codec.{Codec, Fields}
use Rattle.mysql_wire.specs.Codecs.{◌>>=◌, give, field, packet, const_u8, u32, flags}
use Rattle.mysql_values.specs.declared.param_type.ParamType.{ParamType}
use Rattle.mysql_wire.specs.declared.bulk_header.InvalidComStmtBulkExecuteHeader.{InvalidComStmtBulkExecuteHeader}
use Rattle.mysql_bulk.specs.HeadTypes.{TypesFor, types_block, types_bytes, types-again}
use Rattle.mysql_bulk.specs.ParamValues.{BulkColumn}

pub record BulkHead : Type 0 where
  pub stmt_id : ℕ
  pub bulk_flags : StmtBulkExecuteFlags
  -- a type for each column, if they are sent
  pub types : List ParamType

-- types are sent with these flags
abbrev pub sends_types : StmtBulkExecuteFlags → Bool
sends_types flags = has flags.0 SEND_TYPES_TO_SERVER

-- the types of this many columns, if they are sent
abbrev pub column_types : Bool → Codec ℕ (List ParamType)
column_types sent = record {
  form = λ count. types_block sent count;
  bytes = types_bytes;
  len = λ types. length (types_bytes types);
  fits = λ count types rest. TypesFor sent count types;
  exact = λ count types rest h. refl;
  again = types-again sent;
}

abbrev pub head_fields : Fields ℕ BulkHead BulkHead
head_fields = do
  header ← field (λ h. record { 0 = record {} }) (const_u8 {T = InvalidComStmtBulkExecuteHeader} COM_STMT_BULK_EXECUTE)
  stmt_id ← field (λ h. record { 0 = h.stmt_id; 1 = record {} }) u32
  bulk_flags ← field (λ h. record { 0 = h.bulk_flags; 1 = record {} }) (flags {U = LeU16} 2)
  types ← field (λ h. h.types) (column_types (sends_types bulk_flags.0))
  give (record { stmt_id = stmt_id.0; bulk_flags = bulk_flags.0; types = types })

-- fa, the statement's number, the flags, and with SEND_TYPES_TO_SERVER the type of each column, whose number the reader gets
unfoldable pub head : Codec ℕ BulkHead
head = packet head_fields (λ h. refl)

-- the column that a type describes: its only flag is that for unsigned numbers
abbrev pub column_of_type : ParamType → BulkColumn
column_of_type t = (t.column_type, record { 0 = if has t.flags.0 UNSIGNED then UNSIGNED_FLAG else 0; 1 = record {} })

-- the columns of the values: those of the types if they are sent, otherwise the caller's
abbrev pub value_columns : List BulkColumn → BulkHead → List BulkColumn
value_columns columns h = if sends_types h.bulk_flags then map column_of_type h.types else columns
