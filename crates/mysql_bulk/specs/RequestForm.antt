-- Bulk requests in the bytes.
use Rattle.std.specs.Prelude.{ℕ, List, length, Bool, is_ok, ◌&&◌}
use Rattle.mysql_wire.specs.CommandCodes.{COM_STMT_BULK_EXECUTE}
use Rattle.mysql_wire.specs.Seq.{is_any}
use Rattle.mysql_wire.specs.Codecs.{const_u8, u32, flags}
use Rattle.mysql_wire.specs.declared.constant_value.Const.{Const}
use Rattle.mysql_wire.specs.declared.little_endian.LeU16.{LeU16}
use Rattle.mysql_wire.specs.Flags.{StmtBulkExecuteFlags}
use Rattle.mysql_wire.specs.declared.bulk_header.InvalidComStmtBulkExecuteHeader.{InvalidComStmtBulkExecuteHeader}
use Rattle.mysql_wire.specs.Form.{Form, ◌>>=◌, give}
use Rattle.mysql_bulk.specs.ParamValue.{ParamValue}
use Rattle.mysql_bulk.specs.ParamValues.{BulkColumn, values_of_columns}
use Rattle.mysql_bulk.specs.Head.{BulkHead, head, value_columns}
use Rattle.mysql_bulk.specs.Request.{BulkRequest}

-- the request with this head and these values
abbrev pub with_head : BulkHead → List ParamValue → BulkRequest
with_head h values = record { stmt_id = h.stmt_id; bulk_flags = h.bulk_flags; types = h.types; values = values }

-- the head, and one row
abbrev pub bulk_request : List BulkColumn → Form BulkRequest
bulk_request columns = do
  h ← head.form (length columns)
  values ← values_of_columns (value_columns columns h)
  give (with_head h values)

-- the header, the statement's number and the flags
abbrev pub head_start : Form (Const StmtBulkExecuteFlags LeU16)
head_start = do
  header ← (const_u8 {C = Unit {0}} {T = InvalidComStmtBulkExecuteHeader} COM_STMT_BULK_EXECUTE).form tt
  stmt_id ← (u32 {C = Unit {0}}).form tt
  (flags {C = Unit {0}} {U = LeU16} 2).form tt

-- there are columns, and a request begins here: what is read of the columns is kept in lists
abbrev pub keeps_lists : ℕ → List ℕ → Bool
keeps_lists columns bytes = is_any columns && is_ok (head_start.reads bytes)
