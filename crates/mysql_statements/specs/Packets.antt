-- What packets say about statements.
use Rattle.std.specs.Prelude.{ℕ, List, Option, Some, None, Ok, Err}
use Rattle.mysql_wire.specs.FlagMasks.{UNSIGNED_FLAG}
use Rattle.mysql_wire.specs.Flags.{has}
use Rattle.mysql_wire.specs.Form.{Form, ◌>>=◌, give}
use Rattle.mysql_wire.specs.Int.{byte, le_u32}
use Rattle.mysql_wire.specs.Reading.{Reading}
use Rattle.mysql_replies.specs.Column.{column_type, flags}
use Rattle.mysql_replies.specs.ExtendedColumn.{extended_column, column_of}
use Rattle.mysql_replies.specs.declared.column.Column.{Column}
use Rattle.mysql_replies.specs.declared.extended_column.ExtendedColumn.{ExtendedColumn}
use Rattle.mysql_stmt.specs.LongData.{long_data, stmt_id, param_index}
use Rattle.mysql_stmt.specs.Stmt.{stmt, statement_id}
use Rattle.mysql_stmt.specs.declared.long_data.ComStmtSendLongData.{ComStmtSendLongData}
use Rattle.mysql_stmt.specs.declared.stmt.StmtPacket.{StmtPacket}
use Rattle.mysql_conversation.specs.Agreements.{Agreed}
use Rattle.mysql_statements.specs.declared.row_column.RowColumn.{RowColumn}

-- the statement's number, after the command byte
abbrev pub numbered : Form ℕ
numbered = do
  code ← byte
  id ← le_u32
  give id.0

abbrev pub number_in : Reading ℕ → Option ℕ
number_in (Ok x) = Some x.0
number_in (Err e) = None

unfoldable pub number_at : List ℕ → Option ℕ
number_at p = number_in (numbered.reads p)

-- the number of a prepared statement
abbrev pub prepared_in : Reading StmtPacket → Option ℕ
prepared_in (Ok x) = Some (statement_id x.0)
prepared_in (Err e) = None

unfoldable pub prepared_at : List ℕ → Option ℕ
prepared_at p = prepared_in ((stmt.form tt).reads p)

-- a column or a parameter, by its definition
abbrev pub row_column : Column → RowColumn
row_column c = record { column_type = column_type c; is_unsigned = has (flags c).0 UNSIGNED_FLAG }

abbrev pub column_in : Reading ExtendedColumn → Option RowColumn
column_in (Ok x) = Some (row_column (column_of x.0))
column_in (Err e) = None

unfoldable pub column_at : Agreed → List ℕ → Option RowColumn
column_at a p = column_in ((extended_column.form a.mariadb).reads p)

-- the statement's number, and the parameter whose long data is sent
abbrev pub data_in : Reading ComStmtSendLongData → Option (ℕ × ℕ)
data_in (Ok x) = Some (stmt_id x.0, param_index x.0)
data_in (Err e) = None

unfoldable pub data_at : List ℕ → Option (ℕ × ℕ)
data_at p = data_in ((long_data.form tt).reads p)
