-- The fields of replies.
use Rattle.std.specs.Prelude.{List, [], ◌∷◌, ◌++◌, codes, option_map}
use Rattle.mysql_replies.specs.declared.column_count.ColumnCount.{ColumnCount}
use Rattle.mysql_replies.specs.declared.local_infile.LocalInfilePacket.{LocalInfilePacket}
use Rattle.mysql_replies.specs.declared.ok_packet.OkPacket.{OkPacket}
use Rattle.mysql_replies.specs.ProgressReport.{ProgressReport, progress, stage, max_stage, stage_info}
use Rattle.mysql_replies.specs.ServerError.{ServerError, error_code, sql_state_of, message}
use Rattle.mysql_replies.specs.ColumnCount.{count, metadata_follows}
use Rattle.mysql_replies.specs.LocalInfile.{file_name}
use Rattle.mysql_replies.specs.OkPacket.{affected_rows, last_insert_id, status_flags, warnings, info}
use Rattle.mysql_replies.specs.SqlState.{state_bytes}
use Rattle.mysql_stmt.specs.declared.stmt.StmtPacket.{StmtPacket}
use Rattle.mysql_stmt.specs.Stmt.{statement_id, num_columns, num_params, warning_count}
use Rattle.mysql_show.specs.Fields.{Said, said, Number, Bytes, Flag, OptionalNumber, OptionalBytes}

abbrev pub error_fields : ServerError → List Said
error_fields e =
    said (codes "error") (Number (error_code e))
    ∷ said (codes "sql_state") (OptionalBytes (option_map state_bytes (sql_state_of e)))
    ∷ said (codes "message") (Bytes (message e))
    ∷ []

abbrev pub report_fields : ProgressReport → List Said
report_fields r =
    said (codes "progress") (Number (progress r))
    ∷ said (codes "stage") (Number (stage r))
    ∷ said (codes "max_stage") (Number (max_stage r))
    ∷ said (codes "stage_info") (Bytes (stage_info r))
    ∷ []

abbrev pub count_fields : ColumnCount → List Said
count_fields c = said (codes "count") (Number (count c)) ∷ said (codes "metadata_follows") (Flag (metadata_follows c)) ∷ []

-- an EOF packet has only these two
abbrev pub end_fields : OkPacket → List Said
end_fields ok = said (codes "status_flags") (Number (status_flags ok).0) ∷ said (codes "warnings") (Number (warnings ok)) ∷ []

-- the end of a result has no affected rows and no last insert id
abbrev pub terminator_fields : OkPacket → List Said
terminator_fields ok = end_fields ok ++ said (codes "info") (OptionalBytes (info ok)) ∷ []

abbrev pub ok_fields : OkPacket → List Said
ok_fields ok = said (codes "affected_rows") (Number (affected_rows ok)) ∷ said (codes "last_insert_id") (OptionalNumber (last_insert_id ok)) ∷ terminator_fields ok

abbrev pub statement_fields : StmtPacket → List Said
statement_fields s =
    said (codes "statement_id") (Number (statement_id s))
    ∷ said (codes "num_columns") (Number (num_columns s))
    ∷ said (codes "num_params") (Number (num_params s))
    ∷ said (codes "warning_count") (Number (warning_count s))
    ∷ []

abbrev pub infile_fields : LocalInfilePacket → List Said
infile_fields f = said (codes "file_name") (Bytes (file_name f)) ∷ []
