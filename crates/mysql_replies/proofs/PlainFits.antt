-- The plain conditions are enough for the round trip.
use Rattle.std.proofs.Common.{◌≡◌, ◌<◌, ◌^◌, ℕ, List, [], ◌++◌, length, Option, Some, None, Bool, refl, arith}
use Rattle.std.proofs.lemmas.List.{append-nil}
use Rattle.mysql_wire.specs.CodecAgain.{option_fits}
use Rattle.mysql_wire.specs.Codecs.{without_context, u8}
use Rattle.mysql_wire.specs.declared.int.RawInt.{RawInt}
use Rattle.mysql_replies.specs.declared.session_capabilities.SessionCapabilities.{SessionCapabilities}
use Rattle.mysql_replies.specs.declared.column_count.ColumnCount.{ColumnCount}
use Rattle.mysql_replies.specs.ColumnCount.{column_count, says_follow, IsSaid, SaysByte, ColumnCountFits}
use Rattle.mysql_replies.specs.declared.column.Column.{Column}
use Rattle.mysql_replies.specs.declared.local_infile.LocalInfilePacket.{LocalInfilePacket}
use Rattle.mysql_replies.specs.ProgressReport.{ProgressReport, progress_report, ProgressReportFits}
use Rattle.mysql_replies.specs.ServerError.{ServerError, server_error, error_code, sql_state_of, StateFits}
use Rattle.mysql_replies.specs.declared.session_state_info.SessionStateInfo.{SessionStateInfo}
use Rattle.mysql_replies.specs.declared.sql_state.SqlState.{SqlState}
use Rattle.mysql_replies.specs.Column.{column, ColumnFits}
use Rattle.mysql_replies.specs.ColumnFields.{column_fields}
use Rattle.mysql_replies.specs.ColumnNames.{column_meta}
use Rattle.mysql_replies.specs.LocalInfile.{local_infile}
use Rattle.mysql_replies.specs.SessionStateInfo.{session_state_info, data_bytes}
use Rattle.mysql_replies.specs.SqlState.{sql_state, state_bytes}

pub column-plain : (c : Column) (rest : List ℕ) → ColumnFits c → (column.form tt).Spells c (column.bytes c ++ rest) rest
unfolding column column_fields column_meta
column-plain c rest h = column.again tt c rest
    (refl, ((h.schema, (h.table, (h.org_table, (h.name, (h.org_name, tt))))), ((tt, (h.character_set, (h.column_length, (tt, (h.flags, (h.decimals, (tt, tt))))))), tt)))

pub local_infile-plain : (p : LocalInfilePacket) → (local_infile.form tt).Spells p (local_infile.bytes p) []
unfolding local_infile
local_infile-plain p = rw append-nil at (local_infile.again tt p [] (tt, (refl, tt)))

pub progress_report-plain : (r : ProgressReport) (rest : List ℕ) → ProgressReportFits r → (progress_report.form tt).Spells r (progress_report.bytes r ++ rest) rest
unfolding progress_report
progress_report-plain r rest h = progress_report.again tt r rest ((omega arith, (h.stage, (h.max_stage, (h.progress, tt)))), (h.stage_info, tt))

state-fits : (c : ℕ × Bool) (state : Option SqlState) (rest : List ℕ) → StateFits c.1 state → option_fits (without_context sql_state) c.1 c state rest
unfolding sql_state
state-fits c None rest h = h
state-fits c (Some state) rest h = (h.0, (tt, (h.1, tt)))

pub server_error-plain : (has_state : Bool) (e : ServerError) → StateFits has_state (sql_state_of e) → (server_error.form (error_code e, has_state)).Spells e (server_error.bytes e) []
unfolding server_error
server_error-plain has_state e h = rw (append-nil (server_error.bytes e)) at (server_error.again (error_code e, has_state) e [] (refl, (state-fits (e.code, has_state) e.state _ h, (refl, tt))))

pub session_state_info-plain : (i : SessionStateInfo) (rest : List ℕ) → length (data_bytes i) < 2 ^ 64 → (session_state_info.form tt).Spells i (session_state_info.bytes i ++ rest) rest
unfolding session_state_info
session_state_info-plain i rest h = session_state_info.again tt i rest (tt, (h, tt))

pub sql_state-plain : (s : SqlState) (rest : List ℕ) → length (state_bytes s) ≡ 5 → (sql_state.form tt).Spells s (sql_state.bytes s ++ rest) rest
unfolding sql_state
sql_state-plain s rest h = sql_state.again tt s rest (tt, (h, tt))

said-fits : (capabilities : SessionCapabilities) (says : Bool) (byte : Option (RawInt ℕ ℕ)) (rest : List ℕ) → SaysByte byte → IsSaid says byte → option_fits u8 says capabilities byte rest
said-fits capabilities says None rest width said = said
said-fits capabilities says (Some b) rest width said = (said, width)

pub column_count-plain : (capabilities : SessionCapabilities) (c : ColumnCount) (rest : List ℕ) → ColumnCountFits capabilities c
    → (column_count.form capabilities).Spells c (column_count.bytes c ++ rest) rest
unfolding column_count
column_count-plain capabilities c rest h =
    column_count.again capabilities c rest (
      h.count,
      (said-fits capabilities (says_follow capabilities) c.metadata_follows rest h.byte h.matches_type, tt),
    )

pub ruleset plain = (column_count-plain, column-plain, local_infile-plain, progress_report-plain, server_error-plain, session_state_info-plain, sql_state-plain)
