-- Errors and progress reports, in C.
use Rattle.std.specs.Option.{unwrap_or}
use Rattle.std.specs.Prelude.{◌≡◌, ℕ, List, [], option_map, Option}
use Rattle.mysql_replies.specs.ProgressReport as report
use Rattle.mysql_replies.specs.ProgressReport.{ProgressReport, report_of}
use Rattle.mysql_replies.specs.ServerError as error
use Rattle.mysql_replies.specs.ServerError.{ServerError, error_of}
use Rattle.mysql_replies.specs.SqlState.{state_bytes}
use Rattle.mysql_replies.specs.ErrPacket.{ErrPacket}
use Rattle.mysql_replies.specs.declared.err_packet.ErrPacketOf.TheVariants as err
use Rattle.mysql_replies.specs.declared.sql_state.SqlState.{SqlState}
use Rattle.mysql_packets_c.specs.Input.{used_of}
use Rattle.mysql_packets_c.specs.declared.err_packet.CError.{CError}

-- an empty text stands for no SQL state
pub record HoldsError (e : ServerError) (taken : ℕ) (out : CError) : Type 0 where
  pub is_progress : out.is_progress ≡ 0
  pub code : out.code ≡ error.error_code e
  pub sql_state : out.sql_state.now ≡ unwrap_or (option_map state_bytes (error.sql_state_of e)) []
  pub message : out.message.now ≡ error.message e
  pub stage : out.stage ≡ 0
  pub max_stage : out.max_stage ≡ 0
  pub progress : out.progress ≡ 0
  pub used : out.used ≡ taken

pub record HoldsReport (r : ProgressReport) (taken : ℕ) (out : CError) : Type 0 where
  pub is_progress : out.is_progress ≡ 1
  pub code : out.code ≡ 0xffff
  pub sql_state : out.sql_state.now ≡ []
  pub message : out.message.now ≡ report.stage_info r
  pub stage : out.stage ≡ report.stage r
  pub max_stage : out.max_stage ≡ report.max_stage r
  pub progress : out.progress ≡ report.progress r
  pub used : out.used ≡ taken

abbrev pub HoldsAnswer : ErrPacket → ℕ → CError → Type 0
HoldsAnswer (err.Error e) used out = HoldsError e used out
HoldsAnswer (err.Progress r) used out = HoldsReport r used out

abbrev pub IsAnswer : List ℕ → ErrPacket → List ℕ → CError → Type 0
IsAnswer packet p rest out = HoldsAnswer p (used_of packet rest) out

-- the error with this SQL state, and with the code and message of the fields
abbrev pub error_given : Option SqlState → CError → ErrPacket
error_given state c = err.Error (error_of c.code state c.message.now)

-- the report with these fields
abbrev pub report_given : CError → ErrPacket
report_given c = err.Progress (report_of c.stage c.max_stage c.progress c.message.now)
