-- Errors and progress reports.
use Rattle.std.specs.Prelude.{◌≡◌, ℕ, ◌<◌, ◌^◌, List, [], length, Option, Some, None, is_some, Bool, true, false, IsTrue, IsFalse, ◌&&◌, ◌==◌, refl}
use Rattle.std.proofs.Common.{◌⊎◌, inl, inr}
use Rattle.mysql_wire.specs.FlagMasks.{CLIENT_PROGRESS_OBSOLETE, CLIENT_PROTOCOL_41}
use Rattle.mysql_wire.specs.Flags.{CapabilityFlags, has}
use Rattle.mysql_wire.specs.Codecs.{Codec, Fields, ◌>>=◌, give, field, block, packet, with_context, without_context, either, const_u8, u16, raw_int}
use Rattle.mysql_replies.specs.declared.faults.InvalidErrPacketHeader.{InvalidErrPacketHeader}
use Rattle.mysql_replies.specs.declared.err_packet.ErrPacketOf.{ErrPacketOf}
use Rattle.mysql_replies.specs.declared.err_packet.ErrPacketOf.TheVariants as err
use Rattle.mysql_replies.specs.ProgressReport.{ProgressReport, progress_report, progress_text, stage, max_stage, progress, stage_info}
use Rattle.mysql_replies.specs.ServerError.{ServerError, error_code, sql_state_of, server_error, error_text, StateFits}
use Rattle.mysql_replies.specs.declared.sql_state.SqlState.{SqlState}
use Rattle.mysql_replies.specs.SqlState.{state_bytes}

-- the owned and the borrowed form in a clause
abbrev pub ErrPacket : Type 0
ErrPacket = ErrPacketOf ServerError ProgressReport

abbrev pub is_error : {E R : Type 0} → ErrPacketOf E R → Bool
is_error (err.Error e) = true
is_error (err.Progress r) = false

abbrev pub is_progress_report : {E R : Type 0} → ErrPacketOf E R → Bool
is_progress_report (err.Error e) = false
is_progress_report (err.Progress r) = true

abbrev pub takes_progress : CapabilityFlags → Bool
takes_progress capabilities = has capabilities.0 CLIENT_PROGRESS_OBSOLETE

abbrev pub sends_state : CapabilityFlags → Bool
sends_state capabilities = has capabilities.0 CLIENT_PROTOCOL_41

-- the code of an error; ffff for a report
abbrev pub packet_code : ErrPacket → ℕ
packet_code (err.Error e) = error_code e
packet_code (err.Progress r) = 0xffff

abbrev pub report_or_error : ErrPacket → ProgressReport ⊎ ServerError
report_or_error (err.Error e) = inr e
report_or_error (err.Progress r) = inl r

-- ff, and the code
abbrev pub err_head : Fields CapabilityFlags ErrPacket ℕ
err_head = do
  header ← field (λ p. record { 0 = record {} }) (const_u8 {T = InvalidErrPacketHeader} 0xff)
  code ← field (λ p. raw_int (packet_code p)) u16
  give code.0

-- Three bytes with the code. After ffff, if the client accepts reports, a progress report; otherwise an error, with an SQL state under
-- protocol 4.1.
abbrev pub err_packet_fields : Fields CapabilityFlags ErrPacket ErrPacket
err_packet_fields = do
  code ← block 3 err_head (λ p. refl)
  whole ← either (λ capabilities. code == 0xffff && takes_progress capabilities)
      report_or_error
      err.Progress (without_context progress_report)
      err.Error (with_context (λ capabilities. (code, sends_state capabilities)) server_error)
  give whole

pub same-err_packet : (p : ErrPacket) → err_packet_fields.value p ≡ p
same-err_packet (err.Error e) = refl
same-err_packet (err.Progress r) = refl

unfoldable pub err_packet : Codec CapabilityFlags ErrPacket
err_packet = packet err_packet_fields same-err_packet

-- the part's
abbrev pub err_text : ErrPacket → List ℕ
err_text (err.Error e) = error_text e
err_text (err.Progress r) = progress_text r

-- when an error is read back: a state exactly under protocol 4.1, with five bytes; it is not read as a report, and nothing follows
pub record ErrorFits (capabilities : CapabilityFlags) (e : ServerError) (rest : List ℕ) : Type 0 where
  pub code : error_code e < 2 ^ 16
  pub state : StateFits (sends_state capabilities) (sql_state_of e)
  pub no_report : IsFalse (error_code e == 0xffff && takes_progress capabilities)
  pub at_end : rest ≡ []

-- when a report is read back: the client accepts reports
pub record ReportFits (capabilities : CapabilityFlags) (r : ProgressReport) : Type 0 where
  pub taken : IsTrue (takes_progress capabilities)
  pub stage : stage r < 2 ^ 8
  pub max_stage : max_stage r < 2 ^ 8
  pub progress : progress r < 2 ^ 24
  pub stage_info : length (stage_info r) < 2 ^ 64

abbrev pub ErrPacketFits : CapabilityFlags → ErrPacket → List ℕ → Type 0
ErrPacketFits capabilities (err.Error e) rest = ErrorFits capabilities e rest
ErrPacketFits capabilities (err.Progress r) rest = ReportFits capabilities r

-- the flags of both sides match the packet: a report is accepted, and its progress fits in three bytes; an error has a state exactly under
-- protocol 4.1, and isn't read as a report
abbrev pub SuitsFlags : CapabilityFlags → ErrPacket → Type 0
SuitsFlags capabilities (err.Error e) = (is_some (sql_state_of e) ≡ sends_state capabilities) × IsFalse (error_code e == 0xffff && takes_progress capabilities)
SuitsFlags capabilities (err.Progress r) = IsTrue (takes_progress capabilities) × (progress r < 2 ^ 24)

-- a state has five bytes
abbrev pub StateHasWidth : Option SqlState → Type 0
StateHasWidth None = Unit {0}
StateHasWidth (Some state) = length (state_bytes state) ≡ 5

-- numbers within their widths, except for a report's progress, whose type is wider
abbrev pub HasWidths : ErrPacket → Type 0
HasWidths (err.Error e) = (error_code e < 2 ^ 16) × StateHasWidth (sql_state_of e)
HasWidths (err.Progress r) = (stage r < 2 ^ 8) × (max_stage r < 2 ^ 8) × (length (stage_info r) < 2 ^ 64)
