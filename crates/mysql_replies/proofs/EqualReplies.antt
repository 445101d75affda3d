-- Packets compare equal exactly if they are equal.
use Rattle.std.proofs.Common.{◌≡◌, ◌↔◌, ◌&&◌, nat_eq, Bool, false, Decides, IsTrue, true, refl, ap, subst, rules}
use Rattle.std.proofs.lemmas.Bool.Decides.{Decides-and}
use Rattle.std.specs.Cmp.Lexicographic.{pointwise}
use Rattle.std.specs.Option.{option_eq}
use Rattle.mysql_wire.specs.contracts.codes.session_state_type.SessionStateType.{the_type}
use Rattle.mysql_replies.specs.contracts.local_infile.LocalInfilePacketPartialEq.TheImpl as derived_infile
use Rattle.mysql_replies.specs.contracts.ok_packet.OkPacketPartialEq.TheImpl as derived_ok
use Rattle.mysql_replies.specs.contracts.session_state_info.SessionStateInfoPartialEq.TheImpl as derived_info
use Rattle.mysql_replies.specs.ErrPacket.{ErrPacket}
use Rattle.mysql_replies.specs.declared.err_packet.ErrPacketOf.TheVariants as err
use Rattle.mysql_replies.specs.declared.local_infile.LocalInfilePacket.{LocalInfilePacket}
use Rattle.mysql_replies.specs.declared.ok_packet.OkPacket.{OkPacket}
use Rattle.mysql_replies.specs.ProgressReport.{ProgressReport, report_of}
use Rattle.mysql_replies.specs.ServerError.{ServerError, error_of}
use Rattle.mysql_replies.specs.declared.session_state_info.SessionStateInfo.{SessionStateInfo}
use Rattle.mysql_replies.specs.declared.sql_state.SqlState.{SqlState}
use Rattle.mysql_replies.specs.contracts.sql_state.SqlStatePartialEq.TheImpl as derived_state
use Rattle.mysql_replies.specs.LocalInfile.{file_name, request_for}
use Rattle.mysql_replies.specs.SqlState.{state_of}
use Rattle.mysql_session.proofs.Same.{and-true, numbers-same, bytes-same, codes-same, options-same}

-- ---- what the derived equality of a record of both forms computes

abbrev report_eq : ProgressReport → ProgressReport → Bool
report_eq a b =
    (nat_eq a.stage.0 b.stage.0 && true) && ((nat_eq a.max_stage.0 b.max_stage.0 && true) && ((nat_eq a.progress.0 b.progress.0 && true)
    && pointwise nat_eq a.stage_info b.stage_info))

abbrev pub error_eq : ServerError → ServerError → Bool
error_eq a b = nat_eq a.code b.code && (option_eq derived_state.ghosts.eq a.state b.state && pointwise nat_eq a.message b.message)

abbrev packet_eq : ErrPacket → ErrPacket → Bool
packet_eq (err.Error a) (err.Error b) = error_eq a b
packet_eq (err.Error a) (err.Progress b) = false
packet_eq (err.Progress a) (err.Error b) = false
packet_eq (err.Progress a) (err.Progress b) = report_eq a b

info-each : (a b : SessionStateInfo) → Decides (derived_info.ghosts.eq a b) ((a.data_type.0 ≡ b.data_type.0) × (a.content ≡ b.content))
info-each a b = Decides-and _ _ (and-true _ (codes-same the_type (search rules) a.data_type.0 b.data_type.0)) (bytes-same a.content b.content)

pub infos-same : (a b : SessionStateInfo) → IsTrue (derived_info.ghosts.eq a b) ↔ (a ≡ b)
infos-same a b = (
  λ e. let s = (info-each a b).0 e in λ i. record { data_type = record { 0 = s.0 i; 1 = record {} }; content = s.1 i },
  λ e. subst (λ (c : SessionStateInfo). derived_info.ghosts.eq a c ≡ true) e ((info-each a a).1 (refl, refl)),
)

pub local_infiles-same : (a b : LocalInfilePacket) → IsTrue (derived_infile.ghosts.eq a b) ↔ (a ≡ b)
local_infiles-same a b = (
  λ e. let s = (bytes-same a.file_name b.file_name).0 e in λ i. request_for (s i),
  λ e. (bytes-same a.file_name b.file_name).1 (ap file_name e),
)

report-each : (a b : ProgressReport) → Decides (report_eq a b) ((a.stage.0 ≡ b.stage.0) × ((a.max_stage.0 ≡ b.max_stage.0) × ((a.progress.0 ≡ b.progress.0) × (a.stage_info ≡ b.stage_info))))
report-each a b =
    Decides-and _ _ (and-true _ (numbers-same a.stage.0 b.stage.0)) (Decides-and _ _ (and-true _ (numbers-same a.max_stage.0 b.max_stage.0))
    (Decides-and _ _ (and-true _ (numbers-same a.progress.0 b.progress.0)) (bytes-same a.stage_info b.stage_info)))

pub reports-same : (a b : ProgressReport) → IsTrue (report_eq a b) ↔ (a ≡ b)
reports-same a b = (
  λ e. let s = (report-each a b).0 e in λ i. report_of (s.0 i) (s.1.0 i) (s.1.1.0 i) (s.1.1.1 i),
  λ e. subst (λ (c : ProgressReport). report_eq a c ≡ true) e ((report-each a a).1 (refl, (refl, (refl, refl)))),
)

pub states-same : (a b : SqlState) → IsTrue (derived_state.ghosts.eq a b) ↔ (a ≡ b)
states-same a b = (
  λ e. let s = (bytes-same a.state b.state).0 e in λ i. state_of (s i),
  λ e. subst (λ (c : SqlState). derived_state.ghosts.eq a c ≡ true) e ((bytes-same a.state a.state).1 refl),
)

error-each : (a b : ServerError) → Decides (error_eq a b) ((a.code ≡ b.code) × ((a.state ≡ b.state) × (a.message ≡ b.message)))
error-each a b = Decides-and _ _ (numbers-same a.code b.code) (Decides-and _ _ (options-same states-same a.state b.state) (bytes-same a.message b.message))

pub errors-same : (a b : ServerError) → IsTrue (error_eq a b) ↔ (a ≡ b)
errors-same a b = (
  λ e. let s = (error-each a b).0 e in λ i. error_of (s.0 i) (s.1.0 i) (s.1.1 i),
  λ e. subst (λ (c : ServerError). error_eq a c ≡ true) e ((error-each a a).1 (refl, (refl, refl))),
)

pub packets-same : (a b : ErrPacket) → IsTrue (packet_eq a b) ↔ (a ≡ b)
packets-same (err.Error a) (err.Error b) = (λ e. ap err.Error ((errors-same a b).0 e), λ e. (errors-same a b).1 (let h : a ≡ b = cc in h))
packets-same (err.Error a) (err.Progress b) = (λ e. absurd cc, λ e. absurd cc)
packets-same (err.Progress a) (err.Error b) = (λ e. absurd cc, λ e. absurd cc)
packets-same (err.Progress a) (err.Progress b) = (λ e. ap err.Progress ((reports-same a b).0 e), λ e. (reports-same a b).1 (let h : a ≡ b = cc in h))

ok-each : (a b : OkPacket) → Decides (derived_ok.ghosts.eq a b) ((a.affected_rows ≡ b.affected_rows) × ((a.last_insert_id ≡ b.last_insert_id) × ((a.status_flags.0 ≡ b.status_flags.0) × ((a.warnings ≡ b.warnings) × ((a.info ≡ b.info) × (a.session_state_info ≡ b.session_state_info))))))
ok-each a b =
    Decides-and _ _ (numbers-same a.affected_rows b.affected_rows) (Decides-and _ _ (options-same numbers-same a.last_insert_id b.last_insert_id)
    (Decides-and _ _ (and-true _ (numbers-same a.status_flags.0 b.status_flags.0)) (Decides-and _ _ (numbers-same a.warnings b.warnings)
    (Decides-and _ _ (options-same bytes-same a.info b.info) (options-same bytes-same a.session_state_info b.session_state_info)))))

pub ok_packets-same : (a b : OkPacket) → IsTrue (derived_ok.ghosts.eq a b) ↔ (a ≡ b)
ok_packets-same a b = (
  λ e. let s = (ok-each a b).0 e in λ i. record {
    affected_rows = s.0 i;
    last_insert_id = s.1.0 i;
    status_flags = record { 0 = s.1.1.0 i; 1 = record {} };
    warnings = s.1.1.1.0 i;
    info = s.1.1.1.1.0 i;
    session_state_info = s.1.1.1.1.1 i;
  },
  λ e. subst (λ (c : OkPacket). derived_ok.ghosts.eq a c ≡ true) e ((ok-each a a).1 (refl, (refl, (refl, (refl, (refl, refl)))))),
)

pub ruleset equal_replies = (infos-same, local_infiles-same, reports-same, states-same, errors-same, packets-same, ok_packets-same)
