-- A reader that doesn't allocate returns the fault of the form.
use Rattle.std.proofs.Common.{◌≡◌, Option, None, ap, Err, false, refl, ◌∙◌}
use Rattle.mysql_wire.specs.Reading.{Reading, Faults}
use Rattle.mysql_wire.specs.declared.fault.FaultKind.{FaultKind}
use Rattle.mysql_wire.specs.declared.fault.FaultOf.{FaultOf}
use Rattle.mysql_wire.specs.declared.fault.FaultOf.TheVariants as fault
use Rattle.mysql_replies.specs.declared.ok_packet.OkPacketDeserializer.{OkPacketDeserializer}
use Rattle.mysql_stmt.specs.declared.stmt_with_metadata.StmtPacketWithMetadata.{StmtPacketWithMetadata}
use Rattle.mysql_replies.specs.declared.column_count.ColumnCount.{ColumnCount}
use Rattle.mysql_auth.specs.Handshake.{HandshakePacket}
use Rattle.mysql_auth.specs.declared.ssl_request.SslRequest.{SslRequest}
use Rattle.mysql_conversation.specs.SessionSteps.{greeting_in, login_in}
use Rattle.mysql_conversation.specs.Machine.{status_in, count_in, statement_in}

-- a refused reading yields nothing
pub nothing_found : {A B : Type 0} (found : Reading A → Option B) → ((kind : FaultKind) → found (Err kind) ≡ None) → (e : FaultOf) (read : Reading A) → Faults false e read → found read ≡ None
nothing_found found nothing fault.Memory read h = absurd cc
nothing_found found nothing _ read h = ap found h ∙ nothing _

pub status-fault : {T : Type 0} (e : FaultOf) (read : Reading (OkPacketDeserializer T)) → Faults false e read → status_in read ≡ None
status-fault = nothing_found status_in (λ kind. refl)

pub count-fault : (e : FaultOf) (read : Reading ColumnCount) → Faults false e read → count_in read ≡ None
count-fault = nothing_found count_in (λ kind. refl)

pub statement-fault : (e : FaultOf) (read : Reading StmtPacketWithMetadata) → Faults false e read → statement_in read ≡ None
statement-fault = nothing_found statement_in (λ kind. refl)

pub greeting-fault : (e : FaultOf) (read : Reading HandshakePacket) → Faults false e read → greeting_in read ≡ None
greeting-fault = nothing_found greeting_in (λ kind. refl)

pub login-fault : (e : FaultOf) (read : Reading SslRequest) → Faults false e read → login_in read ≡ None
login-fault = nothing_found login_in (λ kind. refl)

pub ruleset faults = (status-fault, count-fault, statement-fault, greeting-fault, login-fault)
