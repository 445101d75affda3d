-- The command `ok`.
use Rattle.std.specs.Prelude.{ℕ, List, ◌∷◌, [], ◌++◌, length, Ok, Err, codes}
use Rattle.mysql_wire.specs.Flags.{CapabilityFlags}
use Rattle.mysql_wire.specs.Form.{Form}
use Rattle.mysql_wire.specs.Reading.{Reading, then_read}
use Rattle.mysql_session.specs.declared.session_state_change.SessionStateChange.{SessionStateChange}
use Rattle.mysql_replies.specs.declared.ok_kind.OkPacketBody.{OkPacketBody}
use Rattle.mysql_replies.specs.declared.ok_kind.CommonOkPacket.{CommonOkPacket}
use Rattle.mysql_replies.specs.declared.ok_kind.ResultSetTerminator.{ResultSetTerminator}
use Rattle.mysql_replies.specs.declared.ok_kind.OldEofPacket.{OldEofPacket}
use Rattle.mysql_replies.specs.declared.ok_kind.NetworkStreamTerminator.{NetworkStreamTerminator}
use Rattle.mysql_replies.specs.declared.ok_packet.OkPacket.{OkPacket}
use Rattle.mysql_replies.specs.declared.session_state_info.SessionStateInfo.{SessionStateInfo}
use Rattle.mysql_replies.specs.OkKind.{common_ok_body, terminator_body, old_eof_body}
use Rattle.mysql_replies.specs.OkPacket.{ok_packet, packet}
use Rattle.mysql_replies.specs.OkPacket.{session_state, state_bytes}
use Rattle.mysql_replies.specs.SessionStateInfo.{state_string}
use Rattle.mysql_program.specs.declared.commands.ok.OkKind.{OkKind}
use Rattle.mysql_program.specs.declared.commands.ok.OkKind.TheVariants as ok_kind
use Rattle.mysql_program.specs.declared.commands.change_layout.ChangeLayout.{ChangeLayout}
use Rattle.mysql_program.specs.ChangeLayout.{decoded_in}
use Rattle.mysql_show.specs.Fields.{said, Number, OptionalBytes}
use Rattle.mysql_show.specs.FieldText.{lines_of}
use Rattle.mysql_show.specs.Replies.{ok_fields}
use Rattle.mysql_program.specs.Change.{change_line}
use Rattle.mysql_program.specs.Answer.{Answer, done, refused}

-- the packet of a kind with this header and this body
abbrev pub packet_reading : (T : Type 0) → ℕ → Form OkPacketBody → List ℕ → Reading OkPacket
packet_reading T header body bytes = then_read ((ok_packet {T = T} header body).reads bytes) (λ d rest. Ok (packet d, rest))

abbrev pub ok_reading : OkKind → CapabilityFlags → List ℕ → Reading OkPacket
ok_reading ok_kind.Common capabilities = packet_reading CommonOkPacket 0 (common_ok_body capabilities)
ok_reading ok_kind.Terminator capabilities = packet_reading ResultSetTerminator 0xfe (terminator_body capabilities)
ok_reading ok_kind.Eof capabilities = packet_reading OldEofPacket 0xfe (old_eof_body capabilities)
ok_reading ok_kind.Stream capabilities = packet_reading NetworkStreamTerminator 0xfe (old_eof_body capabilities)

-- the lines of the packet's own fields
abbrev pub field_lines : OkPacket → List ℕ
field_lines p = lines_of (ok_fields p) ++ lines_of (said (codes "session_state_info") (OptionalBytes (session_state p)) ∷ [])

-- a line for a change, and what follows it; or the error of the change
abbrev pub with_change : List ℕ → Reading SessionStateChange → (List ℕ → Answer) → Answer
with_change lines (Ok x) next = next (lines ++ change_line x.0)
with_change lines (Err k) next = refused lines k

-- a line for each change, up to the first error
abbrev pub with_changes : ChangeLayout → List ℕ → ℕ → List SessionStateInfo → Answer
with_changes layout lines rest [] = done (lines ++ lines_of (said (codes "rest") (Number rest) ∷ []))
with_changes layout lines rest (i ∷ infos) = with_change lines (decoded_in layout i) (λ more. with_changes layout more rest infos)

-- the list of changes is read completely before the first of their lines
abbrev pub with_session_state : ChangeLayout → List ℕ → ℕ → Reading (List SessionStateInfo) → Answer
with_session_state layout lines rest (Ok x) = with_changes layout lines rest x.0
with_session_state layout lines rest (Err k) = refused lines k

abbrev pub packet_answer : ChangeLayout → Reading OkPacket → Answer
packet_answer layout (Ok x) = with_session_state layout (field_lines x.0) (length x.1) (state_string.reads (state_bytes x.0))
packet_answer layout (Err k) = refused [] k

abbrev pub ok_answer : OkKind → CapabilityFlags → ChangeLayout → List ℕ → Answer
ok_answer kind capabilities layout bytes = packet_answer layout (ok_reading kind capabilities bytes)
