use Rattle.std.proofs.Common.{rules, ◌≡◌, ◌≢◌, ◌<◌, ◌^◌, ◌+◌, ◌∙◌, ℕ, List, length, Some, ap, subst, arith, length-append}
use Rattle.mysql_wire.specs.Writing.{le_bytes}
use Rattle.mysql_wire.proofs.Packets.{packets}
use Rattle.mysql_replies.specs.ErrPacket.{err_packet}
use Rattle.mysql_replies.specs.ServerError.{ServerError, error_of, server_error}
use Rattle.mysql_replies.specs.SqlState.{sql_state, state_of}
use Rattle.mysql_replies.specs.declared.err_packet.ErrPacketOf.TheVariants as err
use Rattle.mysql_packets_c.specs.Output.{Puts}
use Rattle.mysql_packets_c.proofs.err_packet.myp_write_error.Goals as goal
use Rattle.mysql_packets_c.proofs.err_packet.myp_write_error.Goals.{in-0, in-5}

-- nine bytes and the message
error-length : (code : ℕ) (state message : List ℕ) → length (err_packet.bytes (err.Error (error_of code (Some (state_of state)) message))) ≡ 4 + length state + length message
unfolding err_packet server_error sql_state le_bytes
error-length code state message = grind (arith, packets, length-append)

pub returns-clause-with_state : goal.returns-clause-with_state
returns-clause-with_state c five =
    let e = c.args.error.now in
    let state : c.match-error.state ≡ Some (state_of e.sql_state.now) = elim c.match-error.branch [
      | in-0 w ↦ absurd (omega (arith, five, w.in-0))
      | in-5 w ↦ search rules
    ] in
    let same : c.new-error.result ≡ error_of e.code (Some (state_of e.sql_state.now)) e.message.now = search rules in
    let message : length e.message.now < 2 ^ 63 = search rules in
    let size = ap (λ (x : ServerError). length (err_packet.bytes (err.Error x))) same ∙ error-length e.code e.sql_state.now e.message.now in
    let short : c.put_packet.result ≢ 4 = λ four. omega (arith, (c.put_packet.ensures.long four).long, size, five, message) in
    subst (λ (x : ServerError). Puts (err_packet.bytes (err.Error x)) c.put_packet.result c.args.out.now c.put_packet.new.out c.put_packet.new.written) same (c.put_packet.ensures.puts short)
