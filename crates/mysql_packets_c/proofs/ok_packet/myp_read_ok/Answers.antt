use Rattle.std.proofs.Common.{rules, ◌≡◌, subst}
use Rattle.mysql_wire.specs.Flags.{CapabilityFlags}
use Rattle.mysql_packets_c.specs.Code.{ReadsInto}
use Rattle.mysql_packets_c.specs.OkPacket.{IsOk, common_ok, terminator}
use Rattle.mysql_replies.specs.declared.ok_kind.CommonOkPacket.{CommonOkPacket}
use Rattle.mysql_replies.specs.declared.ok_kind.ResultSetTerminator.{ResultSetTerminator}
use Rattle.mysql_packets_c.proofs.ok_packet.myp_read_ok.Goals as goal

pub returns-in-0-clause-common : goal.returns-in-0-clause-common
returns-in-0-clause-common c = λ h.
    let e : c.from_bits_retain-capabilities.result ≡ record { 0 = c.args.capabilities; 1 = record {} } = search rules in
    subst (λ (flags : CapabilityFlags). ReadsInto (IsOk {T = CommonOkPacket} c.args.packet.now) ((common_ok flags).reads c.args.packet.now) c.read_common.result c.args.out.now c.read_common.new.out) e c.read_common.ensures.value

pub returns-in-1-clause-terminator : goal.returns-in-1-clause-terminator
returns-in-1-clause-terminator c = λ h.
    let e : c.from_bits_retain-capabilities.result ≡ record { 0 = c.args.capabilities; 1 = record {} } = search rules in
    subst (λ (flags : CapabilityFlags). ReadsInto (IsOk {T = ResultSetTerminator} c.args.packet.now) ((terminator flags).reads c.args.packet.now) c.read_terminator.result c.args.out.now c.read_terminator.new.out) e c.read_terminator.ensures.value
