use Rattle.std.proofs.Common.{refl}
use Rattle.mysql_packets_c.proofs.BulkRows.{rows-written}
use Rattle.mysql_packets_c.proofs.bulk.put_request.Goals as goal

pub returns-then-code-eq-OK : goal.returns-then-code-eq-OK
returns-then-code-eq-OK c =
    rows-written c.args.call.now c.args.values.now c.args.count c.args.len c.put_packet-code.result c.args.out.now c.put_packet-code.new.out c.put_packet-code.new.written c.args.count
    c.requires.counted c.requires.some c.requires.limit c.put_packet-code.ensures (λ e. refl) (λ n. absurd (n c.if-code-eq-OK.true))

pub returns-else-code-eq-OK : goal.returns-else-code-eq-OK
returns-else-code-eq-OK c =
    rows-written c.args.call.now c.args.values.now c.args.count c.args.len c.put_packet-code.result c.args.out.now c.put_packet-code.new.out c.put_packet-code.new.written c.args.rows.now
    c.requires.counted c.requires.some c.requires.limit c.put_packet-code.ensures (λ e. absurd (c.if-code-eq-OK.false e)) (λ n. c.requires.none_yet)
