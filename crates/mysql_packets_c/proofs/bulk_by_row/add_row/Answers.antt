use Rattle.std.proofs.Common.{◌≡◌, ◌<◌, ◌≤◌, ◌-◌, ◌^◌, true, length, take, arith, rules}
use Rattle.mysql_packets_c.specs.BulkByRow as spec
use Rattle.mysql_packets_c.proofs.BulkByRow.{add-fits, add-full}
use Rattle.mysql_packets_c.proofs.bulk_by_row.add_row.Goals as goal

pub returns-then-max_allowed_packet-longer-clause-writer : goal.returns-then-max_allowed_packet-longer-clause-writer
returns-then-max_allowed_packet-longer-clause-writer c = λ statement_id flags rows h.
    let may : spec.may_add c.args.max_allowed_packet c.args.used (length c.args.out.now) c.args.types.now ≡ true = search rules in
    let past : c.args.max_allowed_packet - 4 < c.saturating_add-longer.result = omega (arith, c.if-max_allowed_packet-longer.true) in
    add-full statement_id flags c.args.max_allowed_packet c.args.used c.in-Some.more c.saturating_add-longer.result c.args.types.now c.args.row.now rows c.args.out.now (take c.args.written.now c.args.out.now)
    may c.in-Some.ensures.2 c.saturating_add-longer.ensures past h

pub returns-clause-writer : goal.returns-clause-writer
returns-clause-writer c = λ statement_id flags rows h.
    let within : c.saturating_add-longer.result ≤ c.args.max_allowed_packet - 4 = omega (arith, c.if-max_allowed_packet-longer.false) in
    let top : c.args.max_allowed_packet - 4 < 2 ^ 64 - 1 = omega (arith, c.ranges.max_allowed_packet.fits) in
    let fits : c.saturating_add-longer.result ≤ length c.args.out.now = omega (arith, c.if-out-longer.false) in
    add-fits statement_id flags c.args.max_allowed_packet c.args.used c.in-Some.more c.saturating_add-longer.result c.args.types.now c.args.row.now rows c.args.out.now c.put_after.new.out
    c.in-Some.ensures.0 c.in-Some.ensures.2 c.saturating_add-longer.ensures within top fits c.put_after.ensures h
