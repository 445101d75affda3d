use Rattle.std.proofs.Common.{◌≡◌, true, rules}
use Rattle.mysql_bulk.proofs.HeadTypes.{no_types_sent}
use Rattle.mysql_bulk.proofs.head.read_types_sent.Goals as goal

pub returns-then-count-eq0-clause-value : goal.returns-then-count-eq0-clause-value
returns-then-count-eq0-clause-value c =
    let sent : c.args.sent ≡ true = search rules in
    no_types_sent c.args.sent c.args.count c.new-then-count-eq0.result.items c.args.buf.now sent c.if-count-eq0.true c.new-then-count-eq0.ensures.items
