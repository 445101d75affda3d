use Rattle.std.proofs.Common.{◌≡◌, rules}
use Rattle.mysql_packets_c.proofs.BinaryRows.{longlong-saturated}
use Rattle.mysql_packets_c.proofs.binary_row.is_longlong.Goals as goal

pub returns-in-MYSQL_TYPE_LONGLONG-clause-len : goal.returns-in-MYSQL_TYPE_LONGLONG-clause-len
returns-in-MYSQL_TYPE_LONGLONG-clause-len c = λ h.
    let two : c.args.value.now.kind ≡ 2 = search rules in
    longlong-saturated c.args.column.now c.args.value.now two (search rules)
