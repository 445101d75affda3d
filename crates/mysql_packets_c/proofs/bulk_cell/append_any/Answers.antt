use Rattle.std.proofs.Common.{length, sym, ap, arith}
use Rattle.mysql_packets_c.proofs.Appends.{as-bytes}
use Rattle.mysql_packets_c.proofs.BulkCells.{default-value, ignore-value}
use Rattle.mysql_packets_c.proofs.bulk_cell.append_any.Goals as goal

pub push_byte-requires : goal.push_byte-requires
push_byte-requires g c = omega (arith, ap length (default-value c.args.column.now c.args.value.now c.in-9.is).1, c.requires)

pub returns-in-9 : goal.returns-in-9
returns-in-9 g c =
    let e = c.push_byte.ensures in
    as-bytes (sym (default-value c.args.column.now c.args.value.now c.in-9.is).1) (record { items = e.items; after = e.after; capacity = e.capacity; kept = e.kept })

pub push_byte-requires-in-10 : goal.push_byte-requires-in-10
push_byte-requires-in-10 g c = omega (arith, ap length (ignore-value c.args.column.now c.args.value.now c.in-10.is).1, c.requires)

pub returns-in-10 : goal.returns-in-10
returns-in-10 g c =
    let e = c.push_byte-in-10.ensures in
    as-bytes (sym (ignore-value c.args.column.now c.args.value.now c.in-10.is).1) (record { items = e.items; after = e.after; capacity = e.capacity; kept = e.kept })
