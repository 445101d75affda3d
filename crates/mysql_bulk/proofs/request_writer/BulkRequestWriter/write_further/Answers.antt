use Rattle.std.proofs.Common.{◌≤◌, ◌+◌, ◌-◌, vec_len, vec_capacity, ap, arith, rules}
use Rattle.mysql_bulk.specs.RequestWriter.{WriterState}
use Rattle.mysql_bulk.proofs.request_writer.BulkRequestWriter.write_further.Goals as goal

pub append_to-requires : goal.append_to-requires
append_to-requires g c =
    let capacity : vec_len c.reserve.new.self + (c.args.size - c.self.inside.size) ≤ vec_capacity c.reserve.new.self = search rules in
    omega (arith, capacity, c.requires, ap (λ (w : WriterState). w.size) c.self.view_is)
