use Rattle.std.proofs.Common.{◌≡◌, ◌≤◌, ◌+◌, ◌*◌, vec_len, vec_capacity, if◌then◌else◌, List, length, refl, ◌∙◌, ap, arith, length-append, rules}
use Rattle.mysql_values.specs.declared.param_type.ParamType.{ParamType}
use Rattle.mysql_bulk.specs.Head.{BulkHead, head}
use Rattle.mysql_bulk.proofs.RequestBytes.{length-head, length-sent}
use Rattle.mysql_bulk.proofs.request_writer.BulkRequestWriter.write_first.Goals as goal

pub append_head-requires : goal.append_head-requires
append_head-requires g c =
    let capacity : vec_len c.reserve.new.self + c.in-Some-request_len.bytes ≤ vec_capacity c.reserve.new.self = search rules in
    let sent : 2 * length c.sent_types-types.result.now ≡ (if c.self.inside.types_due then 2 * length c.self.inside.types.now else 0) =
    ap (λ (l : List ParamType). 2 * length l) c.sent_types-types.ensures ∙ length-sent c.self.inside.types_due (length c.self.inside.types.now) c.self.inside.types.now refl in
    let front : BulkHead = record { stmt_id = c.self.inside.stmt_id; bulk_flags = c.flags_of-bulk_flags.result; types = c.sent_types-types.result.now } in
    omega (arith, capacity, length-head front, sent, c.in-Some-request_len.ensures)

pub append_to-requires : goal.append_to-requires
append_to-requires g c =
    let capacity : vec_len c.reserve.new.self + c.in-Some-request_len.bytes ≤ vec_capacity c.reserve.new.self = search rules in
    let sent : 2 * length c.sent_types-types.result.now ≡ (if c.self.inside.types_due then 2 * length c.self.inside.types.now else 0) =
    ap (λ (l : List ParamType). 2 * length l) c.sent_types-types.ensures ∙ length-sent c.self.inside.types_due (length c.self.inside.types.now) c.self.inside.types.now refl in
    let front : BulkHead = record { stmt_id = c.self.inside.stmt_id; bulk_flags = c.flags_of-bulk_flags.result; types = c.sent_types-types.result.now } in
    let so_far = ap length c.append_head.ensures.items ∙ length-append c.reserve.new.self.items (head.bytes front) in
    omega (
      arith,
      capacity,
      length-head front,
      sent,
      c.in-Some-request_len.ensures,
      so_far,
      c.append_head.new.out.ok,
      c.reserve.new.self.ok,
      c.append_head.ensures.capacity,
      c.requires,
    )
