use Rattle.std.proofs.Common.{◌∷◌, [], ℕ, length, sym, ap, ◌∙◌, arith}
use Rattle.mysql_values.specs.TypedValue.{typed_bytes}
use Rattle.mysql_values.specs.ValueRef.{ref_content}
use Rattle.mysql_packets_c.proofs.Appends.{as-bytes, both-appended}
use Rattle.mysql_packets_c.proofs.BulkCells.{given-some}
use Rattle.mysql_packets_c.proofs.bulk_cell.append_typed.Goals as goal

pub push_byte-requires : goal.push_byte-requires
push_byte-requires g c =
    let cell = given-some c.args.param_type (ref_content c.args.value) (typed_bytes c.in-Some.typed) c.in-Some.ensures.value in
    omega (arith, ap length cell.1, c.requires)

pub returns-in-Some : goal.returns-in-Some
returns-in-Some g c =
    let bytes = typed_bytes c.in-Some.typed in
    let cell = given-some c.args.param_type (ref_content c.args.value) bytes c.in-Some.ensures.value in
    let first = c.push_byte.ensures in
    let more = c.append.ensures in
    as-bytes (ap (λ (n : ℕ). n ∷ bytes) c.indicator_of.ensures ∙ sym cell.1)
    (both-appended {first = c.indicator_of.result ∷ []} {second = bytes} {now = c.push_byte.new.self} (record { items = first.items; after = first.after; capacity = first.capacity; kept = first.kept })
    (record { items = more.items; after = more.after; capacity = more.capacity; kept = more.kept }))
