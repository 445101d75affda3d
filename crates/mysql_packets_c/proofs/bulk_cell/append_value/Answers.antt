use Rattle.std.proofs.Common.{◌∷◌, [], ℕ, if◌then◌else◌, length, sym, ap, ◌∙◌, arith}
use Rattle.std.proofs.lemmas.List.{length-append}
use Rattle.mysql_stmt.specs.NullMarks.{is_null}
use Rattle.mysql_values.specs.Value.{Content, bin}
use Rattle.mysql_values.specs.ValueRef.{ref_content}
use Rattle.mysql_packets_c.proofs.Appends.{as-bytes, both-appended}
use Rattle.mysql_packets_c.proofs.BulkCells.{plain-value}
use Rattle.mysql_packets_c.proofs.bulk_cell.append_value.Goals as goal

pub push_byte-requires : goal.push_byte-requires
push_byte-requires g c =
    let is = plain-value c.args.column.now c.args.value.now (sym c.is_plain.ensures ∙ c.if-is_plain.true) in
    omega (arith, ap length is.2, c.requires)

pub append-requires : goal.append-requires
append-requires g c =
    let is = plain-value c.args.column.now c.args.value.now (sym c.is_plain.ensures ∙ c.if-is_plain.true) in
    omega (
      arith,
      ap length is.2,
      c.requires,
      ap length c.push_byte.ensures.items,
      length-append (g.O.Buffer.held c.args.out.now) (c.indicator_of.result ∷ []),
      c.push_byte.ensures.capacity,
      ap (λ (x : Content). length (bin x)) c.plain-held.ensures,
    )

pub returns-then-is_plain : goal.returns-then-is_plain
returns-then-is_plain g c =
    let bytes = bin (ref_content c.plain-held.result) in
    let is = plain-value c.args.column.now c.args.value.now (sym c.is_plain.ensures ∙ c.if-is_plain.true) in
    let first = c.push_byte.ensures in
    let more = c.append.ensures in
    as-bytes (ap (λ (n : ℕ). n ∷ bytes) c.indicator_of.ensures ∙ ap (λ (x : Content). (if is_null x then 1 else 0) ∷ bin x) c.plain-held.ensures ∙ sym is.2)
    (both-appended {first = c.indicator_of.result ∷ []} {second = bytes} {now = c.push_byte.new.self} (record { items = first.items; after = first.after; capacity = first.capacity; kept = first.kept })
    (record { items = more.items; after = more.after; capacity = more.capacity; kept = more.kept }))
