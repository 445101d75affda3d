use Rattle.std.proofs.Common.{◌≡◌, ◌<◌, ◌≤◌, ◌-◌, ◌^◌, ℕ, List, true, false, length, subst, arith, rules}
use Rattle.mysql_wire.specs.Writing.{saturated}
use Rattle.mysql_packets_c.specs.Bulk.{row_at, row_bytes, takes_row}
use Rattle.mysql_packets_c.specs.declared.rows.CColumnType.{CColumnType}
use Rattle.mysql_packets_c.specs.declared.value.CValue.{CValue}
use Rattle.mysql_packets_c.proofs.BulkRows.{past-limit, row-counted, row-full, row-refused, row-too-large, within-limit}
use Rattle.mysql_packets_c.proofs.bulk.counted.Goals as goal

-- the row that was found, whose bytes were counted, is that of the place
sized : (columns : List CColumnType) (found row : List CValue) (more : ℕ) → found ≡ row → (takes_row columns found ≡ true) × (more ≡ saturated (length (row_bytes columns found)))
    → (takes_row columns row ≡ true) × (more ≡ saturated (length (row_bytes columns row)))
sized columns found row more at = subst (λ (r : List CValue). (takes_row columns r ≡ true) × (more ≡ saturated (length (row_bytes columns r)))) at

pub returns-in_default-clause-refused : goal.returns-in_default-clause-refused
returns-in_default-clause-refused c =
    let call = c.args.call.now in
    let l = c.loop-count in
    let none : takes_row call.columns.now c.row_after-row.result.now ≡ false = search rules in
    row-refused call c.args.values.now c.args.rows l.count l.len c.requires.whole c.loop-count-test.true l.invariant (subst (λ row. takes_row call.columns.now row ≡ false) c.row_after-row.ensures none)

pub returns-then-count-eq0-clause-refused : goal.returns-then-count-eq0-clause-refused
returns-then-count-eq0-clause-refused c =
    let call = c.args.call.now in
    let l = c.loop-count in
    let row = sized call.columns.now c.row_after-row.result.now (row_at (length call.columns.now) l.count c.args.values.now) c.in-Some.more c.row_after-row.ensures c.in-Some.ensures in
    let past = past-limit (call.max_allowed_packet - 4) l.len c.in-Some.more c.saturating_add-longer.result _ row.1 c.saturating_add-longer.ensures (omega (arith, c.if-limit-longer.true)) in
    row-too-large call c.args.values.now c.args.rows l.count l.len c.requires.whole c.loop-count-test.true l.invariant row.0 past c.if-count-eq0.true

pub returns-else-count-eq0-clause-counted : goal.returns-else-count-eq0-clause-counted
returns-else-count-eq0-clause-counted c =
    let call = c.args.call.now in
    let l = c.loop-count in
    let row = sized call.columns.now c.row_after-row.result.now (row_at (length call.columns.now) l.count c.args.values.now) c.in-Some.more c.row_after-row.ensures c.in-Some.ensures in
    let past = past-limit (call.max_allowed_packet - 4) l.len c.in-Some.more c.saturating_add-longer.result _ row.1 c.saturating_add-longer.ensures (omega (arith, c.if-limit-longer.true)) in
    row-full call c.args.values.now c.args.rows l.count l.len c.loop-count-test.true l.invariant row.0 past c.if-count-eq0.false

pub loop-count-preserved : goal.loop-count-preserved
loop-count-preserved c =
    let call = c.args.call.now in
    let l = c.loop-count in
    let row = sized call.columns.now c.row_after-row.result.now (row_at (length call.columns.now) l.count c.args.values.now) c.in-Some.more c.row_after-row.ensures c.in-Some.ensures in
    let within : c.saturating_add-longer.result ≤ call.max_allowed_packet - 4 = omega (arith, c.if-limit-longer.false) in
    let top : call.max_allowed_packet - 4 < 2 ^ 64 - 1 = omega (arith, c.type_inv.call) in
    let longer = within-limit (call.max_allowed_packet - 4) l.len c.in-Some.more c.saturating_add-longer.result _ row.1 c.saturating_add-longer.ensures within top in
    row-counted call c.args.values.now c.args.rows l.count l.len c.saturating_add-longer.result c.requires.whole c.loop-count-test.true l.invariant row.0 longer within
