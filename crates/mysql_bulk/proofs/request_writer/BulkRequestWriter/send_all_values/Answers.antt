use Rattle.std.proofs.Common.{rules, ◌≡◌, ◌≢◌, ◌+◌, List, [], map, drop, ap, subst, arith}
use Rattle.std.proofs.lemmas.List.{drop_all}
use Rattle.mysql_bulk.specs.declared.bulk_value.BulkValue.{BulkValue}
use Rattle.mysql_bulk.specs.BulkValue.{cell_of}
use Rattle.mysql_bulk.specs.ValuesRun.{OfferRefused, bytes_of, cells_of_row, cells_of_rows}
use Rattle.mysql_bulk.proofs.StreamedCells.{begins, ends_all, ends_kept, ends_sent, offered, offer_refused}
use Rattle.mysql_bulk.proofs.ValuesRun.{next_of_all}
use Rattle.mysql_bulk.proofs.request_writer.BulkRequestWriter.send_all_values.Goals as goal

pub loop-row-init : goal.loop-row-init
loop-row-init c = record { goes_on = λ before h. rw (c.requires) (begins c.args.self.now before (cells_of_rows c.args.rows.now) h); capacity = omega arith }

pub loop-row-preserved : goal.loop-row-preserved
loop-row-preserved c =
    let rows = c.args.rows.now in
    let i = c.loop-row.row-index in
    let more = bytes_of c.offer_values.new.requests.items in
    record {
      goes_on =
          λ before h.
          offered (cells_of_row c.row-item.result) (cells_of_rows (drop (i + 1) rows)) c.offer_values.new.self more
          (rw (next_of_all cells_of_row rows i c.row-item.result c.loop-row-test.true c.row-item.is) at (c.loop-row.invariant.goes_on before h)) (rw c.as_slice.ensures.value at c.in-Ok.ensures.ok);
      capacity = omega (arith, c.loop-row.invariant.capacity, c.offer_values.ensures.capacity);
    }

pub returns-in-Err : goal.returns-in-Err
returns-in-Err c =
    let rows = c.args.rows.now in
    let i = c.loop-row.row-index in
    let more = bytes_of c.offer_values.new.requests.items in
    let R : List BulkValue → Type 0 = λ row. OfferRefused c.loop-row.self (map cell_of row) (bytes_of c.loop-row.requests.items) c.in-Err.refusal c.offer_values.new.self more in
    record {
      gives =
          λ before h.
          offer_refused (cells_of_row c.row-item.result) (cells_of_rows (drop (i + 1) rows)) c.offer_values.new.self more c.in-Err.refusal
          (rw (next_of_all cells_of_row rows i c.row-item.result c.loop-row-test.true c.row-item.is) at (c.loop-row.invariant.goes_on before h)) (subst R c.as_slice.ensures.value c.in-Err.ensures.refused);
      capacity = omega (arith, c.loop-row.invariant.capacity, c.offer_values.ensures.capacity);
    }

-- no row is left
pub returns-then-not-has_rows : goal.returns-then-not-has_rows
returns-then-not-has_rows c =
    let all : cells_of_rows (drop c.loop-row.row-index c.args.rows.now) ≡ [] = ap cells_of_rows (drop_all c.loop-row.row-index c.args.rows.now (omega (arith, c.loop-row-test.false))) in
    let none : c.loop-row.self.count ≡ 0 = search rules in
    record { gives = λ before h. ends_all (rw all at (c.loop-row.invariant.goes_on before h)) none; capacity = c.loop-row.invariant.capacity }

pub returns-in_default : goal.returns-in_default
returns-in_default c =
    let all : cells_of_rows (drop c.loop-row.row-index c.args.rows.now) ≡ [] = ap cells_of_rows (drop_all c.loop-row.row-index c.args.rows.now (omega (arith, c.loop-row-test.false))) in
    let some : c.loop-row.self.count ≢ 0 = search rules in
    let stays = c.in_default.ensures.stays in
    record { gives = λ before h. rw (stays.0, stays.1) (ends_kept (rw all at (c.loop-row.invariant.goes_on before h)) some); capacity = omega (arith, c.loop-row.invariant.capacity, c.send_request.ensures.capacity) }

pub returns : goal.returns
returns c =
    let all : cells_of_rows (drop c.loop-row.row-index c.args.rows.now) ≡ [] = ap cells_of_rows (drop_all c.loop-row.row-index c.args.rows.now (omega (arith, c.loop-row-test.false))) in
    let some : c.loop-row.self.count ≢ 0 = search rules in
    let sent = c.in-Ok-send_request.ensures in
    record {
      gives = λ before h. rw sent.sent (ends_sent c.send_request.new.self (rw all at (c.loop-row.invariant.goes_on before h)) some sent.lets_go);
      capacity = omega (arith, c.loop-row.invariant.capacity, c.send_request.ensures.capacity);
    }
