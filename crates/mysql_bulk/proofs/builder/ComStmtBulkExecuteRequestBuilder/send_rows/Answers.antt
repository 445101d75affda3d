use Rattle.std.proofs.Common.{◌≡◌, ◌≢◌, [], ap, rules}
use Rattle.std.specs.Vec.Iter.{into_iter_items}
use Rattle.mysql_bulk.specs.Builder.{BuilderState}
use Rattle.mysql_bulk.proofs.RunSteps.{none_waits, none_from}
use Rattle.mysql_bulk.proofs.WholeRunOfVec.{run_begins, run_fills, run_sends, ends_refused, ends_done, ends_empty, ends_memory}
use Rattle.mysql_bulk.proofs.builder.ComStmtBulkExecuteRequestBuilder.send_rows.Goals as goal

pub rows-init : goal.rows-init
rows-init c =
    let same : into_iter_items c.into_iter-input.result ≡ c.args.rows.items = search rules in
    run_begins c.args.self.now.state c.args.rows.items c.into_iter-input.result c.args.requests.now.items c.args.ends.now.items c.is_consistent.ensures same c.requires.no_requests c.requires.no_ends

pub returns-in-Err : goal.returns-in-Err
returns-in-Err c = ends_refused c.rows.invariant c.fill.new.builder.state c.fill.new.rows c.in-Err.e c.in-Err.ensures.accepts

pub returns-then-not-has_rows : goal.returns-then-not-has_rows
returns-then-not-has_rows c =
    ends_empty (run_fills c.rows.invariant c.fill.new.builder.state c.in-Ok.last c.fill.new.rows c.in-Ok.ensures.accepts) (none_waits c.fill.new.builder.state.waiting c.if-not-has_rows.ensures.1)

pub returns-in-Err-send : goal.returns-in-Err-send
returns-in-Err-send c =
    let filled = run_fills c.rows.invariant c.fill.new.builder.state c.in-Ok.last c.fill.new.rows c.in-Ok.ensures.accepts in
    let some : c.fill.new.builder.state.waiting ≢ [] = search rules in
    let same = c.in-Err-send.ensures.unchanged in
    ends_memory filled c.send.new.builder.state c.send.new.requests.items c.send.new.ends.items some same.0 same.1 same.2

pub returns-then-is_none : goal.returns-then-is_none
returns-then-is_none c =
    let filled = run_fills c.rows.invariant c.fill.new.builder.state c.in-Ok.last c.fill.new.rows c.in-Ok.ensures.accepts in
    let sent = c.in-Ok-send.ensures in
    let later = run_sends filled c.send.new.builder.state c.send.new.requests.items c.send.new.ends.items c.in-Ok-send.end sent.requests sent.ends sent.end in
    ends_done later (filled.at_end (none_from c.in-Ok.last c.if-is_none.ensures)) (ap (λ (b : BuilderState). b.waiting) sent.requests.2.left)

pub rows-preserved : goal.rows-preserved
rows-preserved c =
    let filled = run_fills c.rows.invariant c.fill.new.builder.state c.in-Ok.last c.fill.new.rows c.in-Ok.ensures.accepts in
    let sent = c.in-Ok-send.ensures in
    run_sends filled c.send.new.builder.state c.send.new.requests.items c.send.new.ends.items c.in-Ok-send.end sent.requests sent.ends sent.end
