use Rattle.std.proofs.Common.{◌≡◌, ◌∷◌, ◌+◌, [], drop, List, subst, ap, refl, map, add-one}
use Rattle.std.proofs.Math.Seq.{drop-cons}
use Rattle.std.proofs.lemmas.List.{drop_all}
use Rattle.std.specs.Global.{Vec}
use Rattle.mysql_packets.specs.Value.{Content}
use Rattle.mysql_packets.specs.ValueRef.{ref_content}
use Rattle.mysql_packets.specs.declared.value.ValueRef.{ValueRef}
use Rattle.examples_proved.specs.Stream.{Steps, bytes_of, rows_held, row_held}
use Rattle.examples_proved.proofs.Steps.{SoFar, goes_on, ends, some_held}
use Rattle.examples_proved.proofs.load.stream.Goals as goal

pub loop-row-preserved : goal.loop-row-preserved
loop-row-preserved c =
    let i = c.loop-row.row-index in
    let rows = c.args.rows.now in
    let row = c.row-item.result in
    let split : drop i rows ≡ row ∷ drop (i + 1) rows = rw (drop-cons rows i row c.loop-row-test.true, ← c.row-item.is, add-one) refl in
    let from : SoFar c.args.writer.now rows c.loop-row.writer (row ∷ drop (i + 1) rows) (bytes_of c.loop-row.requests.items) = subst (λ (l : List (Vec ValueRef)). SoFar c.args.writer.now rows c.loop-row.writer l (bytes_of c.loop-row.requests.items)) split c.loop-row.invariant in
    let same : map ref_content c.as_slice.result.now ≡ row_held row = ap (map ref_content) c.as_slice.ensures.value in
    let step = subst (λ (r : List Content). Steps c.loop-row.writer r (bytes_of c.loop-row.requests.items) c.offer.new.writer (bytes_of c.offer.new.requests.items)) same c.in_ok-offer.ensures in
    goes_on c.args.writer.now rows c.loop-row.writer c.offer.new.writer row (drop (i + 1) rows) (bytes_of c.loop-row.requests.items) (bytes_of c.offer.new.requests.items) from step

pub returns : goal.returns
returns c =
    let none : drop c.loop-row.row-index c.args.rows.now ≡ [] = drop_all c.loop-row.row-index c.args.rows.now c.loop-row-test.false in
    let streams = ends c.args.writer.now c.args.rows.now c.loop-row.writer (drop c.loop-row.row-index c.args.rows.now) (bytes_of c.loop-row.requests.items) c.loop-row.invariant none in
    record { fewest = c.streamed_rows_are_sent_in_the_fewest_requests.ensures.all c.args.writer.now c.loop-row.writer (rows_held c.args.rows.now) (bytes_of c.loop-row.requests.items) c.requires.new c.requires.due streams (some_held c.args.rows.now c.requires.some) }
