use Rattle.std.proofs.Common.{◌≡◌, ◌+◌, ◌&&◌, Bool, true, false, length, drop, sym, ◌∙◌, ap, arith, rules}
use Rattle.std.specs.Cmp.Lexicographic.{pointwise, unequal}
use Rattle.mysql_values.specs.Value.{contents_of}
use Rattle.mysql_bulk.specs.SentValues.{sent_values}
use Rattle.mysql_bulk.specs.contracts.param_value.StmtBulkExecuteParamValuePartialEq.TheImpl as of_values
use Rattle.mysql_bulk.proofs.SentValues.{sent_length, equal_more, equal_past}
use Rattle.mysql_bulk.proofs.sent_values.same_values.Goals as goal

pub returns-then-a-b : goal.returns-then-a-b
returns-then-a-b c =
    let xs = sent_values c.args.a.now.indicators.now (contents_of c.args.a.now.values.now) in
    let ys = sent_values c.args.b.now.indicators.now (contents_of c.args.b.now.values.now) in
    sym (unequal of_values.ghosts.eq xs ys
    (λ e. c.if-a-b.true (sym (sent_length c.args.a.now.indicators.now c.args.a.now.values.now) ∙ e ∙ sent_length c.args.b.now.indicators.now c.args.b.now.values.now)))

pub returns-then-ne : goal.returns-then-ne
returns-then-ne c =
    let xs = sent_values c.args.a.now.indicators.now (contents_of c.args.a.now.values.now) in
    let ys = sent_values c.args.b.now.indicators.now (contents_of c.args.b.now.values.now) in
    let differ : of_values.ghosts.eq c.at.result c.at-in-loop-place.result ≡ false = search rules in
    sym (c.loop-place.invariant
    ∙ equal_more of_values.ghosts.eq xs ys c.loop-place.place c.at.result c.at-in-loop-place.result c.at.ensures c.at-in-loop-place.ensures
    ∙ ap (λ (b : Bool). b && pointwise of_values.ghosts.eq (drop (c.loop-place.place + 1) xs) (drop (c.loop-place.place + 1) ys)) differ)

pub loop-place-preserved : goal.loop-place-preserved
loop-place-preserved c =
    let xs = sent_values c.args.a.now.indicators.now (contents_of c.args.a.now.values.now) in
    let ys = sent_values c.args.b.now.indicators.now (contents_of c.args.b.now.values.now) in
    let same : of_values.ghosts.eq c.at.result c.at-in-loop-place.result ≡ true = search rules in
    c.loop-place.invariant
    ∙ equal_more of_values.ghosts.eq xs ys c.loop-place.place c.at.result c.at-in-loop-place.result c.at.ensures c.at-in-loop-place.ensures
    ∙ ap (λ (b : Bool). b && pointwise of_values.ghosts.eq (drop (c.loop-place.place + 1) xs) (drop (c.loop-place.place + 1) ys)) same

pub returns : goal.returns
returns c =
    let xs = sent_values c.args.a.now.indicators.now (contents_of c.args.a.now.values.now) in
    let ys = sent_values c.args.b.now.indicators.now (contents_of c.args.b.now.values.now) in
    let as_many : length c.args.a.now.values.now ≡ length c.args.b.now.values.now = search rules in
    let first = sent_length c.args.a.now.indicators.now c.args.a.now.values.now in
    let second = sent_length c.args.b.now.indicators.now c.args.b.now.values.now in
    sym (c.loop-place.invariant
    ∙ equal_past of_values.ghosts.eq xs ys c.loop-place.place (omega (arith, first, c.loop-place-test.false)) (omega (arith, second, as_many, c.loop-place-test.false)))
