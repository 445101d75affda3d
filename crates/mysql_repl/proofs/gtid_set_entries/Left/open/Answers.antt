use Rattle.std.proofs.Common.{◌∙◌, arith}
use Rattle.mysql_repl.proofs.GtidEntries.{piece-interval, piece-no_uuid, piece-tag}
use Rattle.mysql_repl.proofs.gtid_set_entries.Left.open.Goals as goal

pub returns-in_default-uuid_of-clause-value : goal.returns-in_default-uuid_of-clause-value
returns-in_default-uuid_of-clause-value c =
    let cut = c.in-Some.ensures.value in
    rw c.requires.none (piece-no_uuid c.args.piece.now c.in-Some.uuid.now c.trimmed.result.now cut.0 cut.1 c.trimmed.ensures.value c.in_default-uuid_of.ensures.value)

pub returns-then-intervals-eq0-clause-value : goal.returns-then-intervals-eq0-clause-value
returns-then-intervals-eq0-clause-value c =
    let cut = c.in-Some.ensures.value in
    piece-tag c.args.piece.now c.in-Some.uuid.now c.trimmed.result.now c.in-Some.text.now c.in-Some-uuid_of.uuid c.leading_intervals-intervals.result cut.0 cut.1 c.trimmed.ensures.value c.in-Some-uuid_of.ensures.value cut.2 c.leading_intervals-intervals.ensures.value c.if-intervals-eq0.true
    ∙ c.next_word.ensures.value

pub returns-clause-value : goal.returns-clause-value
returns-clause-value c =
    let cut = c.in-Some.ensures.value in
    piece-interval c.args.piece.now c.in-Some.uuid.now c.trimmed.result.now c.in-Some.text.now c.in-Some-uuid_of.uuid c.leading_intervals-intervals.result cut.0 cut.1 c.trimmed.ensures.value c.in-Some-uuid_of.ensures.value cut.2 c.leading_intervals-intervals.ensures.value
    (λ none. absurd (omega (arith, c.if-intervals-eq0.false, none)))
