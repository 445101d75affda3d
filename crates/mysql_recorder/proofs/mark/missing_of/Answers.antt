use Rattle.std.proofs.Common.{◌≡◌, ◌∙◌, arith, sym, true, false}
use Rattle.std.proofs.lemmas.Bool.Decides.{Decides-eqb}
use Rattle.std.proofs.lemmas.Slice.Eq.{slice_eq-Decides}
use Rattle.mysql_recorder.specs.Marks.{mark_end}
use Rattle.mysql_recorder.proofs.Marks.{is_mark, no_mark}
use Rattle.mysql_recorder.proofs.mark.missing_of.Goals as goal
use Rattle.mysql_recorder.proofs.mark.missing_of.Goals.{else-first-eq-BEFORE-via-then-first-eq-BEFORE+then-rest-text+else-eq, else-first-eq-BEFORE-via-then-first-eq-BEFORE+else-rest-text, else-first-eq-BEFORE-via-else-first-eq-BEFORE}

pub returns-then-eq-clause-some : goal.returns-then-eq-clause-some
returns-then-eq-clause-some c =
    let end : c.number_of-number.result.1.now ≡ mark_end = (slice_eq-Decides Decides-eqb _ _ _ c.eq.ensures).0 c.if-eq.true in
    is_mark c.args.line.now c.in-Some.first.now c.in-Some.text.now c.number_of-number.result.1.now c.number_of-number.result.0 c.in-Some.ensures.cases.0 c.if-first-eq-BEFORE.true c.number_of-number.ensures c.if-rest-text.true end

pub returns-then-eq-clause-mark : goal.returns-then-eq-clause-mark
returns-then-eq-clause-mark c =
    let end : c.number_of-number.result.1.now ≡ mark_end = (slice_eq-Decides Decides-eqb _ _ _ c.eq.ensures).0 c.if-eq.true in
    (c.number_of-number.result.0, is_mark c.args.line.now c.in-Some.first.now c.in-Some.text.now c.number_of-number.result.1.now c.number_of-number.result.0 c.in-Some.ensures.cases.0 c.if-first-eq-BEFORE.true c.number_of-number.ensures c.if-rest-text.true end)

pub returns-else-first-eq-BEFORE-clause-none : goal.returns-else-first-eq-BEFORE-clause-none
returns-else-first-eq-BEFORE-clause-none c =
    no_mark c.args.line.now c.in-Some.first.now c.in-Some.text.now c.number_of-number.result.1.now c.number_of-number.result.0 c.in-Some.ensures.cases.0 c.number_of-number.ensures
    (λ begins shorter end. elim c.else-first-eq-BEFORE.branch [
      | else-first-eq-BEFORE-via-then-first-eq-BEFORE+then-rest-text+else-eq w ↦ (let yes = (slice_eq-Decides Decides-eqb _ _ _ w.eq.ensures).1 end in absurd (let no : false ≡ true = sym w.if-eq.false ∙ yes in cc))
      | else-first-eq-BEFORE-via-then-first-eq-BEFORE+else-rest-text w ↦ (let no = w.if-rest-text.false in omega (arith, no, shorter))
      | else-first-eq-BEFORE-via-else-first-eq-BEFORE w ↦ w.if-first-eq-BEFORE.false begins
    ])
