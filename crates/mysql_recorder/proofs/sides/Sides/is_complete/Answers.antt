use Rattle.std.proofs.Common.{◌≡◌, true, false, sym, ◌∙◌}
use Rattle.mysql_recorder.proofs.Wholes.{ended_where, whole_where}
use Rattle.mysql_recorder.proofs.sides.Sides.is_complete.Goals as goal
use Rattle.mysql_recorder.proofs.sides.Sides.is_complete.Goals.{then-is_between, else-is_between}

pub returns-then-is_between-2-clause-stand : goal.returns-then-is_between-2-clause-stand
returns-then-is_between-2-clause-stand c = λ pieces items h. elim c.if-is_between.branch [
  | then-is_between w ↦ whole_where c.args.self.now pieces items c.is_between.result w.is_between-then-is_between.result c.is_idle.result h
      c.is_between.ensures w.is_between-then-is_between.ensures c.is_idle.ensures.whole w.if-is_between.true (sym w.value-is ∙ c.if-is_between-2.true)
  | else-is_between w ↦ absurd (let no : false ≡ true = sym w.if-is_between.false ∙ sym w.value-is ∙ c.if-is_between-2.true in cc)
]

pub returns-then-is_between-2-clause-ended : goal.returns-then-is_between-2-clause-ended
returns-then-is_between-2-clause-ended c = λ yes. elim c.if-is_between.branch [
  | then-is_between w ↦ ended_where c.args.self.now c.is_between.result w.is_between-then-is_between.result
      c.is_between.ensures w.is_between-then-is_between.ensures (c.is_idle.ensures.rests yes) w.if-is_between.true (sym w.value-is ∙ c.if-is_between-2.true)
  | else-is_between w ↦ absurd (let no : false ≡ true = sym w.if-is_between.false ∙ sym w.value-is ∙ c.if-is_between-2.true in cc)
]
