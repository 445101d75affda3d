use Rattle.std.proofs.Common.{rules, arith, get_or, refl}
use Rattle.mysql_recorder.proofs.Marks.{number_more}
use Rattle.mysql_recorder.proofs.mark.number_of.Goals as goal

pub loop-place-preserved : goal.loop-place-preserved
loop-place-preserved c = record {
  digits = search rules;
  number = number_more c.loop-place.place c.loop-place.number c.from.result (get_or c.args.text.now c.loop-place.place 0) c.args.text.now (omega (arith, c.loop-place-test.true, c.min-end.ensures)) c.loop-place.invariant.digits c.loop-place.invariant.number refl (search rules) (search rules) c.from.ensures;
}
