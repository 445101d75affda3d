use Rattle.std.proofs.Common.{rules, arith}
use Rattle.std.proofs.lemmas.Grind.{common_steps}
use Rattle.mysql_wire.proofs.After.{after_next}
use Rattle.mysql_wire.proofs.array.append_few.Goals as goal

pub loop-byte-preserved : goal.loop-byte-preserved
loop-byte-preserved g c =
    record {
      items = grind (arith, common_steps, c.push_byte.ensures.items, c.loop-byte.invariant.items);
      after = after_next c.loop-byte.byte-index _ _ _ c.loop-byte.invariant.after c.push_byte.ensures.after;
      capacity = search rules;
      kept = search rules;
    }
