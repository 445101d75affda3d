use Rattle.std.proofs.Common.{◌≡◌}
use Rattle.mysql_stmt.specs.Attributes.{IsGood, attributes_read}
use Rattle.mysql_packets_c.specs.QueryAttribute.{at}
use Rattle.mysql_packets_c.proofs.query_attribute.attribute_at.Given as goal

abbrev pub invariant-loop-before : goal.invariant-loop-before
invariant-loop-before l = record {
  good : IsGood l.view;
  left : at (attributes_read l.view.all) l.before ≡ at (attributes_read l.fn.view.all) l.fn.place;
}

abbrev pub decreases-loop-before : goal.decreases-loop-before
decreases-loop-before l = l.before
