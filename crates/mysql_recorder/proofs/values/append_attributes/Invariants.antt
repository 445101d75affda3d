use Rattle.mysql_recorder.proofs.ValuesShown.{ShowsAttributes}
use Rattle.mysql_recorder.proofs.values.append_attributes.Given as goal

abbrev pub invariant-attributes : goal.invariant-attributes
invariant-attributes l = ShowsAttributes l.fn.attributes l.attributes l.fn.fields.items l.fields.items

abbrev pub decreases-attributes : goal.decreases-attributes
decreases-attributes l = l.attributes.left
