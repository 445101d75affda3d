use Rattle.mysql_recorder.proofs.ValuesShown.{ShowsParams}
use Rattle.mysql_recorder.proofs.execution_fields.append_params.Given as goal

abbrev pub invariant-params : goal.invariant-params
invariant-params l = ShowsParams l.fn.params l.params l.fn.fields.items l.fields.items

abbrev pub decreases-params : goal.decreases-params
decreases-params l = l.params.left
