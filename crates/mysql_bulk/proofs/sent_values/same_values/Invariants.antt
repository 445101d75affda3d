use Rattle.std.proofs.Common.{◌≡◌, drop}
use Rattle.std.specs.Cmp.Lexicographic.{pointwise}
use Rattle.mysql_values.specs.Value.{contents_of}
use Rattle.mysql_bulk.specs.SentValues.{sent_values}
use Rattle.mysql_bulk.specs.contracts.param_value.StmtBulkExecuteParamValuePartialEq.TheImpl as of_values
use Rattle.mysql_bulk.proofs.sent_values.same_values.Given as goal

abbrev pub invariant-loop-place : goal.invariant-loop-place
invariant-loop-place l =
    pointwise of_values.ghosts.eq (sent_values l.a.indicators.now (contents_of l.a.values.now)) (sent_values l.b.indicators.now (contents_of l.b.values.now))
    ≡ pointwise of_values.ghosts.eq (drop l.place (sent_values l.a.indicators.now (contents_of l.a.values.now))) (drop l.place (sent_values l.b.indicators.now (contents_of l.b.values.now)))
