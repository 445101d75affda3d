use Rattle.std.proofs.Common.{arith, ltb-true, nat_lt}
use Rattle.std.proofs.lemmas.Bool.{lt-ltb}
use Rattle.mysql_wire.specs.Writing.{saturated}
use Rattle.mysql_stmt.proofs.ParamLengths.{params_fit}
use Rattle.mysql_stmt.proofs.execute_params.ExecuteParams.new.Goals as goal

pub returns-clause-bitmap : goal.returns-clause-bitmap
returns-clause-bitmap c =
    c.in_ok-nulls_of.ensures.value

pub returns-clause-as_long_data : goal.returns-clause-as_long_data
unfolding saturated
returns-clause-as_long_data c =
    (λ past. omega (arith, ltb-true _ _ past, c.whole_len.ensures), λ past. lt-ltb _ _ (omega (arith, c.whole_len.ensures)))

pub returns-clause-fits : goal.returns-clause-fits
returns-clause-fits c few =
    params_fit
    (record { bitmap = c.in_ok-nulls_of.field-0; flags = c.new.result; values = c.args.values; as_long_data = nat_lt 16777215 c.whole_len.result })
    (returns-clause-bitmap c)
    (returns-clause-as_long_data c)
    few
