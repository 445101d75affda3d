-- Variables fit if each does.
use Rattle.std.proofs.Common.{List, [], ◌∷◌, All, refl}
use Rattle.std.proofs.lemmas.List.Elements.{All-head, All-tail}
use Rattle.mysql_session.specs.declared.system_variable.SystemVariable.{SystemVariable}
use Rattle.mysql_session.specs.SystemVariable.{system_variable, SystemVariableFits}
use Rattle.mysql_session.specs.SystemVariables.{system_variables}

pub variables-fit : (vs : List SystemVariable) → All SystemVariableFits vs → system_variables.fits tt vs []
unfolding system_variables system_variable
variables-fit [] fits = (refl, tt)
variables-fit (v ∷ vs) fits =
    let one = All-head SystemVariableFits v vs fits in
    let others = variables-fit vs (All-tail SystemVariableFits v vs fits) in
    (refl, ((one.name, (one.value, tt)), others.1))

pub ruleset variables_fit = (variables-fit)
