-- System variables and their values.
use Rattle.std.specs.Prelude.{ℕ, ◌<◌, Bool, false, List}
use Rattle.mysql_wire.specs.CodecAgain.{some-lenenc, some-then}
use Rattle.mysql_wire.specs.Codecs.{Codec, list_to_end}
use Rattle.mysql_wire.specs.Many.{many_asks}
use Rattle.mysql_session.specs.declared.system_variable.SystemVariable.{SystemVariable}
use Rattle.mysql_session.specs.SystemVariable.{system_variable, variable_name}

pub some-variable : (v : SystemVariable) → 0 < system_variable.len v
unfolding system_variable
some-variable v = some-then _ (some-lenenc (variable_name v))

-- variables up to the end of the bytes
unfoldable pub system_variables : Codec (Unit {0}) (List SystemVariable)
system_variables = list_to_end system_variable some-variable

-- whether the bytes begin with a variable: no list is allocated before one is read
abbrev pub begins_with_variable : List ℕ → Bool
begins_with_variable = many_asks (λ _. false) (system_variable.form tt)
