-- A system variable and its value.
use Rattle.std.specs.Prelude.{ℕ, ◌<◌, ◌^◌, List, length, refl}
use Rattle.mysql_wire.specs.Codecs.{Codec, Fields, ◌>>=◌, give, field, packet, string_lenenc}
use Rattle.mysql_session.specs.declared.system_variable.SystemVariable.{SystemVariable}

-- the bytes of name and value
abbrev pub variable_name : SystemVariable → List ℕ
variable_name v = v.name

abbrev pub variable_value : SystemVariable → List ℕ
variable_value v = v.value

-- the variable with this name and value
abbrev pub variable_of : List ℕ → List ℕ → SystemVariable
variable_of name value = record { name = name; value = value }

-- name and value, each length-encoded
abbrev pub system_variable_fields : Fields (Unit {0}) SystemVariable SystemVariable
system_variable_fields = do
  name ← field variable_name string_lenenc
  value ← field variable_value string_lenenc
  give (variable_of name value)

unfoldable pub system_variable : Codec (Unit {0}) SystemVariable
system_variable = packet system_variable_fields (λ v. refl)

-- both lengths are less than 2^64
pub record SystemVariableFits (v : SystemVariable) : Type 0 where
  pub name : length (variable_name v) < 2 ^ 64
  pub value : length (variable_value v) < 2 ^ 64
