-- Borrowed system variables.
use Rattle.std.specs.Prelude.{ℕ, List}
use Rattle.mysql_wire.specs.Many.{items_in, AreItems}
use Rattle.mysql_session.specs.declared.system_variable.SystemVariable.{SystemVariable}
use Rattle.mysql_session.specs.SystemVariable.{system_variable}
pub use Rattle.mysql_wire.specs.Many.{NextItem as NextVariable, items_read as variables_read}

-- the variables that the bytes encode, if they encode any
abbrev pub variables_in : List ℕ → List SystemVariable
variables_in = items_in (system_variable.form tt)

-- the bytes encode variables up to their end
abbrev pub AreVariables : List ℕ → Type 0
AreVariables = AreItems (system_variable.form tt)
