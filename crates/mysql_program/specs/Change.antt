-- The line of one change of a session's state.
use Rattle.std.specs.Prelude.{ℕ, List, [], ◌∷◌, ◌++◌, true, false, codes}
use Rattle.std.specs.List.{flat_map}
use Rattle.mysql_session.specs.declared.session_state_change.SessionStateChange.{SessionStateChange}
use Rattle.mysql_session.specs.declared.session_state_change.SessionStateChange.TheVariants as change
use Rattle.mysql_session.specs.declared.system_variable.SystemVariable.{SystemVariable}
use Rattle.mysql_session.specs.SystemVariable.{variable_name, variable_value}
use Rattle.mysql_session.specs.SessionText.{text_bytes}
use Rattle.mysql_show.specs.Fields.{said, Word}
use Rattle.mysql_show.specs.FieldText.{lines_of, prefixed}

-- a space, the name and the value
abbrev pub variable_text : SystemVariable → List ℕ
variable_text v = codes " " ++ (prefixed (variable_name v) ++ (codes "=" ++ prefixed (variable_value v)))

-- the kind and the bytes
abbrev pub kind_and_bytes : List ℕ → List ℕ → List ℕ
kind_and_bytes kind bytes = kind ++ (codes " " ++ prefixed bytes)

-- the kind and the change
abbrev pub change_value : SessionStateChange → List ℕ
change_value (change.IsTracked true) = codes "IsTracked true"
change_value (change.IsTracked false) = codes "IsTracked false"
change_value (change.Schema s) = kind_and_bytes (codes "Schema") (text_bytes s)
change_value (change.SystemVariables vs) = codes "SystemVariables" ++ flat_map variable_text vs
change_value (change.Gtids g) = kind_and_bytes (codes "Gtids") (text_bytes g)
change_value (change.TransactionCharacteristics c) = kind_and_bytes (codes "TransactionCharacteristics") (text_bytes c)
change_value (change.TransactionState s) = kind_and_bytes (codes "TransactionState") (text_bytes s)
change_value (change.Unsupported u) = kind_and_bytes (codes "Unsupported") (text_bytes u)

abbrev pub change_line : SessionStateChange → List ℕ
change_line c = lines_of (said (codes "change") (Word (change_value c)) ∷ [])
