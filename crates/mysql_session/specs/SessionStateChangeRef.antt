-- A borrowed change of the session's state.
use Rattle.std.specs.Prelude.{◌≢◌, []}
use Rattle.mysql_session.specs.SessionText.{text_of}
use Rattle.mysql_session.specs.declared.session_state_change.SessionStateChange.{SessionStateChange}
use Rattle.mysql_session.specs.declared.session_state_change.SessionStateChange.TheVariants as change
use Rattle.mysql_session.specs.declared.session_state_change_ref.ChangeRef.{ChangeRef}
use Rattle.mysql_session.specs.declared.session_state_change_ref.ChangeRef.TheVariants as place

-- the change that these bytes are
abbrev pub change_of : ChangeRef → SessionStateChange
change_of (place.IsTracked is_tracked) = change.IsTracked is_tracked
change_of (place.Schema schema) = change.Schema (text_of schema.now)
change_of (place.SystemVariables variables) = change.SystemVariables variables
change_of (place.Gtids gtids) = change.Gtids (text_of gtids.now)
change_of (place.TransactionCharacteristics characteristics) = change.TransactionCharacteristics (text_of characteristics.now)
change_of (place.TransactionState state) = change.TransactionState (text_of state.now)

-- the change lists at least one system variable
abbrev pub ListsVariables : SessionStateChange → Type 0
ListsVariables (change.SystemVariables variables) = variables ≢ []
ListsVariables (change.IsTracked is_tracked) = ⊥
ListsVariables (change.Schema schema) = ⊥
ListsVariables (change.Gtids gtids) = ⊥
ListsVariables (change.TransactionCharacteristics characteristics) = ⊥
ListsVariables (change.TransactionState state) = ⊥
ListsVariables (change.Unsupported other) = ⊥
