-- The plain conditions are enough for the round trip.
use Rattle.std.proofs.Common.{◌<◌, ◌^◌, ℕ, List, [], ◌++◌, length, All, refl}
use Rattle.std.proofs.lemmas.List.{append-nil}
use Rattle.mysql_wire.specs.declared.lenenc.LenEnc.{LenEnc}
use Rattle.mysql_wire.specs.declared.codes.session_state_type.SessionStateType.{SessionStateType}
use Rattle.mysql_session.specs.declared.session_state_change.SessionStateChange.{SessionStateChange}
use Rattle.mysql_session.specs.declared.session_state_change.SessionStateChange.TheVariants as change
use Rattle.mysql_session.specs.declared.session_text.SessionText.{SessionText}
use Rattle.mysql_session.specs.declared.system_variable.SystemVariable.{SystemVariable}
use Rattle.mysql_session.specs.SessionText.{lenenc_text, gtids, Gtids, text_bytes}
use Rattle.mysql_session.specs.SessionStateChange.{session_state_change, session_state_change_bytes, ChangeFits, IsOfKind, ChangeIsShort}
use Rattle.mysql_session.specs.SystemVariable.{system_variable, SystemVariableFits}
use Rattle.mysql_session.specs.SystemVariables.{system_variables}
use Rattle.mysql_session.proofs.SessionStateChangeAgain.{session_state_change-again}
use Rattle.mysql_session.proofs.SystemVariablesFit.{variables-fit}

text-fits : {N : Type 0} (x : SessionText N LenEnc) (rest : List ℕ) → length (text_bytes x) < 2 ^ 64 → lenenc_text.fits tt x rest
unfolding lenenc_text
text-fits x rest h = (h, tt)

gtids-fit : (x : Gtids) → gtids.fits tt x []
unfolding gtids
gtids-fit x = (refl, tt)

pub text-plain : {N : Type 0} (x : SessionText N LenEnc) (rest : List ℕ) → length (text_bytes x) < 2 ^ 64 → (lenenc_text.form tt).Spells x (lenenc_text.bytes x ++ rest) rest
text-plain x rest h = lenenc_text.again tt x rest (text-fits x rest h)

pub gtids-plain : (x : Gtids) → (gtids.form tt).Spells x (gtids.bytes x) []
gtids-plain x = rw (append-nil (gtids.bytes x)) at (gtids.again tt x [] (gtids-fit x))

pub variable-plain : (x : SystemVariable) (rest : List ℕ) → SystemVariableFits x → (system_variable.form tt).Spells x (system_variable.bytes x ++ rest) rest
unfolding system_variable
variable-plain x rest h = system_variable.again tt x rest (h.name, (h.value, tt))

pub variables-plain : (xs : List SystemVariable) → All SystemVariableFits xs → (system_variables.form tt).Spells xs (system_variables.bytes xs) []
variables-plain xs h = rw (append-nil (system_variables.bytes xs)) at (system_variables.again tt xs [] (variables-fit xs h))

change-fits : (k : SessionStateType) (c : SessionStateChange) → IsOfKind k c → ChangeIsShort c → ChangeFits k c []
change-fits k (change.IsTracked b) is h = is
change-fits k (change.Schema s) is h = (is, text-fits s [] h)
change-fits k (change.SystemVariables vs) is h = (is, variables-fit vs h)
change-fits k (change.Gtids g) is h = (is, gtids-fit g)
change-fits k (change.TransactionCharacteristics c) is h = (is, text-fits c [] h)
change-fits k (change.TransactionState s) is h = (is, text-fits s [] h)
change-fits k (change.Unsupported u) is h = is

pub change-plain : (k : SessionStateType) (c : SessionStateChange) → IsOfKind k c → ChangeIsShort c → (session_state_change k).Spells c (session_state_change_bytes c) []
change-plain k c is h = rw (append-nil (session_state_change_bytes c)) at (session_state_change-again k c [] (change-fits k c is h))

pub ruleset plain = (text-plain, gtids-plain, variable-plain, variables-plain, change-plain)
