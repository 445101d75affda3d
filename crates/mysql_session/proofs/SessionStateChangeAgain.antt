use Rattle.std.proofs.Common.{ℕ, List, [], ◌∷◌, ◌++◌, true, false, refl, arith}
use Rattle.mysql_wire.specs.declared.codes.session_state_type.SessionStateType.{SessionStateType}
use Rattle.mysql_wire.specs.LenEnc.{lenenc_string, lenenc_string_bytes, lenenc_bytes}
use Rattle.mysql_wire.specs.Again.{lenenc_string-again}
use Rattle.mysql_session.specs.declared.session_state_change.SessionStateChange.{SessionStateChange}
use Rattle.mysql_session.specs.declared.session_state_change.SessionStateChange.TheVariants as change
use Rattle.mysql_session.specs.SessionText.{lenenc_text, gtids}
use Rattle.mysql_session.specs.SystemVariables.{system_variables}
use Rattle.mysql_session.specs.SessionStateChange.{session_state_change, session_state_change_bytes, ChangeFits}

one_character : (b : ℕ) (rest : List ℕ) → lenenc_string.Spells (b ∷ []) (1 ∷ b ∷ rest) rest
unfolding lenenc_string_bytes lenenc_bytes
one_character b rest = lenenc_string-again (b ∷ []) (omega arith) rest

pub session_state_change-again : (k : SessionStateType) (c : SessionStateChange) (rest : List ℕ) → ChangeFits k c rest → (session_state_change k).Spells c (session_state_change_bytes c ++ rest) rest
unfolding session_state_change session_state_change_bytes
session_state_change-again k (change.IsTracked true) rest fits = rw fits (49 ∷ [], refl, one_character 49 rest)
session_state_change-again k (change.IsTracked false) rest fits = rw fits (48 ∷ [], refl, one_character 48 rest)
session_state_change-again k (change.Schema s) rest fits = rw fits.0 (s, refl, lenenc_text.again tt s rest fits.1)
session_state_change-again k (change.SystemVariables vs) rest fits = rw fits.0 (vs, refl, system_variables.again tt vs rest fits.1)
session_state_change-again k (change.Gtids g) rest fits = rw fits.0 (g, refl, gtids.again tt g rest fits.1)
session_state_change-again k (change.TransactionCharacteristics c) rest fits = rw fits.0 (c, refl, lenenc_text.again tt c rest fits.1)
session_state_change-again k (change.TransactionState s) rest fits = rw fits.0 (s, refl, lenenc_text.again tt s rest fits.1)
session_state_change-again k (change.Unsupported u) rest fits = absurd fits

pub ruleset session_changes = (session_state_change-again)
