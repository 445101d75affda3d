-- The session's changes, in order, borrowed.
use Rattle.std.specs.Prelude.{ℕ, List, Option, Result, false}
use Rattle.mysql_wire.specs.declared.fault.FaultOf.{FaultOf}
use Rattle.mysql_session.specs.declared.session_state_change.SessionStateChange.{SessionStateChange}
use Rattle.mysql_replies.specs.SessionStateChanges.{NextOf}

-- the next change and the rest of the bytes; the answer is never Memory
abbrev pub NextChangeRef : List ℕ → Option (Result SessionStateChange FaultOf) → List ℕ → Type 0
NextChangeRef bytes r rest = NextOf (λ i. false) bytes r rest
