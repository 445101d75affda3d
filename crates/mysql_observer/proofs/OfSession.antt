-- A command that is pipelined in a session is pipelined in the conversation after the login.
use Rattle.std.proofs.Common.{Bool, true, false, List, [], ◌∷◌, ◌++◌, inl, inr, refl, subst}
use Rattle.mysql_conversation.specs.Agreements.{Agreed}
use Rattle.mysql_conversation.specs.Pipelined.{Numbered}
use Rattle.mysql_conversation.specs.Session.{IsSession, IsSessionBeginning, IsLoggedIn}
use Rattle.mysql_conversation.specs.declared.packet_kind.InitialPhase.TheVariants.{Login}
use Rattle.mysql_conversation.specs.Standing.{Steps, start}
use Rattle.mysql_conversation.proofs.Runs.{part}
use Rattle.mysql_conversation.proofs.Sessions.{session_rest, more_of}
use Rattle.mysql_conversation.proofs.Stood.{pipelined_runs}
use Rattle.mysql_observer.specs.PacketContext.{IsEarly}
use Rattle.mysql_observer.specs.Order.{Step, items_of, AreOrderly, IsEarlyIn, AreEarly, AreEarlyAfter}
use Rattle.mysql_observer.proofs.Orderly.{pipeline_orderly}

early_in : (b : Bool) (a : Agreed) (front : List Numbered) (x : Numbered) (before : List Numbered) (y : Numbered) → IsLoggedIn a front x → IsEarly b (front ++ x ∷ before) y → IsEarlyIn a Login b before y
early_in true a front x before y l h = (h.0, λ p. h.1 (inr (a, front, x, before, refl, l, p)))
early_in false a front x before y l (inl c) = inl c
early_in false a front x before y l (inr s) = inr (session_rest a front x before l s)

pub early_after : (a : Agreed) (front : List Numbered) (x : Numbered) (before : List Numbered) (steps : List Step) → IsLoggedIn a front x
    → AreEarlyAfter (front ++ x ∷ before) steps → AreEarly a Login before steps
early_after a front x before [] l h = tt
early_after a front x before (s ∷ ss) l h = (
  early_in s.is_early a front x before s.item l h.0,
  early_after a front x (before ++ s.item ∷ []) ss l (subst (λ q. AreEarlyAfter q ss) (more_of front x before (s.item ∷ [])) h.1),
)

pub session_orderly : (a : Agreed) (front : List Numbered) (x : Numbered) (steps : List Step) → IsLoggedIn a front x → IsSessionBeginning (front ++ x ∷ items_of steps)
    → AreEarlyAfter (front ++ x ∷ []) steps → AreOrderly 0 0 steps
session_orderly a front x steps l b h =
    let p = session_rest a front x (items_of steps ++ b.0) l (subst IsSession (more_of front x (items_of steps) b.0) b.1) in
    let r = pipelined_runs a Login (items_of steps ++ b.0) p in
    let q = part (Steps a) (start Login) (items_of steps) b.0 r.0 r.1 in
    pipeline_orderly a Login steps q.0 q.1 (early_after a front x [] steps l h)
