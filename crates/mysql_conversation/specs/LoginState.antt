-- The state of a session before its conversation, as plain numbers.
use Rattle.std.specs.Prelude.{◌≡◌, ◌==◌, List, Option, Some, None, if◌then◌else◌}
use Rattle.std.specs.Option.{IsSome}
use Rattle.mysql_conversation.specs.Pipelined.{Numbered}
use Rattle.mysql_conversation.specs.Session.{TakenIn}
use Rattle.mysql_conversation.specs.declared.login_state.LoginState.{LoginState}
use Rattle.mysql_conversation.specs.declared.session.Phase.{Phase}
use Rattle.mysql_conversation.specs.declared.session.Phase.TheVariants as phase
use Rattle.mysql_conversation.specs.declared.session.Session.{Session}

-- the phase with these numbers, if there is one
abbrev pub phase_at : LoginState → Option Phase
phase_at s =
    if s.place == 0 then Some phase.Greeting
    else (if s.place == 1 then Some (phase.Login s.server)
    else (if s.place == 2 then Some (phase.InTls s.server)
    else (if s.place == 3 then Some phase.NoLogin
    else (if s.place == 4 then Some phase.Refused
    else None))))

-- the numbers are those of a phase
abbrev pub IsState : LoginState → Type 0
IsState s = IsSome (phase_at s)

-- a session in this state has taken these packets, with these kinds and numbers
abbrev pub LoginTaken : LoginState → List Numbered → Type 0
LoginTaken s items = (p : Phase) × (phase_at s ≡ Some p) × TakenIn p items

-- the session is in this state
abbrev pub StandsAt : LoginState → Session → Type 0
StandsAt s session = phase_at s ≡ Some session.phase
