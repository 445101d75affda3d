-- The machine with waiting commands.
use Rattle.mysql_conversation.specs.Runs.{Runs}
use Rattle.mysql_conversation.specs.Agreements.{Agreed}
use Rattle.std.specs.Prelude.{◌≡◌, ◌⊎◌, ◌≤◌, ℕ, ◌+◌, ◌-◌, ◌^◌, List, [], ◌∷◌, ◌++◌, length, Bool, true, false, Option, Some, None, ◌&&◌, ◌||◌, if◌then◌else◌}
use Rattle.mysql_conversation.specs.Conversation.{code_of, answering}
use Rattle.mysql_conversation.specs.Machine.{take_step, answers, is_rest, is_shut, listens, is_due, entrance}
use Rattle.mysql_conversation.specs.Payloads.{asks_cursor}
use Rattle.mysql_conversation.specs.declared.packet_kind.InitialPhase.{InitialPhase}
use Rattle.mysql_conversation.specs.Pipelined.{Numbered}
use Rattle.mysql_conversation.specs.declared.packet_kind.PacketKind.{PacketKind}
use Rattle.mysql_conversation.specs.declared.packet_kind.PacketKind.TheVariants as kind
use Rattle.mysql_conversation.specs.declared.packet_kind.Side.{Side}
use Rattle.mysql_conversation.specs.declared.packet_kind.Side.TheVariants.{Client, Server}
use Rattle.mysql_conversation.specs.declared.state.State.{State}
use Rattle.mysql_conversation.specs.declared.state.Command.{Command}
use Rattle.mysql_conversation.specs.declared.state.Answer.{Answer}
use Rattle.mysql_conversation.specs.declared.state.Answer.TheVariants as answer
use Rattle.mysql_conversation.specs.declared.pipeline.Waiting.{Waiting}

-- the state of the current exchange, its number, the number of the last command, and the waiting commands
pub record Standing : Type 0 where
  pub state : State
  pub number : ℕ
  pub last : ℕ
  pub waiting : List Waiting

abbrev pub standing : State → ℕ → ℕ → List Waiting → Standing
standing s i l q = record { state = s; number = i; last = l; waiting = q }

-- ---- commands

abbrev pub known : ℕ → Option Answer → Option Command
known code None = None
known code (Some answer) = Some (record { code = code; answer = answer })

-- the command in a payload, if it is one
abbrev pub command_of : List ℕ → Option Command
command_of p = known (code_of p) (answering (code_of p) (asks_cursor p))

abbrev pub kind_of : Command → PacketKind
kind_of c = kind.Command c.code

abbrev pub begin : Command → State
begin c = answers c.answer

abbrev pub wait : Command → ℕ → Waiting
wait c n = record { command = c; number = n }

abbrev pub waits : List Waiting → Bool
waits [] = false
waits (n ∷ q) = true

-- COM_QUIT, after which the client sends nothing
abbrev pub is_quit : Answer → Bool
is_quit answer.Quit = true
is_quit _ = false

-- the last waiting command is COM_QUIT
abbrev pub quits : List Waiting → Bool
quits [] = false
quits (n ∷ []) = is_quit n.command.answer
quits (n ∷ m ∷ q) = quits (m ∷ q)

-- when an exchange is over, that of the next waiting command begins
abbrev pub settle : State → ℕ → ℕ → List Waiting → Standing
settle s i l [] = standing s i l []
settle s i l (n ∷ q) = if is_rest s then settle (begin n.command) n.number l q else standing s i l (n ∷ q)

-- ---- the steps

abbrev pub push : Standing → Command → Standing
push w c = standing w.state w.number (w.last + 1) (w.waiting ++ wait c (w.last + 1) ∷ [])

abbrev pub early : Standing → Option Command → Option (PacketKind × ℕ × Standing)
early w None = None
early w (Some c) = if quits w.waiting then None else Some (kind_of c, w.last + 1, push w c)

-- the command may come, but the limit of waiting commands is reached
abbrev pub IsFullOf : (limit : ℕ) (last : ℕ) → List Waiting → Option Command → Type 0
IsFullOf limit last q c = (command : Command) × (c ≡ Some command) × (quits q ≡ false) × ((limit ≤ length q) ⊎ (last ≡ 2 ^ 64 - 1))

-- a packet that is no command comes after all commands so far
abbrev pub aside : Standing → Option (PacketKind × State) → Option Command → Option (PacketKind × ℕ × Standing)
aside w None c = early w c
aside w (Some (k, m)) c = if waits w.waiting then None else Some (k, w.number, standing m w.number w.last w.waiting)

abbrev pub in_turn : Standing → Option (PacketKind × State) → Option (PacketKind × ℕ × Standing)
in_turn w None = None
in_turn w (Some (k, m)) =
    if is_rest w.state then Some (k, w.last + 1, standing m (w.last + 1) (w.last + 1) w.waiting)
    else Some (k, w.number, standing m w.number w.last w.waiting)

-- the client isn't asked for anything while its commands wait, and the connection doesn't end before they are answered
abbrev pub served : Standing → Option (PacketKind × State) → Option (PacketKind × ℕ × Standing)
served w None = None
served w (Some (k, m)) = if (listens m || is_shut m) && waits w.waiting then None else Some (k, w.number, settle m w.number w.last w.waiting)

-- the kind of a packet, the number of its exchange, and the next state
abbrev pub pipe_step : Agreed → Standing → Side → List ℕ → Option (PacketKind × ℕ × Standing)
pipe_step a w Client p = if is_due w.state then aside w (take_step a w.state Client p) (command_of p) else in_turn w (take_step a w.state Client p)
pipe_step a w Server p = served w (take_step a w.state Server p)

abbrev pub step_of : Agreed → Standing → Numbered → Option (PacketKind × ℕ × Standing)
step_of a w x = pipe_step a w x.packet.from x.packet.payload

abbrev pub Steps : Agreed → Standing → Numbered → Standing → Type 0
Steps a w x m = step_of a w x ≡ Some (x.packet.kind, x.number, m)

abbrev pub PipeRun : Agreed → Standing → List Numbered → Standing → Type 0
PipeRun a w items t = Runs (Steps a) w items t

abbrev pub start : InitialPhase → Standing
start o = standing (entrance o) 0 0 []
