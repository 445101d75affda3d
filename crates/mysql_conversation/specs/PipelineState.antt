-- The state of a pipeline, as plain numbers.
use Rattle.std.specs.Prelude.{◌≡◌, ◌⊎◌, ◌≤◌, ◌+◌, ◌-◌, ◌^◌, ◌==◌, ◌&&◌, ◌++◌, ◌∷◌, [], ℕ, List, length, take, nat_lt, not, Bool, true, false, Option, Some, None, if◌then◌else◌}
use Rattle.mysql_wire.specs.CommandCodes.{COM_STMT_EXECUTE}
use Rattle.mysql_conversation.specs.Agreements.{Agreed}
use Rattle.mysql_conversation.specs.Conversation.{answering}
use Rattle.mysql_conversation.specs.ConversationState as conversation
use Rattle.mysql_conversation.specs.ConversationState.{state_at}
use Rattle.mysql_conversation.specs.Machine.{is_due, is_rest}
use Rattle.mysql_conversation.specs.Piped.{IsCommand, place}
use Rattle.mysql_conversation.specs.Pipelined.{Numbered, IsPipelinedBeginning}
use Rattle.mysql_conversation.specs.Standing.{Standing, standing, start, quits, wait, PipeRun}
use Rattle.mysql_conversation.specs.declared.packet_kind.InitialPhase.{InitialPhase}
use Rattle.mysql_conversation.specs.declared.packet_kind.PacketKind.{PacketKind}
use Rattle.mysql_conversation.specs.declared.packet_kind.Side.{Side}
use Rattle.mysql_conversation.specs.declared.pipeline.Waiting.{Waiting}
use Rattle.mysql_conversation.specs.declared.pipeline_state.PipelineState.{PipelineState}
use Rattle.mysql_conversation.specs.declared.state.Answer.{Answer}
use Rattle.mysql_conversation.specs.declared.state.Answer.TheVariants as answer
use Rattle.mysql_conversation.specs.declared.state.Command.{Command}
use Rattle.mysql_conversation.specs.declared.state.Request.TheVariants.{Cursor}
use Rattle.mysql_conversation.specs.declared.state.State.{State}

-- ---- a byte for each waiting command

abbrev pub is_cursor : Answer → Bool
is_cursor (answer.Results Cursor) = true
is_cursor _ = false

-- the first byte of the command; ef, with which no command begins, for an execution that requests a cursor
abbrev pub byte_of : Command → ℕ
byte_of c = if c.code == COM_STMT_EXECUTE && is_cursor c.answer then 0xef else c.code

abbrev pub command_in : ℕ → Option Answer → Command
command_in byte None = record { code = COM_STMT_EXECUTE; answer = answer.Results Cursor }
command_in byte (Some answer) = record { code = byte; answer = answer }

-- the command with this byte
unfoldable pub command_at : ℕ → Command
command_at byte = command_in byte (answering byte false)

-- the commands with these bytes, whose numbers begin with n
abbrev pub numbered_from : ℕ → List ℕ → List Waiting
numbered_from n [] = []
numbered_from n (byte ∷ bytes) = wait (command_at byte) n ∷ numbered_from (n + 1) bytes

-- the waiting commands: all after that of the current exchange
abbrev pub queue : PipelineState → List Waiting
queue s = numbered_from (s.number + 1) (take (s.last - s.number) s.waiting)

-- at most eight commands wait
abbrev pub IsQueue : PipelineState → Type 0
IsQueue s = (s.number ≤ s.last) × (s.last ≤ s.number + 8)

abbrev pub is_queue : PipelineState → Bool
is_queue s = not (nat_lt s.last s.number) && not (nat_lt (s.number + 8) s.last)

-- ---- what was taken

abbrev pub opening : PipelineState → InitialPhase
opening s = s.current.opening

-- the state of the machine, if its current exchange is in this state
abbrev pub stands_in : State → PipelineState → Standing
stands_in m s = standing m s.number s.last (queue s)

-- the numbers are those of a state
abbrev pub IsState : PipelineState → Type 0
IsState s = conversation.IsState s.current × IsQueue s

-- a pipeline in this state has taken these packets, with these kinds and numbers
abbrev pub TakenAt : Agreed → PipelineState → List Numbered → Type 0
TakenAt agreed s items = IsQueue s × (m : State) × (state_at s.current ≡ Some m) × PipeRun agreed (start (opening s)) items (stands_in m s)

-- ---- when no further command may wait

-- it is the server's turn, so a new command has to wait; after COM_QUIT none may come
abbrev pub MustWait : State → PipelineState → Type 0
MustWait m s = (is_due m ≡ true) × (quits (queue s) ≡ false)

-- a command would have to wait while eight others do, or 2^64 - 1 commands have been counted
abbrev pub TakesNone : State → PipelineState → Type 0
TakesNone m s = (MustWait m s × (8 ≤ length (queue s))) ⊎ ((MustWait m s ⊎ (is_rest m ≡ true)) × (s.last ≡ 2 ^ 64 - 1))

-- it is a command, and the ninth that would have to wait, or can't be counted
abbrev pub IsFull : PipelineState → Side → List ℕ → Type 0
IsFull s side p = IsCommand side p × IsQueue s × (m : State) × (state_at s.current ≡ Some m) × TakesNone m s

-- the packet, with some kind and number, continues what was taken
abbrev pub Comes : Agreed → PipelineState → Side → List ℕ → Type 0
Comes agreed s side p =
    (items : List Numbered) → TakenAt agreed s items → (k : PacketKind) × (n : ℕ) × IsPipelinedBeginning agreed (opening s) (items ++ place side p k n ∷ [])
