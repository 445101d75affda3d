-- The packets that a pipeline has taken.
use Rattle.std.specs.Prelude.{◌≡◌, ◌⊎◌, ◌≤◌, ◌-◌, ◌^◌, ◌++◌, ◌∷◌, [], ℕ, List, length, true, false, Some}
use Rattle.std.specs.VecDeque.{deque_capacity, deque_len}
use Rattle.mysql_conversation.specs.Agreements.{Agreed}
use Rattle.mysql_conversation.specs.PacketKindTag.{name_of}
use Rattle.mysql_conversation.specs.Machine.{is_due, is_rest}
use Rattle.mysql_conversation.specs.Taken.{packet}
use Rattle.mysql_conversation.specs.Pipelined.{Numbered, IsPipelinedBeginning}
use Rattle.mysql_conversation.specs.Standing.{Standing, standing, start, quits, command_of, PipeRun}
use Rattle.mysql_conversation.specs.declared.packet_kind.PacketKind.{PacketKind}
use Rattle.mysql_conversation.specs.declared.packet_kind.InitialPhase.{InitialPhase}
use Rattle.mysql_conversation.specs.declared.packet_kind.Side.{Side}
use Rattle.mysql_conversation.specs.declared.packet_kind.Side.TheVariants.{Client}
use Rattle.mysql_conversation.specs.declared.packet_kind_tag.PacketKindTag.{PacketKindTag}
use Rattle.mysql_conversation.specs.declared.pipeline.Pipeline.{Pipeline}
use Rattle.mysql_conversation.specs.declared.state.Command.{Command}

abbrev pub place : Side → List ℕ → PacketKind → ℕ → Numbered
place side payload kind n = record { packet = packet side payload kind; number = n }

abbrev pub stands : Pipeline → Standing
stands c = standing c.state c.number c.last c.waiting.items

-- these packets, with these kinds and numbers, are those it has taken
abbrev pub PipeTaken : Pipeline → List Numbered → Type 0
PipeTaken c items = PipeRun c.agreed (start c.opening) items (stands c)

-- what both sides agreed on, the initial phase, how many commands may wait, and how many do
abbrev pub agreed : Pipeline → Agreed
agreed c = c.agreed

abbrev pub opening : Pipeline → InitialPhase
opening c = c.opening

abbrev pub limit : Pipeline → ℕ
limit c = c.limit

abbrev pub waiting : Pipeline → ℕ
waiting c = length c.waiting.items

-- it is the server's turn, so a new command has to wait; after COM_QUIT none may come
abbrev pub MustWait : Pipeline → Type 0
MustWait c = (is_due c.state ≡ true) × (quits c.waiting.items ≡ false)

-- 2^64 - 1 commands have been counted
abbrev pub CountsNoMore : Pipeline → Type 0
CountsNoMore c = c.last ≡ 2 ^ 64 - 1

-- no exchange is open, so the next command is answered next
abbrev pub IsIdle : Pipeline → Type 0
IsIdle c = is_rest c.state ≡ true

-- the payload is a command of the client
abbrev pub IsCommand : Side → List ℕ → Type 0
IsCommand side p = (side ≡ Client) × (command : Command) × (command_of p ≡ Some command)

-- a command that has to wait while the limit is reached, or that can't be counted
abbrev pub IsFull : Pipeline → Side → List ℕ → Type 0
IsFull c side p = IsCommand side p × ((MustWait c × (limit c ≤ waiting c)) ⊎ ((MustWait c ⊎ IsIdle c) × CountsNoMore c))

-- the number of waiting commands for which memory is allocated
abbrev pub capacity : Pipeline → ℕ
capacity c = deque_capacity c.waiting

-- the memory for waiting commands is full
abbrev pub HasNoCapacity : Pipeline → Type 0
HasNoCapacity c = deque_capacity c.waiting ≤ deque_len c.waiting

-- it is unchanged, except for the capacity for commands
abbrev pub IsSame : Pipeline → Pipeline → Type 0
IsSame c d = (d.agreed ≡ c.agreed) × (d.opening ≡ c.opening) × (d.limit ≡ c.limit) × (stands d ≡ stands c)

-- the packet, with some kind and number, continues what was taken
abbrev pub Comes : Pipeline → Side → List ℕ → Type 0
Comes c side p = (items : List Numbered) → PipeTaken c items → (k : PacketKind) × (n : ℕ) × IsPipelinedBeginning c.agreed c.opening (items ++ place side p k n ∷ [])

-- some packet from this side, of a kind with this name, continues these packets
abbrev pub GoesOn : Pipeline → Side → PacketKindTag → List Numbered → Type 0
GoesOn c side name items = (payload : List ℕ) × (kind : PacketKind) × (number : ℕ) × (name_of kind ≡ name) × IsPipelinedBeginning c.agreed c.opening (items ++ place side payload kind number ∷ [])
