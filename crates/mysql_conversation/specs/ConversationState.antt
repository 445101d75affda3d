-- The state of a conversation, as plain numbers.
use Rattle.std.specs.Prelude.{◌≡◌, ℕ, ◌==◌, ◌&&◌, List, Bool, true, false, Option, Some, None, if◌then◌else◌}
use Rattle.std.specs.Option.{IsSome, option_map}
use Rattle.mysql_conversation.specs.Agreements.{Agreed}
use Rattle.mysql_conversation.specs.Conversation.{format_of}
use Rattle.mysql_conversation.specs.Payloads.{begins_row}
use Rattle.mysql_conversation.specs.Machine.{is_rest, is_shut, listens, take_step}
use Rattle.mysql_conversation.specs.declared.conversation_state.ConversationState.{ConversationState}
use Rattle.mysql_conversation.specs.declared.packet_kind.InitialPhase.{InitialPhase}
use Rattle.mysql_conversation.specs.declared.packet_kind.PacketKind.{PacketKind}
use Rattle.mysql_conversation.specs.declared.packet_kind.Side.TheVariants.{Server}
use Rattle.mysql_conversation.specs.declared.state.After.{After}
use Rattle.mysql_conversation.specs.declared.state.After.TheVariants as after
use Rattle.mysql_conversation.specs.declared.state.Request.{Request}
use Rattle.mysql_conversation.specs.declared.state.Request.TheVariants.{Query, Execution, Cursor}
use Rattle.mysql_conversation.specs.declared.state.State.{State}
use Rattle.mysql_conversation.specs.declared.state.State.TheVariants as state

-- a state that counts nothing
abbrev pub at : InitialPhase → ℕ → ℕ → ConversationState
at opening place request = record { opening = opening; place = place; request = request; after = 0; definitions = 0; columns = 0 }

-- the numbers of each state; unused ones are 0
abbrev pub number_of : Request → ℕ
number_of Query = 0
number_of Execution = 1
number_of Cursor = 2

abbrev pub at_definitions : InitialPhase → ℕ → ℕ → After → ConversationState
at_definitions opening place n after.Rest = record { opening = opening; place = place; request = 0; after = 0; definitions = n; columns = 0 }
at_definitions opening place n (after.Rows r) = record { opening = opening; place = place; request = number_of r; after = 1; definitions = n; columns = 0 }
at_definitions opening place n (after.Columns m) = record { opening = opening; place = place; request = 0; after = 2; definitions = n; columns = m }
at_definitions opening place n after.End = record { opening = opening; place = place; request = 0; after = 3; definitions = n; columns = 0 }

abbrev pub number_if : Bool → ℕ
number_if false = 0
number_if true = 1

-- a change of user, or a login
abbrev pub asked_number : Bool → Bool → ℕ
asked_number false is_asked = number_if is_asked
asked_number true false = 2
asked_number true true = 3

abbrev pub numbers_of : InitialPhase → State → ConversationState
numbers_of o state.Rest = at o 0 0
numbers_of o (state.Authentication login is_asked) = at o 1 (asked_number login is_asked)
numbers_of o (state.Reply r) = at o 2 (number_of r)
numbers_of o (state.Infile r) = at o 3 (number_of r)
numbers_of o (state.InfileReply r) = at o 4 (number_of r)
numbers_of o (state.Definitions n b) = at_definitions o 5 n b
numbers_of o (state.DefinitionsEnd b) = at_definitions o 6 0 b
numbers_of o (state.Rows r) = at o 7 (number_of r)
numbers_of o state.Prepared = at o 8 0
numbers_of o state.Fetch = at o 9 0
numbers_of o (state.Acknowledgement may_end) = at o 10 (number_if may_end)
numbers_of o state.Text = at o 11 0
numbers_of o state.Fields = at o 12 0
numbers_of o state.Events = at o 13 0
numbers_of o state.SessionError = at o 14 0
numbers_of o state.CloneReply = at o 15 0
numbers_of o state.Clone = at o 16 0
numbers_of o state.Over = at o 17 0
numbers_of o state.Quit = at o 18 0

abbrev pub request_at : ℕ → Option Request
request_at n = if n == 0 then Some Query else (if n == 1 then Some Execution else (if n == 2 then Some Cursor else None))

abbrev pub truth_at : ℕ → Option Bool
truth_at n = if n == 0 then Some false else (if n == 1 then Some true else None)

abbrev pub authentication_at : ℕ → Option State
authentication_at n =
    if n == 0 then Some (state.Authentication false false)
    else (if n == 1 then Some (state.Authentication false true)
    else (if n == 2 then Some (state.Authentication true false)
    else (if n == 3 then Some (state.Authentication true true)
    else None)))

-- what follows the definitions
abbrev pub after_at : ConversationState → Option After
after_at s =
    if s.after == 0 then Some after.Rest
    else (if s.after == 1 then option_map after.Rows (request_at s.request)
    else (if s.after == 2 then Some (after.Columns s.columns)
    else (if s.after == 3 then Some after.End
    else None)))

-- the state with these numbers, if there is one
abbrev pub state_at : ConversationState → Option State
state_at s =
    if s.place == 0 then Some state.Rest
    else (if s.place == 1 then authentication_at s.request
    else (if s.place == 2 then option_map state.Reply (request_at s.request)
    else (if s.place == 3 then option_map state.Infile (request_at s.request)
    else (if s.place == 4 then option_map state.InfileReply (request_at s.request)
    else (if s.place == 5 then option_map (state.Definitions s.definitions) (after_at s)
    else (if s.place == 6 then option_map state.DefinitionsEnd (after_at s)
    else (if s.place == 7 then option_map state.Rows (request_at s.request)
    else (if s.place == 8 then Some state.Prepared
    else (if s.place == 9 then Some state.Fetch
    else (if s.place == 10 then option_map state.Acknowledgement (truth_at s.request)
    else (if s.place == 11 then Some state.Text
    else (if s.place == 12 then Some state.Fields
    else (if s.place == 13 then Some state.Events
    else (if s.place == 14 then Some state.SessionError
    else (if s.place == 15 then Some state.CloneReply
    else (if s.place == 16 then Some state.Clone
    else (if s.place == 17 then Some state.Over
    else (if s.place == 18 then Some state.Quit
    else None))))))))))))))))))

-- the numbers are those of a state
abbrev pub IsState : ConversationState → Type 0
IsState s = IsSome (state_at s)

abbrev pub says_row_of : Option Request → List ℕ → Bool
says_row_of None payload = false
says_row_of (Some r) payload = begins_row (format_of r) payload

-- the state is among rows, and the first byte says that the packet is one of them
abbrev pub says_row : ConversationState → List ℕ → Bool
says_row s payload = s.place == 7 && says_row_of (request_at s.request) payload

-- the machine takes a packet of the server as this kind, and its state, in which an exchange runs, stays as it is
abbrev pub Stays : Agreed → ConversationState → List ℕ → PacketKind → Type 0
Stays agreed s payload kind =
    (m : State) × (state_at s ≡ Some m) × (take_step agreed m Server payload ≡ Some (kind, m)) × (listens m ≡ false) × (is_shut m ≡ false) × (is_rest m ≡ false)
