-- Which packet comes next, in C.
use Rattle.std.specs.Prelude.{◌≡◌, ◌≢◌, ◌↔◌, ◌≤◌, ℕ, ◌<◌, ◌==◌, List, [], ◌∷◌, ◌++◌, ◌⊎◌, Bool, false, Option, Some, None, if◌then◌else◌}
use Rattle.mysql_conversation.specs.Agreements.{Agreed}
use Rattle.mysql_conversation.specs.LoginState as login
use Rattle.mysql_conversation.specs.LoginState.{StandsAt}
use Rattle.mysql_conversation.specs.Piped.{place}
use Rattle.mysql_conversation.specs.Pipelined.{Numbered, IsPipelined, IsPipelinedBeginning}
use Rattle.mysql_conversation.specs.PipelineState as stands
use Rattle.mysql_conversation.specs.Session.{AgreesOnCompression, Continues, IsEncrypted, IsLoggedInAmong, IsSession, IsSessionBeginning}
use Rattle.mysql_conversation.specs.PacketKindTag.{index, name_of}
use Rattle.mysql_conversation.specs.declared.conversation_state.ConversationState.{ConversationState}
use Rattle.mysql_conversation.specs.declared.login_state.LoginState.{LoginState}
use Rattle.mysql_conversation.specs.declared.packet_kind.PacketKind.{PacketKind}
use Rattle.mysql_conversation.specs.declared.packet_kind.PacketKind.TheVariants as kinds
use Rattle.mysql_conversation.specs.declared.packet_kind.InitialPhase.{InitialPhase}
use Rattle.mysql_conversation.specs.declared.packet_kind.InitialPhase.TheVariants.{Login, Commands}
use Rattle.mysql_conversation.specs.declared.packet_kind.Side.{Side}
use Rattle.mysql_conversation.specs.declared.packet_kind.Side.TheVariants.{Client, Server}
use Rattle.mysql_conversation.specs.declared.pipeline.Pipeline.{Pipeline}
use Rattle.mysql_conversation.specs.declared.pipeline_state.PipelineState.{PipelineState}
use Rattle.mysql_conversation.specs.declared.session.Session.{Session}
use Rattle.mysql_packets_c.specs.declared.conversation.CConversation.{CConversation}
use Rattle.mysql_packets_c.specs.declared.conversation.CPacket.{CPacket}

-- ---- numbers

-- zeroed memory is no conversation
abbrev pub IsOpening : ℕ → Type 0
IsOpening n = (0 < n) × (n < 3)

abbrev pub opening_of : ℕ → Option InitialPhase
opening_of n = if n == 1 then Some Login else (if n == 2 then Some Commands else None)

abbrev pub number_of : InitialPhase → ℕ
number_of Login = 1
number_of Commands = 2

abbrev pub side_of : ℕ → Option Side
side_of n = if n == 0 then Some Client else (if n == 1 then Some Server else None)

-- what both sides agreed on
abbrev pub agreed_by : ℕ → ℕ → Agreed
agreed_by capabilities mariadb = record { mysql = record { 0 = capabilities; 1 = record {} }; mariadb = record { 0 = mariadb; 1 = record {} } }

abbrev pub agreed_of : CConversation → Agreed
agreed_of c = agreed_by c.capabilities c.mariadb_capabilities

abbrev pub current_of : CConversation → InitialPhase → ConversationState
current_of c o = record { opening = o; place = c.place; request = c.request; after = c.after; definitions = c.definitions; columns = c.columns }

abbrev pub state_of : CConversation → InitialPhase → PipelineState
state_of c o = record { current = current_of c o; number = c.exchange; last = c.commands; waiting = c.waiting }

-- what both sides agreed on, and the initial phase
abbrev pub IsUnder : Agreed → Option InitialPhase → CConversation → Type 0
IsUnder agreed opening c = (agreed_of c ≡ agreed) × (opening_of c.opening ≡ opening)

-- a session before its conversation; the capabilities are the server's
abbrev pub IsLogin : CConversation → Type 0
IsLogin c = c.opening ≡ 3

abbrev pub login_state_of : CConversation → LoginState
login_state_of c = record { place = c.place; server = agreed_of c }

abbrev pub IsLoginState : CConversation → Type 0
IsLoginState c = login.IsState (login_state_of c)

-- the numbers are those of an initial phase and of a state, which is the same for each
abbrev pub IsState : CConversation → Type 0
IsState c = IsOpening c.opening × stands.IsState (state_of c Login)

-- the numbers are those of a session before its conversation, or of a conversation
abbrev pub IsBegun : CConversation → Type 0
IsBegun c = (IsLogin c × IsLoginState c) ⊎ IsState c

-- ---- what was taken

abbrev pub LoginTaken : CConversation → List Numbered → Type 0
LoginTaken c items = IsLogin c × login.LoginTaken (login_state_of c) items

abbrev pub ConversationTaken : CConversation → List Numbered → Type 0
ConversationTaken c items = (o : InitialPhase) × (opening_of c.opening ≡ Some o) × stands.TakenAt (agreed_of c) (state_of c o) items

-- these packets, with these kinds and numbers, are those it has taken: of a session before its conversation, or of a conversation
abbrev pub Taken : CConversation → List Numbered → Type 0
Taken c items = LoginTaken c items ⊎ ConversationTaken c items

-- the packets are the beginning of a session, or of a conversation
abbrev pub IsBeginning : CConversation → List Numbered → Type 0
IsBeginning c items = (IsLogin c × IsSessionBeginning items) ⊎ ((o : InitialPhase) × (opening_of c.opening ≡ Some o) × IsPipelinedBeginning (agreed_of c) o items)

-- the packets are a whole session, or a whole conversation
abbrev pub IsWhole : CConversation → List Numbered → Type 0
IsWhole c items = (IsLogin c × IsSession items) ⊎ ((o : InitialPhase) × (opening_of c.opening ≡ Some o) × IsPipelined (agreed_of c) o items)

-- the client has logged in among these packets: both sides agree on this, and the conversation has no packet yet
abbrev pub LogsIn : CConversation → List Numbered → Type 0
LogsIn c items = ConversationTaken c [] × (opening_of c.opening ≡ Some Login) × IsLoggedInAmong (agreed_of c) items

-- the session has no conversation yet, and is in clear or decrypted
abbrev pub IsOpen : Session → Type 0
IsOpen s = (IsEncrypted s → ⊥) × ((p : Pipeline) → Continues s p → ⊥)

-- ---- the next packet

-- what a kind says about its packet
abbrev pub columns_of : PacketKind → ℕ
columns_of (kinds.ColumnCount count follow) = count
columns_of (kinds.PrepareOk columns params follow) = columns
columns_of _ = 0

abbrev pub params_of : PacketKind → ℕ
params_of (kinds.PrepareOk columns params follow) = params
params_of _ = 0

abbrev pub command_of : PacketKind → ℕ
command_of (kinds.Command code) = code
command_of _ = 0

abbrev pub follow_of : PacketKind → Bool
follow_of (kinds.ColumnCount count follow) = follow
follow_of (kinds.PrepareOk columns params follow) = follow
follow_of _ = false

abbrev pub packet_of : PacketKind → ℕ → CPacket
packet_of k n = record { columns = columns_of k; exchange = n; params = params_of k; kind = index (name_of k); command = command_of k; metadata_follows = if follow_of k then 1 else 0 }

-- the packet continues what was taken, and this is its kind and the number of its exchange; a login begins the conversation
abbrev pub Leads : CConversation → Side → List ℕ → CConversation → CPacket → Type 0
Leads before side payload after out =
    (kind : PacketKind) × (number : ℕ) × (out ≡ packet_of kind number)
    × (((items : List Numbered) → Taken before items → Taken after (items ++ place side payload kind number ∷ []))
    ⊎ ((items : List Numbered) → Taken before items → LogsIn after (items ++ place side payload kind number ∷ [])))

abbrev pub Goes : CConversation → ℕ → List ℕ → CConversation → CPacket → Type 0
Goes before from payload after out = (side : Side) × (side_of from ≡ Some side) × Leads before side payload after out

-- with no kind and number does it continue what was taken
abbrev pub IsNotNext : CConversation → Side → List ℕ → Type 0
IsNotNext c side payload = (items : List Numbered) (kind : PacketKind) (number : ℕ) → Taken c items → IsBeginning c (items ++ place side payload kind number ∷ []) → ⊥

abbrev pub ComesNot : CConversation → ℕ → List ℕ → Type 0
ComesNot c from payload = (side : Side) × (side_of from ≡ Some side) × IsNotNext c side payload

-- it is a command, and the ninth that would have to wait
abbrev pub IsFull : CConversation → Side → List ℕ → Type 0
IsFull c side payload = (o : InitialPhase) × (opening_of c.opening ≡ Some o) × stands.IsFull (state_of c o) side payload

abbrev pub Fills : CConversation → ℕ → List ℕ → Type 0
Fills c from payload = (side : Side) × (side_of from ≡ Some side) × IsFull c side payload

-- with some kind and number it continues what was taken
abbrev pub IsNext : CConversation → Side → List ℕ → Type 0
IsNext c side payload = (items : List Numbered) → Taken c items → (kind : PacketKind) × (number : ℕ) × IsBeginning c (items ++ place side payload kind number ∷ [])

abbrev pub Comes : CConversation → ℕ → List ℕ → Type 0
Comes c from payload = (side : Side) × (side_of from ≡ Some side) × IsNext c side payload

-- it is a login by which both sides agree on compression
abbrev pub AgreesToCompress : CConversation → Side → List ℕ → Type 0
AgreesToCompress c side payload = (session : Session) × StandsAt (login_state_of c) session × AgreesOnCompression session side payload

abbrev pub Compresses : CConversation → ℕ → List ℕ → Type 0
Compresses c from payload = (side : Side) × (side_of from ≡ Some side) × AgreesToCompress c side payload

-- ---- the next packet

-- the code that a call returns for the next packet, and both structs after it
pub record Classified (old : CConversation) (from : ℕ) (payload : List ℕ) (code : ℕ) (new : CConversation) (out_old out : CPacket) : Type 0 where
  pub taken : code ≡ 0 → Goes old from payload new out
  pub under : code ≡ 0 → (IsLogin old → ⊥) → IsUnder (agreed_of old) (opening_of old.opening) new
  pub begun : code ≡ 0 → IsBegun new
  pub refused : code ≡ 2 → ComesNot old from payload
  pub compressed : code ≡ 9 → Compresses old from payload
  pub full : (code ≡ 10) ↔ Fills old from payload
  pub comes : code ≡ 10 → Comes old from payload
  pub state : (code ≡ 3) ↔ ((2 ≤ from) ⊎ (IsBegun old → ⊥))
  pub stays : code ≢ 0 → (new ≡ old) × (out ≡ out_old)
  pub known : (code ≡ 0) ⊎ ((code ≡ 2) ⊎ ((code ≡ 3) ⊎ ((code ≡ 9) ⊎ (code ≡ 10))))
