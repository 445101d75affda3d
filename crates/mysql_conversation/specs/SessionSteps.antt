-- What the packets before a conversation say by themselves, and the session's step for each.
use Rattle.std.specs.Prelude.{◌≡◌, ◌⊎◌, ℕ, List, [], Bool, true, false, Option, Some, None, Ok, Err, if◌then◌else◌}
use Rattle.mysql_wire.specs.Reading.{Reading}
use Rattle.mysql_auth.specs.Handshake.{HandshakePacket, handshake}
use Rattle.mysql_auth.specs.SslRequest.{ssl_request}
use Rattle.mysql_auth.specs.declared.ssl_request.SslRequest.{SslRequest}
use Rattle.mysql_conversation.specs.Agreements.{Agreed, agreed_on, compresses}
use Rattle.mysql_conversation.specs.Payloads.{first_is}
use Rattle.mysql_conversation.specs.Piped.{PipeTaken}
use Rattle.mysql_conversation.specs.Session.{server_of, client_of, asks_tls, ends_name, is_clear_error, MayLogIn}
use Rattle.mysql_conversation.specs.declared.packet_kind.PacketKind.{PacketKind}
use Rattle.mysql_conversation.specs.declared.packet_kind.PacketKind.TheVariants as kind
use Rattle.mysql_conversation.specs.declared.packet_kind.InitialPhase.TheVariants.{Login}
use Rattle.mysql_conversation.specs.declared.pipeline.Pipeline.{Pipeline}
use Rattle.mysql_conversation.specs.declared.session.Phase.{Phase}
use Rattle.mysql_conversation.specs.declared.session.Phase.TheVariants as phase

abbrev pub greeting_in : Reading HandshakePacket → Option Agreed
greeting_in (Ok x) = Some (server_of x.0)
greeting_in (Err e) = None

unfoldable pub greeting_at : List ℕ → Option Agreed
greeting_at p = greeting_in ((handshake.form tt).reads p)

abbrev pub login_in : Reading SslRequest → Option SslRequest
login_in (Ok x) = Some x.0
login_in (Err e) = None

unfoldable pub login_at : List ℕ → Option SslRequest
login_at p = login_in ((ssl_request.form tt).reads p)

abbrev pub IsNewPipeline : Agreed → Phase → Type 0
IsNewPipeline a next = (q : Pipeline) × (next ≡ phase.Commands q) × (q.agreed ≡ a) × (q.opening ≡ Login) × PipeTaken q []

-- both sides agree on compression by the client's login
abbrev pub CompressedBy : Agreed → Bool → List ℕ → Type 0
CompressedBy server tls p = (r : SslRequest) × (login_at p ≡ Some r) × MayLogIn tls r × (compresses (agreed_on server (client_of r)) ≡ true) × (ends_name p ≡ true)

-- no login
abbrev pub IsNoLoginAt : Bool → List ℕ → Option SslRequest → Type 0
IsNoLoginAt tls p None = Unit {0}
IsNoLoginAt tls p (Some r) = MayLogIn tls r × (ends_name p ≡ false)

abbrev pub AnsweredAs : Agreed → Bool → List ℕ → PacketKind → Phase → Type 0
AnsweredAs server tls p k next =
    ((r : SslRequest) × (login_at p ≡ Some r)
    × (((tls ≡ false) × (asks_tls r ≡ true) × (k ≡ kind.SslRequest) × (next ≡ phase.Encrypted server))
    ⊎ (MayLogIn tls r × (compresses (agreed_on server (client_of r)) ≡ false) × (k ≡ kind.Login) × IsNewPipeline (agreed_on server (client_of r)) next × (ends_name p ≡ true))))
    ⊎ (IsNoLoginAt tls p (login_at p) × (k ≡ kind.Login) × (next ≡ phase.NoLogin))

-- ---- the session's step for a packet before the conversation

-- an error, after which nothing comes
abbrev pub refused_by : Bool → PacketKind → Option (PacketKind × Phase)
refused_by true k = Some (k, phase.Refused)
refused_by false k = None

abbrev pub greeted_by : Option Agreed → Option (PacketKind × Phase)
greeted_by None = None
greeted_by (Some server) = Some (kind.Handshake, phase.Login server)

-- a packet of the server
abbrev pub served_before : Phase → List ℕ → Option (PacketKind × Phase)
served_before phase.Greeting p = if first_is 0xff p then Some (kind.UnsolicitedError, phase.Refused) else greeted_by (greeting_at p)
served_before phase.Refused p = None
served_before (phase.Login server) p = refused_by (first_is 0xff p) kind.UnsolicitedError
served_before (phase.Encrypted server) p = refused_by (is_clear_error p) kind.UnsolicitedError
served_before (phase.InTls server) p = refused_by (first_is 0xff p) kind.UnsolicitedError
served_before phase.NoLogin p = refused_by (first_is 0xff p) kind.Error
served_before (phase.Commands q) p = None

-- a packet of the client is taken with this kind, and this phase follows
abbrev pub SentBefore : Phase → List ℕ → PacketKind → Phase → Type 0
SentBefore (phase.Login server) p k next = AnsweredAs server false p k next
SentBefore (phase.InTls server) p k next = AnsweredAs server true p k next
SentBefore ph p k next = ⊥

-- both sides agree on compression by a packet of the client
abbrev pub CompressedAt : Phase → List ℕ → Type 0
CompressedAt (phase.Login server) p = CompressedBy server false p
CompressedAt (phase.InTls server) p = CompressedBy server true p
CompressedAt ph p = ⊥

-- no packet of the client may come
abbrev pub sends_none : Phase → Bool
sends_none phase.Greeting = true
sends_none phase.Refused = true
sends_none phase.NoLogin = true
sends_none ph = false

-- TLS was requested, and the payloads that follow aren't decrypted
abbrev pub is_encrypted : Phase → Bool
is_encrypted (phase.Encrypted server) = true
is_encrypted ph = false

-- the conversation continues
abbrev pub is_commands : Phase → Bool
is_commands (phase.Commands q) = true
is_commands ph = false
