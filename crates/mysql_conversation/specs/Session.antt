-- Whole sessions: the greeting, the login, and the conversation after them.
use Rattle.std.specs.Prelude.{◌≡◌, ◌⊎◌, ℕ, List, [], ◌∷◌, ◌++◌, drop, length, nat_lt, Bool, true, false, ◌==◌, ◌&&◌, if◌then◌else◌}
use Rattle.std.specs.List.{list_any}
use Rattle.mysql_wire.specs.FlagMasks.{CLIENT_SSL}
use Rattle.mysql_wire.specs.Flags.{has}
use Rattle.mysql_auth.specs.Handshake.{HandshakePacket, handshake}
use Rattle.mysql_auth.specs.Handshake as greeting
use Rattle.mysql_auth.specs.SslRequest.{ssl_request}
use Rattle.mysql_auth.specs.SslRequest as head
use Rattle.mysql_auth.specs.declared.ssl_request.SslRequest.{SslRequest}
use Rattle.mysql_conversation.specs.Agreements.{Agreed, agreed_on, compresses}
use Rattle.mysql_conversation.specs.PacketKindTag.{name_of}
use Rattle.mysql_conversation.specs.Payloads.{first_is}
use Rattle.mysql_conversation.specs.Piped as pipe
use Rattle.mysql_conversation.specs.Piped.{PipeTaken, place}
use Rattle.mysql_conversation.specs.Pipelined.{Numbered, IsPipelined, IsPipelinedBeginning}
use Rattle.mysql_conversation.specs.declared.packet_kind.PacketKind.{PacketKind}
use Rattle.mysql_conversation.specs.declared.packet_kind.PacketKind.TheVariants as kind
use Rattle.mysql_conversation.specs.declared.packet_kind.InitialPhase.TheVariants.{Commands, Login}
use Rattle.mysql_conversation.specs.declared.packet_kind.Side.{Side}
use Rattle.mysql_conversation.specs.declared.packet_kind.Side.TheVariants.{Client, Server}
use Rattle.mysql_conversation.specs.declared.packet_kind_tag.PacketKindTag.{PacketKindTag}
use Rattle.mysql_conversation.specs.declared.pipeline.Pipeline.{Pipeline}
use Rattle.mysql_conversation.specs.declared.session.Phase.{Phase}
use Rattle.mysql_conversation.specs.declared.session.Phase.TheVariants as phase
use Rattle.mysql_conversation.specs.declared.session.Session.{Session}

-- the server's capabilities, from its greeting, and the client's, from the 32 bytes that begin its login
abbrev pub server_of : HandshakePacket → Agreed
server_of h = record { mysql = record { 0 = greeting.capabilities h; 1 = record {} }; mariadb = greeting.mariadb_ext_capabilities h }

abbrev pub client_of : SslRequest → Agreed
client_of r = record { mysql = head.capabilities r; mariadb = head.mariadb_capabilities r }

-- the client requests TLS
abbrev pub asks_tls : SslRequest → Bool
asks_tls r = has (head.capabilities r).0 CLIENT_SSL

-- a byte is 0
abbrev pub has_zero : List ℕ → Bool
has_zero bytes = list_any (λ b. b == 0) bytes

-- The user's name after these 32 bytes ends with a zero. Without it the packet is no login (`parse_client_handshake_packet` in MySQL's
-- `sql_authentication.cc`), whatever precedes it.
abbrev pub ends_name : List ℕ → Bool
ends_name p = if nat_lt (length p) 32 then false else has_zero (drop 32 p)

-- ff, a code and the # before its SQL state: no TLS record of a server begins with these
abbrev pub is_clear_error : List ℕ → Bool
is_clear_error (b ∷ c ∷ d ∷ hash ∷ p) = b == 0xff && hash == 0x23
is_clear_error _ = false

-- a packet that belongs to no command, from this side and of this kind
abbrev pub IsOf : Side → PacketKind → Numbered → Type 0
IsOf side k x = (x.packet.from ≡ side) × (x.packet.kind ≡ k) × (x.number ≡ 0)

-- the greeting of a server with these capabilities
abbrev pub IsGreeting : Agreed → Numbered → Type 0
IsGreeting server x = IsOf Server kind.Handshake x × (first_is 0xff x.packet.payload ≡ false)
    × (h : HandshakePacket) × (rest : List ℕ) × (handshake.form tt).Spells h x.packet.payload rest × (server_of h ≡ server)

-- an error in its place
abbrev pub IsGreetingError : Numbered → Type 0
IsGreetingError x = IsOf Server kind.UnsolicitedError x × (first_is 0xff x.packet.payload ≡ true)

-- the payload begins like a login of such a client
abbrev pub BeginsAs : SslRequest → List ℕ → Type 0
BeginsAs r p = (rest : List ℕ) × (ssl_request.form tt).Spells r p rest

-- a request for TLS
abbrev pub IsSslRequest : Numbered → Type 0
IsSslRequest x = IsOf Client kind.SslRequest x × (r : SslRequest) × BeginsAs r x.packet.payload × (asks_tls r ≡ true)

-- a login in TLS repeats the flag of the request
abbrev pub MayLogIn : Bool → SslRequest → Type 0
MayLogIn true r = Unit {0}
MayLogIn false r = asks_tls r ≡ false

-- a login of a client with these capabilities
abbrev pub IsLogin : Bool → Agreed → Numbered → Type 0
IsLogin tls client x = IsOf Client kind.Login x × (r : SslRequest) × BeginsAs r x.packet.payload × MayLogIn tls r × (client_of r ≡ client) × (ends_name x.packet.payload ≡ true)

-- a packet in place of a login that is none
abbrev pub IsNoLogin : Bool → Numbered → Type 0
IsNoLogin tls x = IsOf Client kind.Login x × ((r : SslRequest) → BeginsAs r x.packet.payload → MayLogIn tls r × (ends_name x.packet.payload ≡ false))

-- the server answers it with an error
abbrev pub IsLoginError : Numbered → Type 0
IsLoginError x = IsOf Server kind.Error x × (first_is 0xff x.packet.payload ≡ true)

-- what precedes the login: the greeting, and the request for TLS if there is one
abbrev pub Before : Agreed → Bool → List Numbered → Type 0
Before server false items = (x : Numbered) × (items ≡ x ∷ []) × IsGreeting server x
Before server true items = (x : Numbered) × (y : Numbered) × (items ≡ x ∷ y ∷ []) × IsGreeting server x × IsSslRequest y

-- the client's login, after what precedes it; both sides agree on no compression
abbrev pub IsLoggedIn : Agreed → List Numbered → Numbered → Type 0
IsLoggedIn a front x =
    (server : Agreed) × (client : Agreed) × (tls : Bool) × Before server tls front × IsLogin tls client x × (agreed_on server client ≡ a) × (compresses a ≡ false)

-- an error in place of the greeting; in place of the login, for example because it is late; or in answer to a packet that is no login
abbrev pub IsRefused : List Numbered → Type 0
IsRefused items =
    ((x : Numbered) × (items ≡ x ∷ []) × IsGreetingError x)
    ⊎ (((server : Agreed) × (tls : Bool) × (front : List Numbered) × (x : Numbered) × (items ≡ front ++ x ∷ []) × Before server tls front × IsGreetingError x)
    ⊎ ((server : Agreed) × (tls : Bool) × (front : List Numbered) × (y : Numbered) × (x : Numbered) × (items ≡ front ++ y ∷ x ∷ []) × Before server tls front × IsNoLogin tls y × IsLoginError x))

-- a session that is refused; or the greeting, the login, and a conversation with what both sides agreed on
abbrev pub IsSession : List Numbered → Type 0
IsSession items =
    IsRefused items
    ⊎ ((a : Agreed) × (front : List Numbered) × (x : Numbered) × (rest : List Numbered) × (items ≡ front ++ x ∷ rest) × IsLoggedIn a front x × IsPipelined a Login rest)

-- the beginning of a session
abbrev pub IsSessionBeginning : List Numbered → Type 0
IsSessionBeginning items = (more : List Numbered) × IsSession (items ++ more)

-- these packets, with these kinds and numbers, are those it has taken
abbrev pub TakenIn : Phase → List Numbered → Type 0
TakenIn phase.Greeting items = items ≡ []
TakenIn phase.Refused items = IsRefused items
TakenIn phase.NoLogin items =
    (server : Agreed) × (tls : Bool) × (front : List Numbered) × (y : Numbered) × (items ≡ front ++ y ∷ []) × Before server tls front × IsNoLogin tls y
TakenIn (phase.Login server) items = Before server false items
TakenIn (phase.Encrypted server) items = Before server true items
TakenIn (phase.InTls server) items = Before server true items
TakenIn (phase.Commands p) items =
    (front : List Numbered) × (x : Numbered) × (rest : List Numbered) × (items ≡ front ++ x ∷ rest) × IsLoggedIn p.agreed front x × (p.opening ≡ Login) × PipeTaken p rest

abbrev pub SessionTaken : Session → List Numbered → Type 0
SessionTaken s items = TakenIn s.phase items

-- how many commands may wait in the conversation, once the client has logged in
abbrev pub limit_in : ℕ → Phase → ℕ
limit_in n (phase.Commands p) = pipe.limit p
limit_in n _ = n

abbrev pub limit : Session → ℕ
limit s = limit_in s.limit s.phase

-- TLS was requested, and the payloads that follow aren't decrypted
abbrev pub IsEncrypted : Session → Type 0
IsEncrypted s = (server : Agreed) × (s.phase ≡ phase.Encrypted server)

-- the payload is encrypted: in TLS, except for an error in clear from a server that doesn't continue in TLS
abbrev pub IsHidden : Session → Side → List ℕ → Type 0
IsHidden s side p = IsEncrypted s × ((side ≡ Client) ⊎ (is_clear_error p ≡ false))

-- payloads are decrypted, if the connection continues in TLS
abbrev pub deciphered_in : Phase → Phase
deciphered_in phase.Greeting = phase.Greeting
deciphered_in phase.Refused = phase.Refused
deciphered_in phase.NoLogin = phase.NoLogin
deciphered_in (phase.Login server) = phase.Login server
deciphered_in (phase.Encrypted server) = phase.InTls server
deciphered_in (phase.InTls server) = phase.InTls server
deciphered_in (phase.Commands p) = phase.Commands p

-- the login to a server with these capabilities comes next: in TLS if it was requested, and decrypted
abbrev pub AwaitsLogin : Session → Bool → Agreed → Type 0
AwaitsLogin s false server = s.phase ≡ phase.Login server
AwaitsLogin s true server = s.phase ≡ phase.InTls server

-- the client requests TLS
abbrev pub AsksForTls : Session → Side → List ℕ → Type 0
AsksForTls s side p = (side ≡ Client) × (server : Agreed) × (r : SslRequest) × AwaitsLogin s false server × BeginsAs r p × (asks_tls r ≡ true)

-- the client logs in, and by the greeting and the login both sides agree on compression
abbrev pub AgreesOnCompression : Session → Side → List ℕ → Type 0
AgreesOnCompression s side p =
    (side ≡ Client) × (tls : Bool) × (server : Agreed) × (r : SslRequest) × AwaitsLogin s tls server × BeginsAs r p × MayLogIn tls r × (compresses (agreed_on server (client_of r)) ≡ true) × (ends_name p ≡ true)

-- nothing is changed: a conversation is the same, and before it the expected packet
abbrev pub IsSameIn : Phase → Phase → Type 0
IsSameIn phase.Greeting next = next ≡ phase.Greeting
IsSameIn phase.Refused next = next ≡ phase.Refused
IsSameIn phase.NoLogin next = next ≡ phase.NoLogin
IsSameIn (phase.Login server) next = next ≡ phase.Login server
IsSameIn (phase.Encrypted server) next = next ≡ phase.Encrypted server
IsSameIn (phase.InTls server) next = next ≡ phase.InTls server
IsSameIn (phase.Commands p) next = (q : Pipeline) × (next ≡ phase.Commands q) × pipe.IsSame p q

abbrev pub IsSame : Session → Session → Type 0
IsSame s t = IsSameIn s.phase t.phase

-- the conversation after the login
abbrev pub Continues : Session → Pipeline → Type 0
Continues s p = s.phase ≡ phase.Commands p

-- the packet, with some kind and number, continues what was taken
abbrev pub Comes : Session → Side → List ℕ → Type 0
Comes s side p = (items : List Numbered) → SessionTaken s items → (k : PacketKind) × (n : ℕ) × IsSessionBeginning (items ++ place side p k n ∷ [])

-- some packet from this side, of a kind with this name, continues these packets
abbrev pub GoesOn : Side → PacketKindTag → List Numbered → Type 0
GoesOn side name items = (payload : List ℕ) × (kind : PacketKind) × (number : ℕ) × (name_of kind ≡ name) × IsSessionBeginning (items ++ place side payload kind number ∷ [])

-- one of the packets is a login, by which both sides agree on this
abbrev pub IsLoggedInAmong : Agreed → List Numbered → Type 0
IsLoggedInAmong a items = (front : List Numbered) × (x : Numbered) × (rest : List Numbered) × (items ≡ front ++ x ∷ rest) × IsLoggedIn a front x

-- ---- sessions that are resumed

-- it is resumed between two exchanges, under what both sides agreed on before, and these packets are what it has taken since
abbrev pub SessionResumed : Session → Agreed → List Numbered → Type 0
SessionResumed s a items = (p : Pipeline) × Continues s p × (pipe.agreed p ≡ a) × (pipe.opening p ≡ Commands) × PipeTaken p items

-- it goes on as a pipelined conversation does that begins with a command
abbrev pub IsResumedBeginning : Agreed → List Numbered → Type 0
IsResumedBeginning a items = IsPipelinedBeginning a Commands items

abbrev pub IsResumedSession : Agreed → List Numbered → Type 0
IsResumedSession a items = IsPipelined a Commands items
