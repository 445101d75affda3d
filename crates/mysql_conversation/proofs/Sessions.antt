-- Sessions: exactly which packets precede a conversation.
use Rattle.std.proofs.Common.{◌≡◌, ℕ, List, [], ◌∷◌, ◌++◌, ◌⊎◌, inl, inr, Some, None, Ok, Err, refl, sym, ap, subst, ◌∙◌, Bool, true, false, append_assoc}
use Rattle.std.proofs.lemmas.Bool.{and_parts}
use Rattle.std.specs.Prelude.{◌≢◌, ◌==◌, not, ◌&&◌, Option}
use Rattle.mysql_wire.specs.Reading.{Reading}
use Rattle.mysql_auth.specs.Handshake.{HandshakePacket, handshake}
use Rattle.mysql_auth.specs.SslRequest.{ssl_request}
use Rattle.mysql_auth.specs.declared.ssl_request.SslRequest.{SslRequest}
use Rattle.mysql_conversation.specs.Agreements.{Agreed, agreed_on}
use Rattle.mysql_conversation.specs.Payloads.{first_is}
use Rattle.mysql_conversation.specs.Piped.{PipeTaken, place}
use Rattle.mysql_conversation.specs.Pipelined.{Numbered, IsPipelined, IsPipelinedBeginning}
use Rattle.mysql_conversation.specs.Session.{server_of, client_of, asks_tls, ends_name, is_clear_error, IsGreeting, IsGreetingError, BeginsAs, IsSslRequest, MayLogIn, IsLogin, IsNoLogin, IsLoginError, Before, IsLoggedIn, IsLoggedInAmong, IsRefused, IsSession, IsSessionBeginning, TakenIn}
use Rattle.mysql_conversation.specs.SessionSteps.{greeting_in, greeting_at, login_in, login_at, IsNoLoginAt, AnsweredAs, SentBefore, refused_by, greeted_by, served_before, sends_none, is_commands, is_encrypted}
use Rattle.mysql_conversation.proofs.Classes.{chosen, some_is}
use Rattle.mysql_conversation.specs.declared.packet_kind.PacketKind.{PacketKind}
use Rattle.mysql_conversation.specs.declared.packet_kind.PacketKind.TheVariants as kind
use Rattle.mysql_conversation.specs.declared.packet_kind.InitialPhase.TheVariants.{Login}
use Rattle.mysql_conversation.specs.declared.packet_kind.Side.{Side}
use Rattle.mysql_conversation.specs.declared.packet_kind.Side.TheVariants.{Client, Server}
use Rattle.mysql_conversation.specs.declared.pipeline.Pipeline.{Pipeline}
use Rattle.mysql_conversation.specs.declared.pipeline.SessionError.{SessionError}
use Rattle.mysql_conversation.specs.declared.pipeline.SessionError.TheVariants as refusal
use Rattle.mysql_conversation.specs.declared.session.Phase.{Phase}
use Rattle.mysql_conversation.specs.declared.session.Phase.TheVariants as phase

-- ---- packets that are read

greeting_read : (server : Agreed) (p : List ℕ) (r : Reading HandshakePacket) → (handshake.form tt).reads p ≡ r → greeting_in r ≡ Some server
    → (h : HandshakePacket) × (rest : List ℕ) × (handshake.form tt).Spells h p rest × (server_of h ≡ server)
greeting_read server p (Ok x) e h = (x.0, x.1, (handshake.form tt).found x.0 p x.1 e, some_is h)
greeting_read server p (Err d) e h = absurd cc

pub greeting_at_is : (server : Agreed) (p : List ℕ) → greeting_at p ≡ Some server → (h : HandshakePacket) × (rest : List ℕ) × (handshake.form tt).Spells h p rest × (server_of h ≡ server)
unfolding greeting_at
greeting_at_is server p h = greeting_read server p ((handshake.form tt).reads p) refl h

pub greeting_at_of : (server : Agreed) (x : Numbered) → IsGreeting server x → greeting_at x.packet.payload ≡ Some server
unfolding greeting_at
greeting_at_of server x g = ap greeting_in ((handshake.form tt).only g.2 x.packet.payload g.3 g.4) ∙ ap (λ (a : Agreed). Some a) g.5

login_read : (r : SslRequest) (p : List ℕ) (x : Reading SslRequest) → (ssl_request.form tt).reads p ≡ x → login_in x ≡ Some r → BeginsAs r p
login_read r p (Ok x) e h = (x.1, subst (λ r. (ssl_request.form tt).Spells r p x.1) (some_is h) ((ssl_request.form tt).found x.0 p x.1 e))
login_read r p (Err d) e h = absurd cc

pub login_at_is : (r : SslRequest) (p : List ℕ) → login_at p ≡ Some r → BeginsAs r p
unfolding login_at
login_at_is r p h = login_read r p ((ssl_request.form tt).reads p) refl h

pub login_at_of : (r : SslRequest) (p : List ℕ) → BeginsAs r p → login_at p ≡ Some r
unfolding login_at
login_at_of r p b = ap login_in ((ssl_request.form tt).only r p b.0 b.1)

-- ---- each packet says one thing

server_once : (s t : Agreed) (x : Numbered) → IsGreeting s x → IsGreeting t x → s ≡ t
server_once s t x g h = some_is (sym (greeting_at_of s x g) ∙ greeting_at_of t x h)

client_once : (b d : Bool) (s t : Agreed) (x : Numbered) → IsLogin b s x → IsLogin d t x → s ≡ t
client_once b d s t x g h =
    let e : g.1 ≡ h.1 = some_is (sym (login_at_of g.1 x.packet.payload g.2) ∙ login_at_of h.1 x.packet.payload h.2) in
    sym g.4 ∙ ap client_of e ∙ h.4

-- ---- the parts of a session are unique

pub head_is : (x y : Numbered) (xs ys : List Numbered) → x ∷ xs ≡ y ∷ ys → (x ≡ y) × (xs ≡ ys)
head_is x y xs ys h = (cc, cc)

pub after_one : (s t : Agreed) (u v : Numbered) (x y : Numbered) (xs ys front back : List Numbered) → front ++ x ∷ xs ≡ back ++ y ∷ ys → front ≡ u ∷ [] → back ≡ v ∷ []
    → (u ≡ v) × ((x ≡ y) × (xs ≡ ys))
after_one s t u v x y xs ys front back e f g =
    let e' : u ∷ x ∷ xs ≡ v ∷ y ∷ ys = subst (λ fs. fs ++ x ∷ xs ≡ v ∷ y ∷ ys) f (subst (λ bs. front ++ x ∷ xs ≡ bs ++ y ∷ ys) g e) in
    let h = head_is u v (x ∷ xs) (y ∷ ys) e' in
    (h.0, head_is x y xs ys h.1)

pub after_two : (u v w z : Numbered) (x y : Numbered) (xs ys front back : List Numbered) → front ++ x ∷ xs ≡ back ++ y ∷ ys → front ≡ u ∷ w ∷ [] → back ≡ v ∷ z ∷ []
    → (u ≡ v) × ((x ≡ y) × (xs ≡ ys))
after_two u v w z x y xs ys front back e f g =
    let e' : u ∷ w ∷ x ∷ xs ≡ v ∷ z ∷ y ∷ ys = subst (λ fs. fs ++ x ∷ xs ≡ v ∷ z ∷ y ∷ ys) f (subst (λ bs. front ++ x ∷ xs ≡ bs ++ y ∷ ys) g e) in
    let h = head_is u v (w ∷ x ∷ xs) (z ∷ y ∷ ys) e' in
    let i = head_is w z (x ∷ xs) (y ∷ ys) h.1 in
    (h.0, head_is x y xs ys i.1)

-- one list has a login, the other a request for TLS
pub one_or_two : (u v z : Numbered) (x y : Numbered) (xs ys front back : List Numbered) → front ++ x ∷ xs ≡ back ++ y ∷ ys → front ≡ u ∷ [] → back ≡ v ∷ z ∷ [] → x ≡ z
one_or_two u v z x y xs ys front back e f g =
    let e' : u ∷ x ∷ xs ≡ v ∷ z ∷ y ∷ ys = subst (λ fs. fs ++ x ∷ xs ≡ v ∷ z ∷ y ∷ ys) f (subst (λ bs. front ++ x ∷ xs ≡ bs ++ y ∷ ys) g e) in
    (head_is x z xs (y ∷ ys) (head_is u v (x ∷ xs) (z ∷ y ∷ ys) e').1).0

pub login_or_tls : (b : Bool) (s : Agreed) (x z : Numbered) → x ≡ z → IsLogin b s x → IsSslRequest z → ⊥
login_or_tls b s x z e l t =
    let k : kind.Login ≡ kind.SslRequest = sym l.0.1 ∙ ap (λ (x : Numbered). x.packet.kind) e ∙ t.0.1 in absurd cc

-- two sessions have the same packet after the greeting, or one of them has a request for TLS
abbrev pub Aligned : (i j : Bool) (x y : Numbered) (xs ys : List Numbered) → Type 0
Aligned i j x y xs ys = ((i ≡ j) × (x ≡ y) × (xs ≡ ys)) ⊎ (((w : Numbered) × IsSslRequest w × (x ≡ w) × (i ≡ false)) ⊎ ((w : Numbered) × IsSslRequest w × (y ≡ w)))

pub align : (s t : Agreed) (i j : Bool) (front back : List Numbered) (x y : Numbered) (xs ys : List Numbered) → front ++ x ∷ xs ≡ back ++ y ∷ ys → Before s i front → Before t j back → Aligned i j x y xs ys
align s t false false front back x y xs ys e f h = let q = after_one s t f.0 h.0 x y xs ys front back e f.1 h.1 in inl (refl, q.1.0, q.1.1)
align s t false true front back x y xs ys e f h = inr (inl (h.1, h.4, one_or_two f.0 h.0 h.1 x y xs ys front back e f.1 h.2, refl))
align s t true false front back x y xs ys e f h = inr (inr (f.1, f.4, one_or_two h.0 f.0 f.1 y x ys xs back front (sym e) h.1 f.2))
align s t true true front back x y xs ys e f h = let q = after_two f.0 h.0 f.1 h.1 x y xs ys front back e f.2 h.2 in inl (refl, q.1.0, q.1.1)

-- a packet of the server is not the client's
pub other_side : (x y : Numbered) → x ≡ y → x.packet.from ≡ Client → y.packet.from ≡ Server → ⊥
other_side x y e c s = let no : Client ≡ Server = sym c ∙ ap (λ (x : Numbered). x.packet.from) e ∙ s in absurd cc

pub not_tls : (x w : Numbered) → x ≡ w → x.packet.kind ≡ kind.Login → IsSslRequest w → ⊥
not_tls x w e l t = let no : kind.Login ≡ kind.SslRequest = sym l ∙ ap (λ (x : Numbered). x.packet.kind) e ∙ t.0.1 in absurd cc

-- a packet that is no login isn't a login
pub no_login_is : (i j : Bool) (c : Agreed) (x y : Numbered) → x ≡ y → IsLogin i c x → IsNoLogin j y → ⊥
no_login_is i j c x y e l n =
    let no = n.1 l.1 (subst (λ (z : Numbered). BeginsAs l.1 z.packet.payload) e l.2) in
    let yes : ends_name y.packet.payload ≡ true = ap (λ (x : Numbered). ends_name x.packet.payload) (sym e) ∙ l.5 in
    let never : ends_name y.packet.payload ≡ false = no.1 in absurd cc

greeted_same : (s t : Agreed) (u v : Numbered) → u ≡ v → IsGreeting s u → IsGreeting t v → s ≡ t
greeted_same s t u v e g h = server_once s t u g (subst (λ x. IsGreeting t x) (sym e) h)

client_same : (b d : Bool) (s t : Agreed) (x y : Numbered) → x ≡ y → IsLogin b s x → IsLogin d t y → s ≡ t
client_same b d s t x y e g h = client_once b d s t x g (subst (λ x. IsLogin d t x) (sym e) h)

agreed_same : (s t c d : Agreed) (a b : Agreed) → s ≡ t → c ≡ d → agreed_on s c ≡ a → agreed_on t d ≡ b → a ≡ b
agreed_same s t c d a b e f g h = sym g ∙ ap (λ s. agreed_on s c) e ∙ ap (λ c. agreed_on t c) f ∙ h

once_by : (a b s t c d : Agreed) (i j : Bool) (front back : List Numbered) (x y : Numbered) (xs ys : List Numbered) → front ++ x ∷ xs ≡ back ++ y ∷ ys
    → Before s i front → IsLogin i c x → agreed_on s c ≡ a → Before t j back → IsLogin j d y → agreed_on t d ≡ b → (a ≡ b) × (xs ≡ ys)
once_by a b s t c d false false front back x y xs ys e f l g h m n =
    let q = after_one s t f.0 h.0 x y xs ys front back e f.1 h.1 in
    (agreed_same s t c d a b (greeted_same s t f.0 h.0 q.0 f.2 h.2) (client_same false false c d x y q.1.0 l m) g n, q.1.1)
once_by a b s t c d false true front back x y xs ys e f l g h m n =
    absurd (login_or_tls false c x h.1 (one_or_two f.0 h.0 h.1 x y xs ys front back e f.1 h.2) l h.4)
once_by a b s t c d true false front back x y xs ys e f l g h m n =
    absurd (login_or_tls false d y f.1 (one_or_two h.0 f.0 f.1 y x ys xs back front (sym e) h.1 f.2) m f.4)
once_by a b s t c d true true front back x y xs ys e f l g h m n =
    let q = after_two f.0 h.0 f.1 h.1 x y xs ys front back e f.2 h.2 in
    (agreed_same s t c d a b (greeted_same s t f.0 h.0 q.0 f.3 h.3) (client_same true true c d x y q.1.0 l m) g n, q.1.1)

-- the agreement and the packets after the login are unique
pub logged_in_once : (a b : Agreed) (front back : List Numbered) (x y : Numbered) (xs ys : List Numbered) → front ++ x ∷ xs ≡ back ++ y ∷ ys
    → IsLoggedIn a front x → IsLoggedIn b back y → (a ≡ b) × (xs ≡ ys)
logged_in_once a b front back x y xs ys e g h = once_by a b g.0 h.0 g.1 h.1 g.2 h.2 front back x y xs ys e g.3 g.4 g.5 h.3 h.4 h.5

-- a login follows another packet
pub not_alone : (a : Agreed) (server : Agreed) (tls : Bool) (front : List Numbered) (x z : Numbered) (xs : List Numbered) → Before server tls front → front ++ x ∷ xs ≡ z ∷ [] → ⊥
not_alone a server false front x z xs f e =
    let e' : f.0 ∷ x ∷ xs ≡ z ∷ [] = subst (λ fs. fs ++ x ∷ xs ≡ z ∷ []) f.1 e in absurd cc
not_alone a server true front x z xs f e =
    let e' : f.0 ∷ f.1 ∷ x ∷ xs ≡ z ∷ [] = subst (λ fs. fs ++ x ∷ xs ≡ z ∷ []) f.2 e in absurd cc

-- a session that is refused has no login
late_login : (s t c : Agreed) (i j : Bool) (front back : List Numbered) (x z : Numbered) (rest : List Numbered) → Before s i front → IsLogin i c x → Before t j back → IsGreetingError z → front ++ x ∷ rest ≡ back ++ z ∷ [] → ⊥
late_login s t c i j front back x z rest f l g h e = elim (align s t i j front back x z rest [] e f g) [
  | inl q ↦ other_side x z q.1 l.0.0 h.0.0
  | inr (inl w) ↦ login_or_tls i c x w.0 w.2 l w.1
  | inr (inr w) ↦ other_side w.0 z (sym w.2) w.1.0.0 h.0.0
]

none_login : (s t c : Agreed) (i j : Bool) (front back : List Numbered) (x y : Numbered) (rest ys : List Numbered) → Before s i front → IsLogin i c x → Before t j back → IsNoLogin j y → front ++ x ∷ rest ≡ back ++ y ∷ ys → ⊥
none_login s t c i j front back x y rest ys f l g h e = elim (align s t i j front back x y rest ys e f g) [
  | inl q ↦ no_login_is i j c x y q.1 l h
  | inr (inl w) ↦ login_or_tls i c x w.0 w.2 l w.1
  | inr (inr w) ↦ not_tls y w.0 w.2 h.0.1 w.1
]

pub refused_no_login : (a : Agreed) (front : List Numbered) (x : Numbered) (rest : List Numbered) → IsLoggedIn a front x → IsRefused (front ++ x ∷ rest) → ⊥
refused_no_login a front x rest l (inl h) = not_alone a l.0 l.2 front x h.0 rest l.3 h.1
refused_no_login a front x rest l (inr (inl h)) = late_login l.0 h.0 l.1 l.2 h.1 front h.2 x h.3 rest l.3 l.4 h.5 h.6 h.4
refused_no_login a front x rest l (inr (inr h)) = none_login l.0 h.0 l.1 l.2 h.1 front h.2 x h.3 rest (h.4 ∷ []) l.3 l.4 h.6 h.7 h.5

-- what comes after the login of a session is a conversation
pub session_rest : (a : Agreed) (front : List Numbered) (x : Numbered) (rest : List Numbered) → IsLoggedIn a front x → IsSession (front ++ x ∷ rest) → IsPipelined a Login rest
session_rest a front x rest l (inl h) = absurd (refused_no_login a front x rest l h)
session_rest a front x rest l (inr h) =
    let q = logged_in_once a h.0 front h.1 x h.2 rest h.3 h.4 l h.5 in
    subst (λ xs. IsPipelined a Login xs) (sym q.1) (subst (λ a. IsPipelined a Login h.3) (sym q.0) h.6)

-- ---- no exchange runs

pub commands_at_rest : (p : Pipeline) (items : List Numbered) → ((rest : List Numbered) → PipeTaken p rest → IsPipelined p.agreed p.opening rest) → TakenIn (phase.Commands p) items → IsSession items
commands_at_rest p items f h =
    let q : IsPipelined p.agreed Login h.2 = subst (λ o. IsPipelined p.agreed o h.2) h.5 (f h.2 h.6) in
    inr (p.agreed, h.0, h.1, h.2, h.3, h.4, q)

pub at_rest_commands : (p : Pipeline) (items : List Numbered) (P : Type 0) → ((rest : List Numbered) → PipeTaken p rest → IsPipelined p.agreed p.opening rest → P) → TakenIn (phase.Commands p) items → IsSession items → P
at_rest_commands p items P f h s =
    let q = session_rest p.agreed h.0 h.1 h.2 h.4 (subst (λ xs. IsSession xs) h.3 s) in
    f h.2 h.6 (subst (λ o. IsPipelined p.agreed o h.2) (sym h.5) q)

-- ---- one more packet

pub more_of : (front : List Numbered) (x : Numbered) (rest ys : List Numbered) → (front ++ x ∷ rest) ++ ys ≡ front ++ x ∷ (rest ++ ys)
more_of front x rest ys = append_assoc front (x ∷ rest) ys

pub commands_more : (p q : Pipeline) (y : Numbered) (items : List Numbered) → q.agreed ≡ p.agreed → q.opening ≡ p.opening → ((rest : List Numbered) → PipeTaken p rest → PipeTaken q (rest ++ y ∷ []))
    → TakenIn (phase.Commands p) items → TakenIn (phase.Commands q) (items ++ y ∷ [])
commands_more p q y items a o f h =
    (h.0, h.1, h.2 ++ y ∷ [], ap (λ xs. xs ++ y ∷ []) h.3 ∙ more_of h.0 h.1 h.2 (y ∷ []), subst (λ a. IsLoggedIn a h.0 h.1) (sym a) h.4, o ∙ h.5, f h.2 h.6)

pub commands_refuse : (p : Pipeline) (y : Numbered) (items : List Numbered) → ((rest : List Numbered) → PipeTaken p rest → IsPipelinedBeginning p.agreed p.opening (rest ++ y ∷ []) → ⊥)
    → TakenIn (phase.Commands p) items → IsSessionBeginning (items ++ y ∷ []) → ⊥
commands_refuse p y items f h b =
    let e : (items ++ y ∷ []) ++ b.0 ≡ h.0 ++ h.1 ∷ ((h.2 ++ y ∷ []) ++ b.0) =
    ap (λ xs. (xs ++ y ∷ []) ++ b.0) h.3 ∙ ap (λ xs. xs ++ b.0) (more_of h.0 h.1 h.2 (y ∷ [])) ∙ more_of h.0 h.1 (h.2 ++ y ∷ []) b.0 in
    let q = session_rest p.agreed h.0 h.1 ((h.2 ++ y ∷ []) ++ b.0) h.4 (subst (λ xs. IsSession xs) e b.1) in
    f h.2 h.6 (b.0, subst (λ o. IsPipelined p.agreed o ((h.2 ++ y ∷ []) ++ b.0)) (sym h.5) q)

pub commands_come : (p : Pipeline) (side : Side) (payload : List ℕ) (items : List Numbered)
    → ((rest : List Numbered) → PipeTaken p rest → (k : PacketKind) × (n : ℕ) × IsPipelinedBeginning p.agreed p.opening (rest ++ place side payload k n ∷ []))
    → TakenIn (phase.Commands p) items → (k : PacketKind) × (n : ℕ) × IsSessionBeginning (items ++ place side payload k n ∷ [])
commands_come p side payload items f h =
    let c = f h.2 h.6 in
    let y = place side payload c.0 c.1 in
    let more = c.2.0 in
    let e : (items ++ y ∷ []) ++ more ≡ h.0 ++ h.1 ∷ ((h.2 ++ y ∷ []) ++ more) =
    ap (λ xs. (xs ++ y ∷ []) ++ more) h.3 ∙ ap (λ xs. xs ++ more) (more_of h.0 h.1 h.2 (y ∷ [])) ∙ more_of h.0 h.1 (h.2 ++ y ∷ []) more in
    (c.0, c.1, (more, inr (p.agreed, h.0, h.1, (h.2 ++ y ∷ []) ++ more, e, h.4, subst (λ o. IsPipelined p.agreed o ((h.2 ++ y ∷ []) ++ more)) h.5 c.2.1)))

pub not_unexpected : (why : SessionError) → (why ≡ refusal.Full) ⊎ (why ≡ refusal.Memory) → why ≢ refusal.UnexpectedPacket
not_unexpected why (inl e) u = absurd cc
not_unexpected why (inr e) u = absurd cc

-- ---- what was agreed on

not_nothing : (server : Agreed) (tls : Bool) (front : List Numbered) (x : Numbered) (xs : List Numbered) → Before server tls front → front ++ x ∷ xs ≡ [] → ⊥
not_nothing server false front x xs f e = let e' : f.0 ∷ x ∷ xs ≡ [] = subst (λ fs. fs ++ x ∷ xs ≡ []) f.1 e in absurd cc
not_nothing server true front x xs f e = let e' : f.0 ∷ f.1 ∷ x ∷ xs ≡ [] = subst (λ fs. fs ++ x ∷ xs ≡ []) f.2 e in absurd cc

not_of_two : (server c : Agreed) (tls : Bool) (front : List Numbered) (x u w : Numbered) (xs : List Numbered) → Before server tls front → IsLogin tls c x → IsSslRequest w → front ++ x ∷ xs ≡ u ∷ w ∷ [] → ⊥
not_of_two server c false front x u w xs f l t e =
    let e' : f.0 ∷ x ∷ xs ≡ u ∷ w ∷ [] = subst (λ fs. fs ++ x ∷ xs ≡ u ∷ w ∷ []) f.1 e in
    login_or_tls false c x w (head_is x w xs [] (head_is f.0 u (x ∷ xs) (w ∷ []) e').1).0 l t
not_of_two server c true front x u w xs f l t e =
    let e' : f.0 ∷ f.1 ∷ x ∷ xs ≡ u ∷ w ∷ [] = subst (λ fs. fs ++ x ∷ xs ≡ u ∷ w ∷ []) f.2 e in absurd cc

-- before the login the packets contain none
no_login_of_one : (a : Agreed) (z : Numbered) (items : List Numbered) → items ≡ z ∷ [] → IsLoggedInAmong a items → ⊥
no_login_of_one a z items e h = not_alone a h.4.0 h.4.2 h.0 h.1 z h.2 h.4.3 (sym h.3 ∙ e)

no_login_of_two : (a : Agreed) (u w : Numbered) (items : List Numbered) → items ≡ u ∷ w ∷ [] → IsSslRequest w → IsLoggedInAmong a items → ⊥
no_login_of_two a u w items e t h = not_of_two h.4.0 h.4.1 h.4.2 h.0 h.1 u w h.2 h.4.3 h.4.4 t (sym h.3 ∙ e)

pub logs_in_later : (a : Agreed) (ph : Phase) (items : List Numbered) → is_commands ph ≡ false → TakenIn ph items → IsLoggedInAmong a items → ⊥
logs_in_later a phase.Greeting items n e h = not_nothing h.4.0 h.4.2 h.0 h.1 h.2 h.4.3 (sym h.3 ∙ e)
logs_in_later a phase.Refused items n t h = refused_no_login a h.0 h.1 h.2 h.4 (subst (λ xs. IsRefused xs) h.3 t)
logs_in_later a phase.NoLogin items n t h = none_login h.4.0 t.0 h.4.1 h.4.2 t.1 h.0 t.2 h.1 t.3 h.2 [] h.4.3 h.4.4 t.5 t.6 (sym h.3 ∙ t.4)
logs_in_later a (phase.Login server) items n f h = no_login_of_one a f.0 items f.1 h
logs_in_later a (phase.Encrypted server) items n f h = no_login_of_two a f.0 f.1 items f.2 f.4 h
logs_in_later a (phase.InTls server) items n f h = no_login_of_two a f.0 f.1 items f.2 f.4 h
logs_in_later a (phase.Commands p) items n t h = absurd cc

pub login_is_among : (p : Pipeline) (items : List Numbered) → TakenIn (phase.Commands p) items → IsLoggedInAmong p.agreed items
login_is_among p items h = (h.0, h.1, h.2, h.3, h.4)

-- ---- what comes first

-- a session that begins with a greeting
greeted_first : (y : Numbered) (more zs : List Numbered) (server : Agreed) (tls : Bool) (front : List Numbered) → Before server tls front → y ∷ more ≡ front ++ zs → IsGreeting server y
greeted_first y more zs server false front f e =
    let e' : y ∷ more ≡ f.0 ∷ zs = e ∙ ap (λ fs. fs ++ zs) f.1 in subst (λ x. IsGreeting server x) (sym (head_is y f.0 more zs e').0) f.2
greeted_first y more zs server true front f e =
    let e' : y ∷ more ≡ f.0 ∷ f.1 ∷ zs = e ∙ ap (λ fs. fs ++ zs) f.2 in subst (λ x. IsGreeting server x) (sym (head_is y f.0 more (f.1 ∷ zs) e').0) f.3

-- what a session begins with
pub begins_with : (y : Numbered) (more : List Numbered) → IsSession (y ∷ more) → IsGreetingError y ⊎ ((server : Agreed) × IsGreeting server y)
begins_with y more (inl (inl h)) = inl (subst (λ x. IsGreetingError x) (sym (head_is y h.0 more [] h.1).0) h.2)
begins_with y more (inl (inr (inl h))) = inr (h.0, greeted_first y more (h.3 ∷ []) h.0 h.1 h.2 h.5 h.4)
begins_with y more (inl (inr (inr h))) = inr (h.0, greeted_first y more (h.3 ∷ h.4 ∷ []) h.0 h.1 h.2 h.6 h.5)
begins_with y more (inr h) = inr (h.5.0, greeted_first y more (h.2 ∷ h.3) h.5.0 h.5.2 h.1 h.5.3 h.4)

pub two_or_more : (server : Agreed) (tls : Bool) (items : List Numbered) (y z : Numbered) (more : List Numbered) → Before server tls items → items ++ y ∷ more ≡ z ∷ [] → ⊥
two_or_more server tls items y z more f e = not_alone server server tls items y z more f e

-- ---- after the greeting

-- what follows: a request for TLS, a login, or a packet that is neither; or an error instead
abbrev pub AnswersGreeting : Bool → Numbered → Type 0
AnswersGreeting tls y = ((tls ≡ false) × IsSslRequest y) ⊎ (((c : Agreed) × IsLogin tls c y) ⊎ (IsNoLogin tls y ⊎ IsGreetingError y))

answer_aligned : (i j : Bool) (y x : Numbered) (ys xs : List Numbered) → Aligned i j y x ys xs → AnswersGreeting j x → (((w : Numbered) × IsSslRequest w × (x ≡ w)) → ⊥) → AnswersGreeting i y
answer_aligned i j y x ys xs (inl q) h clash = subst (λ y. AnswersGreeting i y) (sym q.1) (subst (λ j. AnswersGreeting j x) (sym q.0) h)
answer_aligned i j y x ys xs (inr (inl w)) h clash = inl (w.3, subst (λ y. IsSslRequest y) (sym w.2) w.1)
answer_aligned i j y x ys xs (inr (inr w)) h clash = absurd (clash w)

pub answer_at : (y : Numbered) (items more : List Numbered) (server : Agreed) (tls : Bool) → Before server tls items → IsSession (items ++ y ∷ more) → AnswersGreeting tls y
answer_at y items more server tls f (inl (inl h)) = absurd (two_or_more server tls items y h.0 more f h.1)
answer_at y items more server tls f (inl (inr (inl h))) =
    answer_aligned tls h.1 y h.3 more [] (align server h.0 tls h.1 items h.2 y h.3 more [] h.4 f h.5) (inr (inr (inr h.6))) (λ w. other_side w.0 h.3 (sym w.2) w.1.0.0 h.6.0.0)
answer_at y items more server tls f (inl (inr (inr h))) =
    answer_aligned tls h.1 y h.3 more (h.4 ∷ []) (align server h.0 tls h.1 items h.2 y h.3 more (h.4 ∷ []) h.5 f h.6) (inr (inr (inl h.7))) (λ w. not_tls h.3 w.0 w.2 h.7.0.1 w.1)
answer_at y items more server tls f (inr h) =
    answer_aligned tls h.5.2 y h.2 more h.3 (align server h.5.0 tls h.5.2 items h.1 y h.2 more h.3 h.4 f h.5.3) (inr (inl (h.5.1, h.5.4))) (λ w. login_or_tls h.5.2 h.5.1 h.2 w.0 w.2 h.5.4 w.1)

-- ---- after a packet that is no login: only the error

no_list : (y : Numbered) (more : List Numbered) → y ∷ more ≡ [] → ⊥
no_list y more e = absurd cc

one_of : (y z : Numbered) (more : List Numbered) → y ∷ more ≡ z ∷ [] → (y ≡ z) × (more ≡ [])
one_of y z more e = head_is y z more [] e

pub error_at : (server : Agreed) (tls : Bool) (front : List Numbered) (x y : Numbered) (more : List Numbered) → Before server tls front → IsNoLogin tls x → IsSession (front ++ x ∷ y ∷ more) → IsLoginError y × (more ≡ [])
error_at server tls front x y more f n (inl (inl h)) = absurd (two_or_more server tls front x h.0 (y ∷ more) f h.1)
error_at server tls front x y more f n (inl (inr (inl h))) = absurd (elim (align server h.0 tls h.1 front h.2 x h.3 (y ∷ more) [] h.4 f h.5) [
  | inl q ↦ no_list y more q.2
  | inr (inl w) ↦ not_tls x w.0 w.2 n.0.1 w.1
  | inr (inr w) ↦ other_side w.0 h.3 (sym w.2) w.1.0.0 h.6.0.0
])
error_at server tls front x y more f n (inl (inr (inr h))) = elim (align server h.0 tls h.1 front h.2 x h.3 (y ∷ more) (h.4 ∷ []) h.5 f h.6) [
  | inl q ↦ (let e = one_of y h.4 more q.2 in (subst (λ z. IsLoginError z) (sym e.0) h.8, e.1))
  | inr (inl w) ↦ absurd (not_tls x w.0 w.2 n.0.1 w.1)
  | inr (inr w) ↦ absurd (not_tls h.3 w.0 w.2 h.7.0.1 w.1)
]
error_at server tls front x y more f n (inr h) = absurd (none_login h.5.0 server h.5.1 h.5.2 tls h.1 front h.2 x h.3 (y ∷ more) h.5.3 h.5.4 f n (sym h.4))

-- ---- after an error instead of the greeting or the login: nothing

not_greeted : (server : Agreed) (x : Numbered) → IsGreetingError x → IsGreeting server x → ⊥
not_greeted server x g h = let no : first_is 0xff x.packet.payload ≡ false = h.1 in let yes : first_is 0xff x.packet.payload ≡ true = g.1 in absurd cc

after_late : (server : Agreed) (tls : Bool) (front : List Numbered) (x y : Numbered) (more : List Numbered) → Before server tls front → IsGreetingError x → IsSession (front ++ x ∷ y ∷ more) → ⊥
after_late server tls front x y more f n (inl (inl h)) = two_or_more server tls front x h.0 (y ∷ more) f h.1
after_late server tls front x y more f n (inl (inr (inl h))) = elim (align server h.0 tls h.1 front h.2 x h.3 (y ∷ more) [] h.4 f h.5) [
  | inl q ↦ no_list y more q.2
  | inr (inl w) ↦ other_side w.0 x (sym w.2) w.1.0.0 n.0.0
  | inr (inr w) ↦ other_side w.0 h.3 (sym w.2) w.1.0.0 h.6.0.0
]
after_late server tls front x y more f n (inl (inr (inr h))) = elim (align server h.0 tls h.1 front h.2 x h.3 (y ∷ more) (h.4 ∷ []) h.5 f h.6) [
  | inl q ↦ other_side h.3 x (sym q.1) h.7.0.0 n.0.0
  | inr (inl w) ↦ other_side w.0 x (sym w.2) w.1.0.0 n.0.0
  | inr (inr w) ↦ not_tls h.3 w.0 w.2 h.7.0.1 w.1
]
after_late server tls front x y more f n (inr h) = elim (align server h.5.0 tls h.5.2 front h.1 x h.2 (y ∷ more) h.3 h.4 f h.5.3) [
  | inl q ↦ other_side h.2 x (sym q.1) h.5.4.0.0 n.0.0
  | inr (inl w) ↦ other_side w.0 x (sym w.2) w.1.0.0 n.0.0
  | inr (inr w) ↦ login_or_tls h.5.2 h.5.1 h.2 w.0 w.2 h.5.4 w.1
]

alone : (x y : Numbered) (more : List Numbered) → IsGreetingError x → IsSession (x ∷ y ∷ more) → ⊥
alone x y more g (inl (inl h)) = no_list y more (head_is x h.0 (y ∷ more) [] h.1).1
alone x y more g (inl (inr (inl h))) = not_greeted h.0 x g (greeted_first x (y ∷ more) (h.3 ∷ []) h.0 h.1 h.2 h.5 h.4)
alone x y more g (inl (inr (inr h))) = not_greeted h.0 x g (greeted_first x (y ∷ more) (h.3 ∷ h.4 ∷ []) h.0 h.1 h.2 h.6 h.5)
alone x y more g (inr h) = not_greeted h.5.0 x g (greeted_first x (y ∷ more) (h.2 ∷ h.3) h.5.0 h.5.2 h.1 h.5.3 h.4)

pub nothing_after : (items : List Numbered) (y : Numbered) (more : List Numbered) → IsRefused items → IsSession (items ++ y ∷ more) → ⊥
nothing_after items y more (inl h) s = alone h.0 y more h.2 (subst (λ xs. IsSession (xs ++ y ∷ more)) h.1 s)
nothing_after items y more (inr (inl h)) s =
    after_late h.0 h.1 h.2 h.3 y more h.5 h.6 (subst (λ xs. IsSession xs) (ap (λ xs. xs ++ y ∷ more) h.4 ∙ append_assoc h.2 (h.3 ∷ []) (y ∷ more)) s)
nothing_after items y more (inr (inr h)) s =
    let e = error_at h.0 h.1 h.2 h.3 h.4 (y ∷ more) h.6 h.7 (subst (λ xs. IsSession xs) (ap (λ xs. xs ++ y ∷ more) h.5 ∙ append_assoc h.2 (h.3 ∷ h.4 ∷ []) (y ∷ more)) s) in
    no_list y more e.1

-- ---- a packet of the server before the conversation

clear_is_error : (p : List ℕ) → is_clear_error p ≡ true → first_is 0xff p ≡ true
clear_is_error (b ∷ c ∷ d ∷ hash ∷ p) h = (and_parts (b == 0xff) (hash == 0x23) h).0
clear_is_error _ h = absurd cc

by_error : (b : Bool) (j k : PacketKind) (next : Phase) → refused_by b j ≡ Some (k, next) → (b ≡ true) × (j ≡ k) × (phase.Refused ≡ next)
by_error true j k next h = let e = some_is h in (refl, ap (λ (x : PacketKind × Phase). x.0) e, ap (λ (x : PacketKind × Phase). x.1) e)
by_error false j k next h = absurd cc

late_more : (server : Agreed) (tls : Bool) (p : List ℕ) (k : PacketKind) (n : ℕ) (next : Phase) (items : List Numbered) (b : Bool) → n ≡ 0 → (b ≡ true → first_is 0xff p ≡ true) → refused_by b kind.UnsolicitedError ≡ Some (k, next) → Before server tls items → TakenIn next (items ++ place Server p k n ∷ [])
late_more server tls p k n next items b z g h f =
    let e = by_error b kind.UnsolicitedError k next h in
    subst (λ ph. TakenIn ph (items ++ place Server p k n ∷ [])) e.2 (inr (inl (server, tls, items, place Server p k n, refl, f, ((refl, sym e.1, z), g e.0))))

greeting_more : (p : List ℕ) (k : PacketKind) (n : ℕ) (next : Phase) (items : List Numbered) (o : Option Agreed) → n ≡ 0 → first_is 0xff p ≡ false → greeting_at p ≡ o → greeted_by o ≡ Some (k, next) → items ≡ [] → TakenIn next (items ++ place Server p k n ∷ [])
greeting_more p k n next items None z f g h e = absurd cc
greeting_more p k n next items (Some server) z f g h e =
    let y = place Server p k n in
    let s = some_is h in
    let read = greeting_at_is server p g in
    subst (λ ph. TakenIn ph (items ++ y ∷ [])) (ap (λ (x : PacketKind × Phase). x.1) s) (y, ap (λ xs. xs ++ y ∷ []) e, ((refl, sym (ap (λ (x : PacketKind × Phase). x.0) s), z), f, read.0, read.1, read.2, read.3))

pub served_more : (ph : Phase) (p : List ℕ) (k : PacketKind) (n : ℕ) (next : Phase) (items : List Numbered) → n ≡ 0 → served_before ph p ≡ Some (k, next) → TakenIn ph items → TakenIn next (items ++ place Server p k n ∷ [])
served_more phase.Greeting p k n next items z h e = elim (chosen (first_is 0xff p) _ _ _ h) [
  | inl g ↦ (let y = place Server p k n in let s = some_is g.1 in
      subst (λ ph. TakenIn ph (items ++ y ∷ [])) (ap (λ (x : PacketKind × Phase). x.1) s) (inl (y, ap (λ xs. xs ++ y ∷ []) e, ((refl, sym (ap (λ (x : PacketKind × Phase). x.0) s), z), g.0))))
  | inr g ↦ greeting_more p k n next items (greeting_at p) z g.0 refl g.1 e
]
served_more phase.Refused p k n next items z h t = absurd cc
served_more (phase.Login server) p k n next items z h f = late_more server false p k n next items (first_is 0xff p) z (λ e. e) h f
served_more (phase.Encrypted server) p k n next items z h f = late_more server true p k n next items (is_clear_error p) z (clear_is_error p) h f
served_more (phase.InTls server) p k n next items z h f = late_more server true p k n next items (first_is 0xff p) z (λ e. e) h f
served_more phase.NoLogin p k n next items z h t =
    let y = place Server p k n in
    let e = by_error (first_is 0xff p) kind.Error k next h in
    subst (λ ph. TakenIn ph (items ++ y ∷ [])) e.2
    (inr (inr (t.0, t.1, t.2, t.3, y, ap (λ xs. xs ++ y ∷ []) t.4 ∙ append_assoc t.2 (t.3 ∷ []) (y ∷ []), t.5, t.6, ((refl, sym e.1, z), e.0))))
served_more (phase.Commands q) p k n next items z h t = absurd cc

-- a packet that is no error is refused there
no_error : (b : Bool) (k : PacketKind) → refused_by b k ≡ None → b ≡ false
no_error true k h = absurd cc
no_error false k h = refl

server_answers : (tls : Bool) (p : List ℕ) (k : PacketKind) (n : ℕ) → first_is 0xff p ≡ false → AnswersGreeting tls (place Server p k n) → ⊥
server_answers tls p k n f (inl h) = let no : Server ≡ Client = h.1.0.0 in absurd cc
server_answers tls p k n f (inr (inl h)) = let no : Server ≡ Client = h.1.0.0 in absurd cc
server_answers tls p k n f (inr (inr (inl h))) = let no : Server ≡ Client = h.0.0 in absurd cc
server_answers tls p k n f (inr (inr (inr h))) = let yes : first_is 0xff p ≡ true = h.1 in absurd cc

greeting_none : (p : List ℕ) (k : PacketKind) (n : ℕ) (more : List Numbered) → first_is 0xff p ≡ false → greeted_by (greeting_at p) ≡ None → IsSession (place Server p k n ∷ more) → ⊥
greeting_none p k n more f g s = elim (begins_with (place Server p k n) more s) [
  | inl h ↦ (let no : first_is 0xff p ≡ true = h.1 in absurd cc)
  | inr h ↦ (let some : greeting_at p ≡ Some h.0 = greeting_at_of h.0 (place Server p k n) h.1 in
      let no : greeted_by (Some h.0) ≡ None = subst (λ o. greeted_by o ≡ None) some g in absurd cc)
]

pub served_refused : (ph : Phase) (p : List ℕ) (k : PacketKind) (n : ℕ) (items : List Numbered) → is_commands ph ≡ false → is_encrypted ph ≡ false → served_before ph p ≡ None → TakenIn ph items → IsSessionBeginning (items ++ place Server p k n ∷ []) → ⊥
served_refused ph p k n items c t h taken b = at_beginning ph c t h taken (subst (λ xs. IsSession xs) (append_assoc items (y ∷ []) b.0) b.1)
  where
    y : Numbered
    y = place Server p k n

    at_beginning : (ph : Phase) → is_commands ph ≡ false → is_encrypted ph ≡ false → served_before ph p ≡ None → TakenIn ph items → IsSession (items ++ y ∷ b.0) → ⊥
    at_beginning phase.Greeting c t h e s = elim (chosen (first_is 0xff p) _ _ _ h) [
      | inl g ↦ absurd cc
      | inr g ↦ greeting_none p k n b.0 g.0 g.1 (subst (λ xs. IsSession (xs ++ y ∷ b.0)) e s)
    ]
    at_beginning phase.Refused c t h r s = nothing_after items y b.0 r s
    at_beginning (phase.Login server) c t h f s = server_answers false p k n (no_error (first_is 0xff p) kind.UnsolicitedError h) (answer_at y items b.0 server false f s)
    at_beginning (phase.Encrypted server) c t h f s = absurd cc
    at_beginning (phase.InTls server) c t h f s = server_answers true p k n (no_error (first_is 0xff p) kind.UnsolicitedError h) (answer_at y items b.0 server true f s)
    at_beginning phase.NoLogin c t h l s =
        let e = error_at l.0 l.1 l.2 l.3 y b.0 l.5 l.6 (subst (λ xs. IsSession xs) (ap (λ xs. xs ++ y ∷ b.0) l.4 ∙ append_assoc l.2 (l.3 ∷ []) (y ∷ b.0)) s) in
        let no : first_is 0xff p ≡ false = no_error (first_is 0xff p) kind.Error h in
        let yes : first_is 0xff p ≡ true = e.0.1 in absurd cc
    at_beginning (phase.Commands q) c t h r s = absurd cc

-- ---- a packet of the client before it

none_at : (tls : Bool) (p : List ℕ) (o : Option SslRequest) (r : SslRequest) → o ≡ Some r → IsNoLoginAt tls p o → MayLogIn tls r × (ends_name p ≡ false)
none_at tls p None r e h = absurd cc
none_at tls p (Some q) r e h = subst (λ r. MayLogIn tls r × (ends_name p ≡ false)) (some_is e) h

pub answered_more : (server : Agreed) (next : Phase) (p : List ℕ) (k : PacketKind) (n : ℕ) (tls : Bool) (items : List Numbered) → n ≡ 0 → AnsweredAs server tls p k next → Before server tls items
    → TakenIn next (items ++ place Client p k n ∷ [])
answered_more server next p k n false items z (inl (r, l, inl g)) f =
    let y = place Client p k n in
    subst (λ ph. TakenIn ph (items ++ y ∷ [])) (sym g.3) (f.0, y, ap (λ xs. xs ++ y ∷ []) f.1, f.2, ((refl, g.2, z), r, login_at_is r p l, g.1))
answered_more server next p k n true items z (inl (r, l, inl g)) f = let no : true ≡ false = g.0 in absurd cc
answered_more server next p k n tls items z (inl (r, l, inr g)) f =
    let y = place Client p k n in
    let a = agreed_on server (client_of r) in
    let q = g.3 in
    let logged : IsLoggedIn a items y = (server, client_of r, tls, f, ((refl, g.2, z), r, login_at_is r p l, g.0, refl, g.4), refl, g.1) in
    subst (λ ph. TakenIn ph (items ++ y ∷ [])) (sym q.1) (items, y, [], refl, subst (λ a. IsLoggedIn a items y) (sym q.2) logged, q.3, q.4)
answered_more server next p k n tls items z (inr g) f =
    let y = place Client p k n in
    subst (λ ph. TakenIn ph (items ++ y ∷ [])) (sym g.2) (server, tls, items, y, refl, f, ((refl, g.1, z), (λ r b. none_at tls p (login_at p) r (login_at_of r p b) g.0)))

pub sent_more : (ph : Phase) (p : List ℕ) (k : PacketKind) (n : ℕ) (next : Phase) (items : List Numbered) → n ≡ 0 → SentBefore ph p k next → TakenIn ph items → TakenIn next (items ++ place Client p k n ∷ [])
sent_more (phase.Login server) p k n next items z h t = answered_more server next p k n false items z h t
sent_more (phase.InTls server) p k n next items z h t = answered_more server next p k n true items z h t
sent_more _ p k n next items z h t = absurd h

client_first : (p : List ℕ) (k : PacketKind) (n : ℕ) (more : List Numbered) → IsSession (place Client p k n ∷ more) → ⊥
client_first p k n more s = elim (begins_with (place Client p k n) more s) [
  | inl h ↦ (let no : Client ≡ Server = h.0.0 in absurd cc)
  | inr h ↦ (let no : Client ≡ Server = h.1.0.0 in absurd cc)
]

pub sent_refused : (ph : Phase) (p : List ℕ) (k : PacketKind) (n : ℕ) (items : List Numbered) → sends_none ph ≡ true → TakenIn ph items → IsSessionBeginning (items ++ place Client p k n ∷ []) → ⊥
sent_refused ph p k n items h taken b = at_beginning ph h taken (subst (λ xs. IsSession xs) (append_assoc items (y ∷ []) b.0) b.1)
  where
    y : Numbered
    y = place Client p k n

    at_beginning : (ph : Phase) → sends_none ph ≡ true → TakenIn ph items → IsSession (items ++ y ∷ b.0) → ⊥
    at_beginning phase.Greeting h e s = client_first p k n b.0 (subst (λ xs. IsSession (xs ++ y ∷ b.0)) e s)
    at_beginning phase.Refused h r s = nothing_after items y b.0 r s
    at_beginning phase.NoLogin h l s =
        let e = error_at l.0 l.1 l.2 l.3 y b.0 l.5 l.6 (subst (λ xs. IsSession xs) (ap (λ xs. xs ++ y ∷ b.0) l.4 ∙ append_assoc l.2 (l.3 ∷ []) (y ∷ b.0)) s) in
        let no : Client ≡ Server = e.0.0.0 in absurd cc
    at_beginning (phase.Login server) h f s = absurd cc
    at_beginning (phase.Encrypted server) h f s = absurd cc
    at_beginning (phase.InTls server) h f s = absurd cc
    at_beginning (phase.Commands q) h r s = absurd cc

pub may_log_in : (b : Bool) (r : SslRequest) → (not b && asks_tls r) ≡ false → MayLogIn b r
may_log_in true r h = tt
may_log_in false r h = h
