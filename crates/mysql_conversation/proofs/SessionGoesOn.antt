-- Which kinds continue a session.
use Rattle.std.proofs.Common.{◌≡◌, ◌↔◌, ℕ, List, [], ◌∷◌, ◌++◌, ◌⊎◌, inl, inr, Some, Ok, refl, sym, ap, subst, ◌∙◌, Bool, true, false, append_assoc}
use Rattle.mysql_wire.specs.Form.{bytes, number}
use Rattle.mysql_wire.specs.Int.{raw}
use Rattle.mysql_wire.specs.ConstantValue.{coded}
use Rattle.mysql_wire.specs.Null.{null_string}
use Rattle.mysql_wire.specs.Skip.{skip}
use Rattle.mysql_auth.specs.Handshake.{handshake, handshake_block, handshake_head}
use Rattle.mysql_auth.specs.SslRequest.{ssl_request, request_of}
use Rattle.mysql_auth.specs.declared.ssl_request.SslRequest.{SslRequest}
use Rattle.mysql_conversation.specs.Agreements.{Agreed, agreed_on}
use Rattle.mysql_conversation.specs.Expected.{greeting_names, login_names, login_error_names}
use Rattle.mysql_conversation.specs.PacketKindTag.{name_of, is_in}
use Rattle.mysql_conversation.specs.Payloads.{first_is}
use Rattle.mysql_conversation.specs.Piped.{PipeTaken, place}
use Rattle.mysql_conversation.specs.Pipelined.{Numbered, IsPipelined, IsPipelinedBeginning}
use Rattle.mysql_conversation.specs.Session.{client_of, asks_tls, IsGreeting, IsGreetingError, IsSslRequest, Before, IsSession, TakenIn, GoesOn}
use Rattle.mysql_conversation.specs.SessionSteps.{greeting_at}
use Rattle.mysql_conversation.specs.Standing.{start}
use Rattle.mysql_conversation.proofs.Named.{All, pick}
use Rattle.mysql_conversation.proofs.SessionEnds.{zeros, nothing_asked, logged_in, taken_is_beginning}
use Rattle.mysql_conversation.proofs.Sessions.{AnswersGreeting, greeting_at_is, answer_at, error_at, served_more, session_rest, begins_with, more_of}
use Rattle.mysql_conversation.proofs.Stood.{run_is_beginning}
use Rattle.mysql_conversation.specs.declared.packet_kind.PacketKind.{PacketKind}
use Rattle.mysql_conversation.specs.declared.packet_kind.PacketKind.TheVariants as kind
use Rattle.mysql_conversation.specs.declared.packet_kind.InitialPhase.TheVariants.{Login}
use Rattle.mysql_conversation.specs.declared.packet_kind.Side.{Side}
use Rattle.mysql_conversation.specs.declared.packet_kind.Side.TheVariants.{Client, Server}
use Rattle.mysql_conversation.specs.declared.packet_kind_tag.PacketKindTag.{PacketKindTag}
use Rattle.mysql_conversation.specs.declared.packet_kind_tag.PacketKindTag.TheVariants as name
use Rattle.mysql_conversation.specs.declared.pipeline.Pipeline.{Pipeline}
use Rattle.mysql_conversation.specs.declared.session.Phase.TheVariants as phase

-- ---- the greeting

-- of a server without capabilities
greeting_bytes : List ℕ
greeting_bytes = 10 ∷ 0 ∷ zeros

no_flags : Agreed
no_flags = record { mysql = record { 0 = 0; 1 = record {} }; mariadb = record { 0 = 0; 1 = record {} } }

greeting_found : greeting_at greeting_bytes ≡ Some no_flags
unfolding greeting_bytes no_flags greeting_at handshake handshake_head handshake_block bytes number raw coded skip null_string
greeting_found = refl

not_error : first_is 0xff greeting_bytes ≡ false
unfolding greeting_bytes
not_error = refl

greeting_comes : GoesOn Server name.Handshake []
greeting_comes =
    let y = place Server greeting_bytes kind.Handshake 0 in
    let f = greeting_at_is no_flags greeting_bytes greeting_found in
    (greeting_bytes, kind.Handshake, 0, refl, taken_is_beginning (phase.Login no_flags) (y ∷ []) (y, refl, ((refl, refl, refl), not_error, f.0, f.1, f.2, f.3)))

error_comes : GoesOn Server name.UnsolicitedError []
error_comes =
    let y = place Server (0xff ∷ []) kind.UnsolicitedError 0 in
    (0xff ∷ [], kind.UnsolicitedError, 0, refl, taken_is_beginning phase.Refused (y ∷ []) (inl (y, refl, ((refl, refl, refl), refl))))

each_greeting : (side : Side) → All (λ n. GoesOn side n []) (greeting_names side)
each_greeting Client = tt
each_greeting Server = (greeting_comes, (error_comes, tt))

begun_as : (side : Side) (p : List ℕ) (k : PacketKind) (i : ℕ) → IsGreetingError (place side p k i) ⊎ ((server : Agreed) × IsGreeting server (place side p k i)) → is_in (name_of k) (greeting_names side) ≡ true
begun_as side p k i (inl h) = rw (h.0.0, h.0.1) refl
begun_as side p k i (inr h) = rw (h.1.0.0, h.1.0.1) refl

pub greeting_goes_on : (side : Side) (n : PacketKindTag) (items : List Numbered) → items ≡ [] → is_in n (greeting_names side) ≡ true ↔ GoesOn side n items
greeting_goes_on side n items e = (
  (λ h. subst (λ xs. GoesOn side n xs) (sym e) (pick (λ n. GoesOn side n []) n (greeting_names side) (each_greeting side) h)),
  (λ h.
      let y = place side h.0 h.1 h.2 in
      let b = h.4 in
      subst (λ n. is_in n (greeting_names side) ≡ true) h.3 (begun_as side h.0 h.1 h.2 (begins_with y b.0 (subst (λ xs. IsSession ((xs ++ y ∷ []) ++ b.0)) e b.1)))),
)

-- ---- after an error

-- ---- after a packet that is no login

login_error_comes : (items : List Numbered) → TakenIn phase.NoLogin items → GoesOn Server name.Error items
login_error_comes items t = (0xff ∷ [], kind.Error, 0, refl, taken_is_beginning phase.Refused _ (served_more phase.NoLogin (0xff ∷ []) kind.Error 0 phase.Refused items refl refl t))

each_login_error : (side : Side) (items : List Numbered) → TakenIn phase.NoLogin items → All (λ n. GoesOn side n items) (login_error_names side)
each_login_error Client items t = tt
each_login_error Server items t = (login_error_comes items t, tt)

pub login_error_goes_on : (side : Side) (n : PacketKindTag) (items : List Numbered) → TakenIn phase.NoLogin items → is_in n (login_error_names side) ≡ true ↔ GoesOn side n items
login_error_goes_on side n items t = (
  (λ h. pick (λ n. GoesOn side n items) n (login_error_names side) (each_login_error side items t) h),
  (λ h.
      let y = place side h.0 h.1 h.2 in
      let b = h.4 in
      let e = error_at t.0 t.1 t.2 t.3 y b.0 t.5 t.6 (subst (λ xs. IsSession xs) (append_assoc items (y ∷ []) b.0 ∙ ap (λ xs. xs ++ y ∷ b.0) t.4 ∙ append_assoc t.2 (t.3 ∷ []) (y ∷ b.0)) b.1) in
      subst (λ n. is_in n (login_error_names side) ≡ true) h.3 (rw (e.0.0.0, e.0.0.1) refl)),
)

-- ---- the login

-- a request for TLS, of a client without other capabilities
tls_bytes : List ℕ
tls_bytes = 0 ∷ 8 ∷ 0 ∷ 0 ∷ 0 ∷ 0 ∷ 0 ∷ 0 ∷ 0 ∷ 0 ∷ 0 ∷ 0 ∷ 0 ∷ 0 ∷ 0 ∷ 0 ∷ 0 ∷ 0 ∷ 0 ∷ 0 ∷ 0 ∷ 0 ∷ 0 ∷ 0 ∷ 0 ∷ 0 ∷ 0 ∷ 0 ∷ 0 ∷ 0 ∷ 0 ∷ 0 ∷ []

tls_asked : SslRequest
tls_asked = request_of (record { 0 = 0x800; 1 = record {} }) 0 0 (record { 0 = 0; 1 = record {} })

tls_read : (ssl_request.form tt).reads tls_bytes ≡ Ok (tls_asked, [])
unfolding tls_bytes tls_asked ssl_request bytes number raw coded skip
tls_read = refl

tls_asks : asks_tls tls_asked ≡ true
unfolding tls_asked
tls_asks = refl

request_comes : (server : Agreed) (items : List Numbered) → Before server false items → GoesOn Client name.SslRequest items
request_comes server items f =
    let y = place Client tls_bytes kind.SslRequest 0 in
    let asks : IsSslRequest y = ((refl, refl, refl), tls_asked, ([], (ssl_request.form tt).found tls_asked tls_bytes [] tls_read), tls_asks) in
    (tls_bytes, kind.SslRequest, 0, refl, taken_is_beginning (phase.Encrypted server) (items ++ y ∷ []) (f.0, y, ap (λ xs. xs ++ y ∷ []) f.1, f.2, asks))

login_comes : (server : Agreed) (tls : Bool) (items : List Numbered) → Before server tls items → GoesOn Client name.Login items
login_comes server tls items f =
    let a = agreed_on server (client_of nothing_asked) in
    let b = run_is_beginning a Login [] (start Login) refl in
    let y = place Client zeros kind.Login 0 in
    (zeros, kind.Login, 0, refl, (b.0, inr (a, items, y, b.0, append_assoc items (y ∷ []) b.0, logged_in server tls items f, b.1)))

late_comes : (server : Agreed) (tls : Bool) (items : List Numbered) → Before server tls items → GoesOn Server name.UnsolicitedError items
late_comes server tls items f =
    let y = place Server (0xff ∷ []) kind.UnsolicitedError 0 in
    (0xff ∷ [], kind.UnsolicitedError, 0, refl, taken_is_beginning phase.Refused (items ++ y ∷ []) (inr (inl (server, tls, items, y, refl, f, ((refl, refl, refl), refl)))))

each_login : (server : Agreed) (tls : Bool) (side : Side) (items : List Numbered) → Before server tls items → All (λ n. GoesOn side n items) (login_names tls side)
each_login server true Client items f = (login_comes server true items f, tt)
each_login server false Client items f = (request_comes server items f, (login_comes server false items f, tt))
each_login server tls Server items f = (late_comes server tls items f, tt)

answer_named : (tls : Bool) (side : Side) (p : List ℕ) (k : PacketKind) (i : ℕ) → AnswersGreeting tls (place side p k i) → is_in (name_of k) (login_names tls side) ≡ true
answer_named true side p k i (inl h) = absurd cc
answer_named false side p k i (inl h) = rw (h.1.0.0, h.1.0.1) refl
answer_named true side p k i (inr (inl h)) = rw (h.1.0.0, h.1.0.1) refl
answer_named false side p k i (inr (inl h)) = rw (h.1.0.0, h.1.0.1) refl
answer_named true side p k i (inr (inr (inl h))) = rw (h.0.0, h.0.1) refl
answer_named false side p k i (inr (inr (inl h))) = rw (h.0.0, h.0.1) refl
answer_named true side p k i (inr (inr (inr h))) = rw (h.0.0, h.0.1) refl
answer_named false side p k i (inr (inr (inr h))) = rw (h.0.0, h.0.1) refl

pub login_goes_on : (server : Agreed) (tls : Bool) (side : Side) (n : PacketKindTag) (items : List Numbered) → Before server tls items → is_in n (login_names tls side) ≡ true ↔ GoesOn side n items
login_goes_on server tls side n items f = (
  (λ h. pick (λ n. GoesOn side n items) n (login_names tls side) (each_login server tls side items f) h),
  (λ h.
      let y = place side h.0 h.1 h.2 in
      let b = h.4 in
      subst (λ n. is_in n (login_names tls side) ≡ true) h.3 (answer_named tls side h.0 h.1 h.2 (answer_at y items b.0 server tls f (subst (λ xs. IsSession xs) (append_assoc items (y ∷ []) b.0) b.1)))),
)

-- ---- the conversation

pub commands_go_on : (q : Pipeline) (side : Side) (n : PacketKindTag) (items : List Numbered) (B : Type 0)
    → ((rest : List Numbered) → PipeTaken q rest → B ↔ ((p : List ℕ) × (k : PacketKind) × (i : ℕ) × (name_of k ≡ n) × IsPipelinedBeginning q.agreed q.opening (rest ++ place side p k i ∷ [])))
    → TakenIn (phase.Commands q) items → B ↔ GoesOn side n items
commands_go_on q side n items B f t = (
  (λ b.
      let c = (f t.2 t.6).0 b in
      let y = place side c.0 c.1 c.2 in
      let more = c.4.0 in
      (c.0, c.1, c.2, c.3, (more, inr (q.agreed, t.0, t.1, (t.2 ++ y ∷ []) ++ more, longer y more, t.4, subst (λ o. IsPipelined q.agreed o ((t.2 ++ y ∷ []) ++ more)) t.5 c.4.1)))),
  (λ h.
      let y = place side h.0 h.1 h.2 in
      let more = h.4.0 in
      let s = session_rest q.agreed t.0 t.1 ((t.2 ++ y ∷ []) ++ more) t.4 (subst (λ xs. IsSession xs) (longer y more) h.4.1) in
      (f t.2 t.6).1 (h.0, h.1, h.2, h.3, (more, subst (λ o. IsPipelined q.agreed o ((t.2 ++ y ∷ []) ++ more)) (sym t.5) s))),
)
  where
    longer : (y : Numbered) (more : List Numbered) → (items ++ y ∷ []) ++ more ≡ t.0 ++ t.1 ∷ ((t.2 ++ y ∷ []) ++ more)
    longer y more = ap (λ xs. (xs ++ y ∷ []) ++ more) t.3 ∙ ap (λ xs. xs ++ more) (more_of t.0 t.1 t.2 (y ∷ [])) ∙ more_of t.0 t.1 (t.2 ++ y ∷ []) more
