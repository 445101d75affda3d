-- What a session returns, and that an error changes nothing.
use Rattle.std.proofs.Common.{◌≡◌, ℕ, List, inl, inr, Some, None, refl, sym, ap, subst, ◌∙◌, Bool, true, false}
use Rattle.std.specs.Prelude.{◌↔◌, not, ◌&&◌, Option, Result, Ok, Err, IfOk, OnOk, OnErr}
use Rattle.mysql_auth.specs.declared.ssl_request.SslRequest.{SslRequest}
use Rattle.mysql_conversation.specs.Agreements.{Agreed, agreed_on, compresses}
use Rattle.mysql_conversation.specs.Piped as pipe
use Rattle.mysql_conversation.specs.Session.{client_of, asks_tls, is_clear_error, IsEncrypted, AsksForTls, AwaitsLogin, AgreesOnCompression, IsSameIn, IsSame, Continues, limit, limit_in}
use Rattle.mysql_conversation.specs.SessionSteps.{greeting_at, login_at, AnsweredAs, CompressedAt, CompressedBy, IsNoLoginAt, SentBefore, greeted_by, is_commands, is_encrypted, refused_by, served_before}
use Rattle.mysql_conversation.specs.Payloads.{first_is}
use Rattle.mysql_conversation.proofs.Classes.{chosen, some_is}
use Rattle.mysql_conversation.proofs.Places.{neither}
use Rattle.mysql_conversation.proofs.Sessions.{login_at_is, login_at_of}
use Rattle.mysql_conversation.specs.declared.packet_kind.PacketKind.{PacketKind}
use Rattle.mysql_conversation.specs.declared.packet_kind.PacketKind.TheVariants as kind
use Rattle.mysql_conversation.specs.declared.packet_kind.Side.{Side}
use Rattle.mysql_conversation.specs.declared.packet_kind.Side.TheVariants.{Client, Server}
use Rattle.mysql_conversation.specs.declared.pipeline.Pipeline.{Pipeline}
use Rattle.mysql_conversation.specs.declared.pipeline.SessionError.{SessionError}
use Rattle.mysql_conversation.specs.declared.pipeline.SessionError.TheVariants as refusal
use Rattle.mysql_conversation.specs.declared.session.Phase.{Phase}
use Rattle.mysql_conversation.specs.declared.session.Phase.TheVariants as phase
use Rattle.mysql_conversation.specs.declared.session.Session.{Session}

-- ---- an error changes nothing

same_in : (ph : Phase) → IsSameIn ph ph
same_in (phase.Commands p) = (p, refl, (refl, refl, refl, refl))
same_in _ = refl

pub is_same : (s t : Session) → t ≡ s → IsSame s t
is_same s t e = subst (λ t. IsSame s t) (sym e) (same_in s.phase)

pub on_err : {A E P Q : Type 0} (r : Result A E) → (P → Q) → OnErr r P → OnErr r Q
on_err (Ok x) f h = tt
on_err (Err e) f h = f h

pub same_commands : (ph : Phase) (p q : Pipeline) → ph ≡ phase.Commands p → q.agreed ≡ p.agreed → q.opening ≡ p.opening → q.limit ≡ p.limit → pipe.stands q ≡ pipe.stands p → IsSameIn ph (phase.Commands q)
same_commands ph p q e a o l s = subst (λ ph. IsSameIn ph (phase.Commands q)) (sym e) (q, refl, (a, o, l, s))

-- ---- results

pub ok_always : {A E Q : Type 0} (r : Result A E) → Q → IfOk r (λ x. Q)
ok_always (Ok x) q = q
ok_always (Err e) q = tt

-- ---- what a phase implies

-- the login comes next
abbrev pub is_login : Phase → Bool
is_login (phase.Login server) = true
is_login (phase.InTls server) = true
is_login _ = false

abbrev pub is_plain : Phase → Bool
is_plain (phase.Login server) = true
is_plain _ = false

at_login : (s : Session) (tls : Bool) (server : Agreed) → AwaitsLogin s tls server → is_login s.phase ≡ true
at_login s false server h = ap is_login h
at_login s true server h = ap is_login h

pub not_encrypted : (s : Session) → is_encrypted s.phase ≡ false → IsEncrypted s → ⊥
not_encrypted s n h = let no : false ≡ true = sym n ∙ ap is_encrypted h.1 in absurd cc

pub no_compression : (s : Session) (side : Side) (p : List ℕ) → is_login s.phase ≡ false → AgreesOnCompression s side p → ⊥
no_compression s side p n h = let no : false ≡ true = sym n ∙ at_login s h.1 h.2 h.4 in absurd cc

pub no_tls : (s : Session) (side : Side) (p : List ℕ) → is_plain s.phase ≡ false → AsksForTls s side p → ⊥
no_tls s side p n h = let no : false ≡ true = sym n ∙ ap is_plain h.3 in absurd cc

-- no other phase is the conversation
pub commands_is : (ph : Phase) → is_commands ph ≡ true → ((p : Pipeline) → ph ≡ phase.Commands p → ⊥) → ⊥
commands_is (phase.Commands p) h clash = clash p refl
commands_is _ h clash = absurd cc

-- before the conversation, the session keeps the limit
limit_before : (s : Session) → is_commands s.phase ≡ false → limit s ≡ s.limit
limit_before s n = of_phase s.phase n
  where
    of_phase : (ph : Phase) → is_commands ph ≡ false → limit_in s.limit ph ≡ s.limit
    of_phase (phase.Commands p) h = absurd cc
    of_phase _ h = refl

pub same_limit : {A E : Type 0} (s t : Session) (r : Result A E) → is_commands s.phase ≡ false → OnOk r (limit t ≡ s.limit) → OnErr r (t ≡ s) → limit t ≡ limit s
same_limit s t (Ok x) n h g = h ∙ sym (limit_before s n)
same_limit s t (Err e) n h g = ap limit g

-- ---- a packet of the server

late_plain : (b : Bool) (j k : PacketKind) (next : Phase) → refused_by b j ≡ Some (k, next) → is_encrypted next ≡ false
late_plain true j k next h = ap is_encrypted (sym (ap (λ (x : PacketKind × Phase). x.1) (some_is h)))
late_plain false j k next h = absurd cc

greeting_plain : (o : Option Agreed) (k : PacketKind) (next : Phase) → greeted_by o ≡ Some (k, next) → is_encrypted next ≡ false
greeting_plain None k next h = absurd cc
greeting_plain (Some server) k next h = ap is_encrypted (sym (ap (λ (x : PacketKind × Phase). x.1) (some_is h)))

-- after it the session is not encrypted
pub served_plain : (ph next : Phase) (p : List ℕ) (k : PacketKind) → served_before ph p ≡ Some (k, next) → is_encrypted next ≡ false
served_plain phase.Greeting next p k h = elim (chosen (first_is 0xff p) _ _ _ h) [
  | inl g ↦ ap is_encrypted (sym (ap (λ (x : PacketKind × Phase). x.1) (some_is g.1)))
  | inr g ↦ greeting_plain (greeting_at p) k next g.1
]
served_plain phase.Refused next p k h = absurd cc
served_plain (phase.Login server) next p k h = late_plain (first_is 0xff p) kind.UnsolicitedError k next h
served_plain (phase.Encrypted server) next p k h = late_plain (is_clear_error p) kind.UnsolicitedError k next h
served_plain (phase.InTls server) next p k h = late_plain (first_is 0xff p) kind.UnsolicitedError k next h
served_plain phase.NoLogin next p k h = late_plain (first_is 0xff p) kind.Error k next h
served_plain (phase.Commands q) next p k h = absurd cc

pub server_asks_nothing : (s : Session) (side : Side) (p : List ℕ) → side ≡ Server → AsksForTls s side p → ⊥
server_asks_nothing s side p e h = let no : Client ≡ Server = sym h.0 ∙ e in absurd cc

-- ---- the login

pub login_agrees : (s : Session) (tls : Bool) (server : Agreed) (p : List ℕ) (side : Side) → side ≡ Client → AwaitsLogin s tls server → CompressedBy server tls p → AgreesOnCompression s side p
login_agrees s tls server p side c a h = (c, tls, server, h.0, a, login_at_is h.0 p h.1, h.2, h.3, h.4)

awaited_once : (s : Session) (tls other : Bool) (a b : Agreed) → AwaitsLogin s tls a → AwaitsLogin s other b → (tls ≡ other) × (a ≡ b)
awaited_once s false false a b h g = let e : phase.Login a ≡ phase.Login b = sym h ∙ g in (refl, cc)
awaited_once s false true a b h g = let no : phase.Login a ≡ phase.InTls b = sym h ∙ g in absurd cc
awaited_once s true false a b h g = let no : phase.InTls a ≡ phase.Login b = sym h ∙ g in absurd cc
awaited_once s true true a b h g = let e : phase.InTls a ≡ phase.InTls b = sym h ∙ g in (refl, cc)

pub agrees_by_login : (s : Session) (tls : Bool) (server : Agreed) (p : List ℕ) (side : Side) → AwaitsLogin s tls server → AgreesOnCompression s side p → CompressedBy server tls p
agrees_by_login s tls server p side a h =
    let once = awaited_once s h.1 tls h.2 server h.4 a in
    subst (λ t. CompressedBy server t p) once.0 (subst (λ a. CompressedBy a h.1 p) once.1 (h.3, login_at_of h.3 p h.5, h.6, h.7, h.8))

-- the packet after the greeting is a request for TLS exactly if its flags ask for TLS
no_tls_at : (p : List ℕ) (o : Option SslRequest) (r : SslRequest) → o ≡ Some r → IsNoLoginAt false p o → asks_tls r ≡ false
no_tls_at p None r e h = absurd cc
no_tls_at p (Some q) r e h = subst (λ r. asks_tls r ≡ false) (some_is e) h.0

answered_plain : (s : Session) (server : Agreed) (next : Phase) (p : List ℕ) (k : PacketKind) (side : Side) → side ≡ Client → s.phase ≡ phase.Login server → AnsweredAs server false p k next
    → (t : Session) → t.phase ≡ next → IsEncrypted t ↔ AsksForTls s side p
answered_plain s server next p k side c a (inl (r, l, inl g)) t e = ((λ h. (c, server, r, a, login_at_is r p l, g.1)), (λ h. (server, e ∙ g.3)))
answered_plain s server next p k side c a (inl (r, l, inr g)) t e = neither
    (not_encrypted t (ap is_encrypted (e ∙ g.3.1)))
    (λ h.
    let same : h.2 ≡ r = some_is (sym (login_at_of h.2 p h.4) ∙ l) in
    let no : true ≡ false = sym h.5 ∙ ap asks_tls same ∙ g.0 in absurd cc)
answered_plain s server next p k side c a (inr g) t e = neither
    (not_encrypted t (ap is_encrypted (e ∙ g.2)))
    (λ h. let no : true ≡ false = sym h.5 ∙ no_tls_at p (login_at p) h.2 (login_at_of h.2 p h.4) g.0 in absurd cc)

answered_in_tls : (server : Agreed) (next : Phase) (p : List ℕ) (k : PacketKind) → AnsweredAs server true p k next → is_encrypted next ≡ false
answered_in_tls server next p k (inl (r, l, inl g)) = let no : true ≡ false = g.0 in absurd cc
answered_in_tls server next p k (inl (r, l, inr g)) = ap is_encrypted g.3.1
answered_in_tls server next p k (inr g) = ap is_encrypted g.2

sent_tls_at : (s t : Session) (ph next : Phase) (p : List ℕ) (k : PacketKind) (side : Side) → side ≡ Client → s.phase ≡ ph → SentBefore ph p k next → t.phase ≡ next → IsEncrypted t ↔ AsksForTls s side p
sent_tls_at s t (phase.Login server) next p k side c a h e = answered_plain s server next p k side c a h t e
sent_tls_at s t (phase.InTls server) next p k side c a h e = neither (not_encrypted t (ap is_encrypted e ∙ answered_in_tls server next p k h)) (no_tls s side p (ap is_plain a))
sent_tls_at s t _ next p k side c a h e = absurd h

pub sent_tls : (s t : Session) (p : List ℕ) (k : PacketKind) (side : Side) → side ≡ Client → SentBefore s.phase p k t.phase → IsEncrypted t ↔ AsksForTls s side p
sent_tls s t p k side c h = sent_tls_at s t s.phase t.phase p k side c refl h refl

compressed_at : (s : Session) (ph : Phase) (p : List ℕ) (side : Side) → side ≡ Client → s.phase ≡ ph → CompressedAt ph p ↔ AgreesOnCompression s side p
compressed_at s (phase.Login server) p side c a = ((λ h. login_agrees s false server p side c a h), (λ h. agrees_by_login s false server p side a h))
compressed_at s (phase.InTls server) p side c a = ((λ h. login_agrees s true server p side c a h), (λ h. agrees_by_login s true server p side a h))
compressed_at s _ p side c a = neither (λ h. h) (no_compression s side p (ap is_login a))

-- what the client sends agrees on compression
pub sent_compressed : (s : Session) (p : List ℕ) (side : Side) → side ≡ Client → CompressedAt s.phase p ↔ AgreesOnCompression s side p
sent_compressed s p side c = compressed_at s s.phase p side c refl

-- ---- the conversation

pub commands_full : {A : Type 0} (s : Session) (p : Pipeline) (side : Side) (payload : List ℕ) (r : Result A SessionError) → s.phase ≡ phase.Commands p
    → (r ≡ Err refusal.Full) ↔ pipe.IsFull p side payload → (r ≡ Err refusal.Full) ↔ ((q : Pipeline) × Continues s q × pipe.IsFull q side payload)
commands_full s p side payload r e h = (
  (λ full. (p, e, h.0 full)),
  (λ g. h.1 (subst (λ q. pipe.IsFull q side payload) (pipeline_is (sym g.1 ∙ e)) g.2)),
)
  where
    pipeline_is : {x y : Pipeline} → phase.Commands x ≡ phase.Commands y → x ≡ y
    pipeline_is h = cc

-- ---- a login that doesn't agree on compression

pub compressed_asks : (server : Agreed) (tls : Bool) (p : List ℕ) (r : SslRequest) → login_at p ≡ Some r → (not tls && asks_tls r) ≡ true → CompressedBy server tls p → ⊥
compressed_asks server true p r e a h = absurd cc
compressed_asks server false p r e a h =
    let same : h.0 ≡ r = some_is (sym h.1 ∙ e) in
    let no : false ≡ true = sym h.2 ∙ ap asks_tls same ∙ a in absurd cc

pub compressed_open : (server : Agreed) (tls : Bool) (p : List ℕ) (r : SslRequest) → login_at p ≡ Some r → compresses (agreed_on server (client_of r)) ≡ false → CompressedBy server tls p → ⊥
compressed_open server tls p r e c h =
    let same : h.0 ≡ r = some_is (sym h.1 ∙ e) in
    let no : true ≡ false = sym h.3 ∙ ap (λ r. compresses (agreed_on server (client_of r))) same ∙ c in absurd cc

pub ok_is_no_error : {A E : Type 0} (x : A) (e : E) → Ok x ≡ Err e → ⊥
ok_is_no_error x e h = absurd cc
