-- A packet that continues each session.
use Rattle.std.proofs.Common.{◌≡◌, ℕ, List, [], ◌∷◌, ◌++◌, inl, inr, Ok, refl, sym, ap, subst, ◌∙◌, Bool, true, false, append_assoc}
use Rattle.std.proofs.Common.{append-nil}
use Rattle.std.specs.Int.Bits.{and_zero_r}
use Rattle.std.specs.Prelude.{bit_and, ◌==◌, ◌||◌}
use Rattle.mysql_wire.specs.Form.{bytes, number}
use Rattle.mysql_wire.specs.Int.{raw}
use Rattle.mysql_wire.specs.ConstantValue.{coded}
use Rattle.mysql_wire.specs.Skip.{skip}
use Rattle.mysql_auth.specs.SslRequest.{ssl_request, request_of}
use Rattle.mysql_auth.specs.declared.ssl_request.SslRequest.{SslRequest}
use Rattle.mysql_conversation.specs.Agreements.{Agreed, agreed_on}
use Rattle.mysql_conversation.specs.Piped.{place, stands}
use Rattle.mysql_conversation.specs.Pipelined.{Numbered, IsPipelined}
use Rattle.mysql_conversation.specs.Session.{client_of, MayLogIn, Before, IsLoggedIn, IsRefused, IsSessionBeginning, TakenIn}
use Rattle.mysql_conversation.specs.Standing.{start}
use Rattle.mysql_conversation.proofs.Stood.{run_is_beginning}
use Rattle.mysql_conversation.specs.declared.packet_kind.PacketKind.TheVariants as kind
use Rattle.mysql_conversation.specs.declared.packet_kind.InitialPhase.TheVariants.{Login}
use Rattle.mysql_conversation.specs.declared.packet_kind.Side.TheVariants.{Client, Server}
use Rattle.mysql_conversation.specs.declared.session.Phase.{Phase}
use Rattle.mysql_conversation.specs.declared.session.Phase.TheVariants as phase

-- the login of a client without capabilities, with an empty name
abbrev pub zeros : List ℕ
zeros = 0 ∷ 0 ∷ 0 ∷ 0 ∷ 0 ∷ 0 ∷ 0 ∷ 0 ∷ 0 ∷ 0 ∷ 0 ∷ 0 ∷ 0 ∷ 0 ∷ 0 ∷ 0 ∷ 0 ∷ 0 ∷ 0 ∷ 0 ∷ 0 ∷ 0 ∷ 0 ∷ 0 ∷ 0 ∷ 0 ∷ 0 ∷ 0 ∷ 0 ∷ 0 ∷ 0 ∷ 0 ∷ 0 ∷ []

abbrev pub nothing_asked : SslRequest
nothing_asked = request_of (record { 0 = 0; 1 = record {} }) 0 0 (record { 0 = 0; 1 = record {} })

pub zeros_read : (ssl_request.form tt).reads zeros ≡ Ok (nothing_asked, 0 ∷ [])
unfolding ssl_request bytes number raw coded skip
zeros_read = refl

pub may : (tls : Bool) → MayLogIn tls nothing_asked
may true = tt
may false = refl

pub none_agreed : (x : ℕ) → ((bit_and (bit_and x 0) 0x20 == 0x20) || (bit_and (bit_and x 0) 0x0400_0000 == 0x0400_0000)) ≡ false
none_agreed x = ap (λ n. (bit_and n 0x20 == 0x20) || (bit_and n 0x0400_0000 == 0x0400_0000)) (and_zero_r x)

pub logged_in : (server : Agreed) (tls : Bool) (items : List Numbered) → Before server tls items → IsLoggedIn (agreed_on server (client_of nothing_asked)) items (place Client zeros kind.Login 0)
logged_in server tls items f = (
  server,
  client_of nothing_asked,
  tls,
  f,
  ((refl, refl, refl), nothing_asked, (0 ∷ [], (ssl_request.form tt).found nothing_asked zeros (0 ∷ []) zeros_read), may tls, refl, refl),
  refl,
  none_agreed server.mysql.0,
)

login_goes_on : (server : Agreed) (tls : Bool) (items : List Numbered) → Before server tls items → IsSessionBeginning items
login_goes_on server tls items f =
    let a = agreed_on server (client_of nothing_asked) in
    let b = run_is_beginning a Login [] (start Login) refl in
    let y = place Client zeros kind.Login 0 in
    (y ∷ b.0, inr (a, items, y, b.0, refl, logged_in server tls items f, b.1))

pub taken_is_beginning : (ph : Phase) (items : List Numbered) → TakenIn ph items → IsSessionBeginning items
taken_is_beginning phase.Greeting items e =
    let y = place Server (0xff ∷ []) kind.UnsolicitedError 0 in
    (y ∷ [], inl (inl (y, ap (λ xs. xs ++ y ∷ []) e, ((refl, refl, refl), refl))))
taken_is_beginning phase.Refused items h = ([], inl (subst (λ xs. IsRefused xs) (sym (append-nil items)) h))
taken_is_beginning phase.NoLogin items h =
    let y = place Server (0xff ∷ []) kind.Error 0 in
    (y ∷ [], inl (inr (inr (h.0, h.1, h.2, h.3, y, ap (λ xs. xs ++ y ∷ []) h.4 ∙ append_assoc h.2 (h.3 ∷ []) (y ∷ []), h.5, h.6, ((refl, refl, refl), refl)))))
taken_is_beginning (phase.Login server) items h = login_goes_on server false items h
taken_is_beginning (phase.Encrypted server) items h = login_goes_on server true items h
taken_is_beginning (phase.InTls server) items h = login_goes_on server true items h
taken_is_beginning (phase.Commands p) items h =
    let b = run_is_beginning p.agreed p.opening h.2 (stands p) h.6 in
    let e : items ++ b.0 ≡ h.0 ++ h.1 ∷ (h.2 ++ b.0) = ap (λ xs. xs ++ b.0) h.3 ∙ append_assoc h.0 (h.1 ∷ h.2) b.0 in
    (b.0, inr (p.agreed, h.0, h.1, h.2 ++ b.0, e, h.4, subst (λ o. IsPipelined p.agreed o (h.2 ++ b.0)) h.5 b.1))
