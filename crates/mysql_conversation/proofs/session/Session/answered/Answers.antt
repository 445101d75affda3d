use Rattle.std.proofs.Common.{sym, ◌∙◌, ap, inl, inr, refl}
use Rattle.mysql_conversation.specs.Agreements.{agreed_on, compresses}
use Rattle.mysql_conversation.proofs.Places.{neither}
use Rattle.mysql_conversation.proofs.SessionAnswers.{ok_is_no_error, compressed_asks, compressed_open}
use Rattle.mysql_conversation.proofs.Sessions.{may_log_in}
use Rattle.mysql_conversation.proofs.session.Session.answered.Goals as goal

pub returns-clause-taken : goal.returns-clause-taken
returns-clause-taken c =
    let read = sym c.login.ensures ∙ c.in-Some.is in
    let plain = may_log_in c.args.in_tls c.in-Some.head (sym c.asks_tls.ensures ∙ c.if-asks_tls.false) in
    let agreed = c.agreed_on-agreed.ensures.value ∙ ap (agreed_on c.args.server) c.client_of.ensures in
    let open_bytes = ap compresses (sym agreed) ∙ sym c.compresses.ensures ∙ c.if-compresses.false in
    let ends = sym c.ends_name.ensures ∙ c.if-not-ends_name.false in
    (refl, inl (c.in-Some.head, read, inr (plain, open_bytes, refl, (c.new.result, refl, c.new.ensures.agreed ∙ agreed, c.new.ensures.opening, c.new.ensures.taken), ends)))

pub returns-clause-compressed : goal.returns-clause-compressed
returns-clause-compressed c =
    let read = sym c.login.ensures ∙ c.in-Some.is in
    let agreed = c.agreed_on-agreed.ensures.value ∙ ap (agreed_on c.args.server) c.client_of.ensures in
    let open_bytes = ap compresses (sym agreed) ∙ sym c.compresses.ensures ∙ c.if-compresses.false in
    neither (ok_is_no_error _ _) (compressed_open c.args.server c.args.in_tls c.args.payload.now c.in-Some.head read open_bytes)

pub returns-then-compresses-clause-compressed : goal.returns-then-compresses-clause-compressed
returns-then-compresses-clause-compressed c =
    let read = sym c.login.ensures ∙ c.in-Some.is in
    let plain = may_log_in c.args.in_tls c.in-Some.head (sym c.asks_tls.ensures ∙ c.if-asks_tls.false) in
    let agreed = c.agreed_on-agreed.ensures.value ∙ ap (agreed_on c.args.server) c.client_of.ensures in
    let compressed = ap compresses (sym agreed) ∙ sym c.compresses.ensures ∙ c.if-compresses.true in
    ((λ e. (c.in-Some.head, read, plain, compressed, sym c.ends_name.ensures ∙ c.if-not-ends_name.false)), (λ h. refl))

pub returns-then-asks_tls-clause-compressed : goal.returns-then-asks_tls-clause-compressed
returns-then-asks_tls-clause-compressed c =
    neither (ok_is_no_error _ _) (compressed_asks c.args.server c.args.in_tls c.args.payload.now c.in-Some.head (sym c.login.ensures ∙ c.in-Some.is) (sym c.asks_tls.ensures ∙ c.if-asks_tls.true))
