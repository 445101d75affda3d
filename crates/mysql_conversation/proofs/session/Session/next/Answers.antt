use Rattle.std.proofs.Common.{◌≡◌, ◌∙◌, subst, sym, ap, ◌++◌, [], ◌∷◌, refl}
use Rattle.mysql_conversation.specs.declared.session.Phase.TheVariants as phase
use Rattle.mysql_conversation.specs.declared.pipeline.SessionError.TheVariants as refusal
use Rattle.mysql_conversation.proofs.Places.{neither, only}
use Rattle.mysql_conversation.proofs.SessionAnswers.{on_err, same_commands, same_limit, ok_always, is_login, is_plain, not_encrypted, commands_is, no_compression, no_tls, sent_compressed, sent_tls, served_plain, server_asks_nothing, commands_full}
use Rattle.mysql_conversation.specs.Piped.{place}
use Rattle.mysql_conversation.specs.Session.{TakenIn, IsSessionBeginning}
use Rattle.mysql_conversation.proofs.Stood.{lift_ok, lift_err}
use Rattle.mysql_conversation.proofs.Resumed.{none_resumed, resumed_in, resumed_refuses, resumed_same}
use Rattle.mysql_conversation.proofs.Sessions.{commands_come, commands_more, not_unexpected, commands_refuse, served_more, served_refused, sent_more, sent_refused}
use Rattle.mysql_conversation.specs.SessionSteps.{is_encrypted}
use Rattle.mysql_conversation.proofs.session.Session.next.Goals as goal

pub returns-in-Commands-clause-taken : goal.returns-in-Commands-clause-taken
returns-in-Commands-clause-taken c = lift_ok c.next.result
    (λ x h items t. commands_more c.in-Commands.pipeline c.next.new.self (place c.args.from c.args.payload.now x.0 x.1) items c.next.ensures.agreed c.next.ensures.opening h
    (subst (λ ph. TakenIn ph items) c.in-Commands.is t))
    c.next.ensures.taken

pub returns-in-Commands-clause-refused : goal.returns-in-Commands-clause-refused
returns-in-Commands-clause-refused c = lift_err c.next.result
    (λ why h items k n e t. commands_refuse c.in-Commands.pipeline (place c.args.from c.args.payload.now k n) items (λ rest r. h rest k n e r) (subst (λ ph. TakenIn ph items) c.in-Commands.is t))
    c.next.ensures.refused

pub returns-in-Commands-clause-memory : goal.returns-in-Commands-clause-memory
returns-in-Commands-clause-memory c = lift_err c.next.result (λ why h e. (c.in-Commands.pipeline, c.in-Commands.is, (h e).0, (h e).1, (h e).2, (h e).3)) c.next.ensures.memory

pub returns-in-Commands-clause-comes : goal.returns-in-Commands-clause-comes
returns-in-Commands-clause-comes c = lift_err c.next.result
    (λ why h e items t. commands_come c.in-Commands.pipeline c.args.from c.args.payload.now items (λ rest r. h (not_unexpected why e) rest r) (subst (λ ph. TakenIn ph items) c.in-Commands.is t))
    c.next.ensures.comes

-- ---- exactly when

pub returns-in-Commands-clause-encrypted : goal.returns-in-Commands-clause-encrypted
returns-in-Commands-clause-encrypted c = neither
    (only c.next.result refusal.Encrypted c.next.ensures.ours (λ e h g. h.0 g))
    (λ h. not_encrypted c.args.self.now (ap is_encrypted c.in-Commands.is) h.0)

pub returns-in-Commands-clause-tls : goal.returns-in-Commands-clause-tls
returns-in-Commands-clause-tls c = ok_always c.next.result (neither (λ h. let no : phase.Commands c.next.new.self ≡ phase.Encrypted h.0 = h.1 in absurd cc) (no_tls c.args.self.now c.args.from c.args.payload.now (ap is_plain c.in-Commands.is)))

pub returns-in-Commands-clause-compressed : goal.returns-in-Commands-clause-compressed
returns-in-Commands-clause-compressed c = neither
    (only c.next.result refusal.Compressed c.next.ensures.ours (λ e h g. h.1 g))
    (no_compression c.args.self.now c.args.from c.args.payload.now (ap is_login c.in-Commands.is))

pub returns-in-Commands-clause-full : goal.returns-in-Commands-clause-full
returns-in-Commands-clause-full c = commands_full c.args.self.now c.in-Commands.pipeline c.args.from c.args.payload.now c.next.result c.in-Commands.is c.next.ensures.full

pub returns-in-Commands-clause-same : goal.returns-in-Commands-clause-same
returns-in-Commands-clause-same c = on_err c.next.result
    (λ st. same_commands c.args.self.now.phase c.in-Commands.pipeline c.next.new.self c.in-Commands.is c.next.ensures.agreed c.next.ensures.opening c.next.ensures.limit st)
    c.next.ensures.err

pub returns-in-Server-clause-taken : goal.returns-in-Server-clause-taken
returns-in-Server-clause-taken c = lift_ok c.served.result
    (λ x h items t. subst (λ side. TakenIn c.served.new.self.phase (items ++ place side c.args.payload.now x.0 x.1 ∷ [])) (sym c.in-Server.is)
    (served_more c.args.self.now.phase c.args.payload.now x.0 x.1 c.served.new.self.phase items h.0 h.1 t))
    c.served.ensures.taken

pub returns-in-Server-clause-refused : goal.returns-in-Server-clause-refused
returns-in-Server-clause-refused c = lift_err c.served.result
    (λ why h items k n e t. λ b. served_refused c.args.self.now.phase c.args.payload.now k n items (sym c.is_commands.ensures ∙ c.if-not-is_commands.true) (h e).0 (h e).1 t
    (subst (λ side. IsSessionBeginning (items ++ place side c.args.payload.now k n ∷ [])) c.in-Server.is b))
    c.served.ensures.refused

pub returns-in-Server-clause-tls : goal.returns-in-Server-clause-tls
returns-in-Server-clause-tls c = lift_ok c.served.result
    (λ x h. neither (not_encrypted c.served.new.self (served_plain c.args.self.now.phase c.served.new.self.phase c.args.payload.now x.0 h.1))
    (server_asks_nothing c.args.self.now c.args.from c.args.payload.now c.in-Server.is))
    c.served.ensures.taken

pub returns-in-Server-clause-limit : goal.returns-in-Server-clause-limit
returns-in-Server-clause-limit c = same_limit c.args.self.now c.served.new.self c.served.result (sym c.is_commands.ensures ∙ c.if-not-is_commands.true) c.served.ensures.limit c.served.ensures.err

pub returns-in-Client-clause-taken : goal.returns-in-Client-clause-taken
returns-in-Client-clause-taken c = lift_ok c.sent.result
    (λ x h items t. subst (λ side. TakenIn c.sent.new.self.phase (items ++ place side c.args.payload.now x.0 x.1 ∷ [])) (sym c.in-Client.is)
    (sent_more c.args.self.now.phase c.args.payload.now x.0 x.1 c.sent.new.self.phase items h.0 h.1 t))
    c.sent.ensures.taken

pub returns-in-Client-clause-refused : goal.returns-in-Client-clause-refused
returns-in-Client-clause-refused c = lift_err c.sent.result
    (λ why h items k n e t. λ b. sent_refused c.args.self.now.phase c.args.payload.now k n items (h e) t
    (subst (λ side. IsSessionBeginning (items ++ place side c.args.payload.now k n ∷ [])) c.in-Client.is b))
    c.sent.ensures.refused

pub returns-in-Client-clause-tls : goal.returns-in-Client-clause-tls
returns-in-Client-clause-tls c = lift_ok c.sent.result
    (λ x h. sent_tls c.args.self.now c.sent.new.self c.args.payload.now x.0 c.args.from c.in-Client.is h.1)
    c.sent.ensures.taken

pub returns-in-Client-clause-compressed : goal.returns-in-Client-clause-compressed
returns-in-Client-clause-compressed c =
    let same = sent_compressed c.args.self.now c.args.payload.now c.args.from c.in-Client.is in
    ((λ e. same.0 (c.sent.ensures.compressed.0 e)), (λ h. c.sent.ensures.compressed.1 (same.1 h)))

pub returns-in_default-clause-refused : goal.returns-in_default-clause-refused
returns-in_default-clause-refused c = λ items k n e t b. commands_is c.args.self.now.phase (sym c.is_commands.ensures ∙ c.if-not-is_commands.false) c.in_default.not-Commands

-- ---- a session that is resumed

pub returns-in-Commands-clause-resumed : goal.returns-in-Commands-clause-resumed
returns-in-Commands-clause-resumed c = lift_ok c.next.result
    (λ x h a items r.
    let u = resumed_in c.args.self.now c.in-Commands.pipeline a items c.in-Commands.is r in
    (c.next.new.self, refl, c.next.ensures.agreed ∙ u.0, c.next.ensures.opening ∙ u.1, h items u.2))
    c.next.ensures.taken

pub returns-in-Commands-clause-not_next : goal.returns-in-Commands-clause-not_next
returns-in-Commands-clause-not_next c = lift_err c.next.result
    (λ why h a items k n e r.
    let u = resumed_in c.args.self.now c.in-Commands.pipeline a items c.in-Commands.is r in
    resumed_refuses c.in-Commands.pipeline a items (place c.args.from c.args.payload.now k n) u (h items k n e u.2))
    c.next.ensures.refused

pub returns-in-Commands-clause-stays : goal.returns-in-Commands-clause-stays
returns-in-Commands-clause-stays c = on_err c.next.result
    (λ st a items r. resumed_same c.args.self.now (record c.args.self.now { phase = phase.Commands c.next.new.self }) a items
    (same_commands c.args.self.now.phase c.in-Commands.pipeline c.next.new.self c.in-Commands.is c.next.ensures.agreed c.next.ensures.opening c.next.ensures.limit st) r)
    c.next.ensures.err

pub returns-in-Server-clause-resumed : goal.returns-in-Server-clause-resumed
returns-in-Server-clause-resumed c = lift_ok c.served.result (λ x h a items r. absurd (none_resumed c.args.self.now a items (sym c.is_commands.ensures ∙ c.if-not-is_commands.true) r)) c.served.ensures.taken

pub returns-in-Server-clause-not_next : goal.returns-in-Server-clause-not_next
returns-in-Server-clause-not_next c = lift_err c.served.result (λ why h a items k n e r b. none_resumed c.args.self.now a items (sym c.is_commands.ensures ∙ c.if-not-is_commands.true) r) c.served.ensures.refused

pub returns-in-Client-clause-resumed : goal.returns-in-Client-clause-resumed
returns-in-Client-clause-resumed c = lift_ok c.sent.result (λ x h a items r. absurd (none_resumed c.args.self.now a items (sym c.is_commands.ensures ∙ c.if-not-is_commands.true) r)) c.sent.ensures.taken

pub returns-in-Client-clause-not_next : goal.returns-in-Client-clause-not_next
returns-in-Client-clause-not_next c = lift_err c.sent.result (λ why h a items k n e r b. none_resumed c.args.self.now a items (sym c.is_commands.ensures ∙ c.if-not-is_commands.true) r) c.sent.ensures.refused

pub returns-in_default-clause-not_next : goal.returns-in_default-clause-not_next
returns-in_default-clause-not_next c = λ a items k n e r b. commands_is c.args.self.now.phase (sym c.is_commands.ensures ∙ c.if-not-is_commands.false) c.in_default.not-Commands
