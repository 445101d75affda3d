use Rattle.std.proofs.Common.{◌↔◌, ◌∷◌, ◌++◌, [], Some, arith, sym, ap, subst, ◌∙◌}
use Rattle.mysql_conversation.specs.Piped.{place}
use Rattle.mysql_conversation.specs.Session.{AsksForTls, IsEncrypted, IsResumedSession, IsSession, SessionResumed, SessionTaken}
use Rattle.mysql_observer.specs.Latest.{latest_after, none}
use Rattle.mysql_observer.specs.Observed.{Tracks, exchange_from}
use Rattle.mysql_observer.specs.PacketContext.{DefinedIn}
use Rattle.mysql_observer.specs.Tracked.{KeptIn}
use Rattle.mysql_observer.proofs.Known.{defines_more, early_is, error_as, highest_now, knows_more, latest_more}
use Rattle.mysql_observer.proofs.observer.Observer.next.Goals as goal

pub returns-in-Ok-clause-taken : goal.returns-in-Ok-clause-taken
returns-in-Ok-clause-taken c = λ items h.
    let e = c.exchange_of-exchange.ensures.whole h.2 in
    let x = place c.args.from c.args.payload.now c.in-Ok.kind c.in-Ok.number in
    let k = c.keep-is_kept.ensures.same in
    let d = c.define-is_defined.ensures.same in
    rw e (
      subst (λ s. SessionTaken s (items ++ x ∷ [])) (sym (d.0 ∙ k.0)) (c.in-Ok.ensures.taken items h.0),
      d.1 ∙ k.1 ∙ c.after-self.ensures ∙ ap (latest_after c.in-Ok.kind c.in-Ok.number) h.1 ∙ sym (latest_more none items x),
      d.2 ∙ k.2 ∙ h.2,
      d.3 ∙ k.3 ∙ highest_now items x c.args.self.now.last c.max-self.result h.3 (omega (arith, e, c.max-self.ensures)),
    )

pub returns-in-Ok-clause-knows : goal.returns-in-Ok-clause-knows
returns-in-Ok-clause-knows c = λ items h.
    let e = c.exchange_of-exchange.ensures.whole h.2 in
    let x = place c.args.from c.args.payload.now c.in-Ok.kind c.exchange_of-exchange.result in
    let taken = subst (λ n. SessionTaken c.next.new.self (items ++ place c.args.from c.args.payload.now c.in-Ok.kind n ∷ [])) (sym e) (c.in-Ok.ensures.taken items h.0) in (
      c.keep-is_kept.result,
      c.define-is_defined.result,
      c.are_both-has_memory.ensures,
      subst (λ f. Tracks c.keep-is_kept.result items x c.args.self.now.tracked f) (sym c.define-is_defined.ensures.tracked)
          (knows_more c.agreed-agreed.result c.is_early-is_early.result c.keep-is_kept.result c.next.new.self items x _ _
          (early_is (IsSession items) c.is_early-is_early.result c.is_idle-is_between.result x c.is_early-is_early.ensures (c.is_idle-is_between.ensures.session items h.0))
          c.agreed-agreed.ensures.some c.agreed-agreed.ensures.none taken c.keep-is_kept.ensures.tracked),
      defines_more c.agreed-agreed.result c.define-is_defined.result c.next.new.self items x _ _ c.agreed-agreed.ensures.some c.agreed-agreed.ensures.none taken
          (subst (λ r. DefinedIn c.agreed-agreed.result c.in-Ok.kind c.args.payload.now c.define-is_defined.result r c.define-is_defined.new.self.columns) c.keep-is_kept.ensures.columns c.define-is_defined.ensures.columns),
    )

pub returns-in-Ok-clause-resumed : goal.returns-in-Ok-clause-resumed
returns-in-Ok-clause-resumed c = λ a before items h.
    let x = place c.args.from c.args.payload.now c.in-Ok.kind c.in-Ok.number in
    let k = c.keep-is_kept.ensures.same in
    let d = c.define-is_defined.ensures.same in (
      c.in-Ok.number,
      c.exchange_of-exchange.ensures.value ∙ ap (λ b. exchange_from b c.in-Ok.number) h.2,
      (
        subst (λ s. SessionResumed s a (items ++ x ∷ [])) (sym (d.0 ∙ k.0)) (c.in-Ok.ensures.resumed a items h.0),
        d.1 ∙ k.1 ∙ c.after-self.ensures ∙ ap (latest_after c.in-Ok.kind c.in-Ok.number) h.1 ∙ sym (latest_more none items x),
        d.2 ∙ k.2 ∙ h.2,
      ),
    )

pub returns-in-Ok-clause-more : goal.returns-in-Ok-clause-more
returns-in-Ok-clause-more c = λ a before items h.
    let x = place c.args.from c.args.payload.now c.in-Ok.kind c.in-Ok.number in
    let agreed = c.agreed-agreed.ensures.resumed a (items ++ x ∷ []) (c.in-Ok.ensures.resumed a items h.0) in (
      c.in-Ok.number,
      (
        c.keep-is_kept.result,
        c.define-is_defined.result,
        c.is_early-is_early.result,
        c.are_both-has_memory.ensures,
        early_is (IsResumedSession a items) c.is_early-is_early.result c.is_idle-is_between.result x c.is_early-is_early.ensures (c.is_idle-is_between.ensures.resumed a items h.0),
        subst (λ f. KeptIn (Some a) c.is_early-is_early.result c.in-Ok.kind c.exchange_of-exchange.result c.args.payload.now c.keep-is_kept.result c.args.self.now.tracked f) (sym c.define-is_defined.ensures.tracked)
            (subst (λ g. KeptIn g c.is_early-is_early.result c.in-Ok.kind c.exchange_of-exchange.result c.args.payload.now c.keep-is_kept.result c.args.self.now.tracked c.keep-is_kept.new.self.tracked) agreed c.keep-is_kept.ensures.tracked),
        subst (λ g. DefinedIn g c.in-Ok.kind c.args.payload.now c.define-is_defined.result c.args.self.now.columns c.define-is_defined.new.self.columns) agreed
            (subst (λ r. DefinedIn c.agreed-agreed.result c.in-Ok.kind c.args.payload.now c.define-is_defined.result r c.define-is_defined.new.self.columns) c.keep-is_kept.ensures.columns c.define-is_defined.ensures.columns),
      ),
    )

pub returns-in-Ok-clause-tls : goal.returns-in-Ok-clause-tls
returns-in-Ok-clause-tls c =
    subst (λ s. IsEncrypted s ↔ AsksForTls c.args.self.now.session c.args.from c.args.payload.now) (sym (c.define-is_defined.ensures.same.0 ∙ c.keep-is_kept.ensures.same.0)) c.in-Ok.ensures.tls

pub returns-in-Err-clause-refused : goal.returns-in-Err-clause-refused
returns-in-Err-clause-refused c = λ items kind number e h. c.in-Err.ensures.refused items kind number e h.0

pub returns-in-Err-clause-full : goal.returns-in-Err-clause-full
returns-in-Err-clause-full c = error_as c.in-Err.why _ c.in-Err.ensures.full

pub returns-in-Err-clause-not_next : goal.returns-in-Err-clause-not_next
returns-in-Err-clause-not_next c = λ a before items kind number e h. c.in-Err.ensures.not_next a items kind number e h.0

pub returns-in-Err-clause-kept : goal.returns-in-Err-clause-kept
returns-in-Err-clause-kept c = λ a before items h. (c.in-Err.ensures.stays a items h.0, h.1, h.2)
