-- The table after the packets in order is the table after the steps of the conversation.
use Rattle.std.proofs.Common.{◌≡◌, ℕ, Bool, true, false, List, [], ◌∷◌, ◌++◌, inl, inr, refl, sym, ap, subst, ◌∙◌}
use Rattle.std.specs.Prelude.{◌&&◌}
use Rattle.mysql_conversation.specs.Agreements.{Agreed}
use Rattle.mysql_conversation.specs.Pipelined.{Numbered, is_client, is_command}
use Rattle.mysql_conversation.specs.Conversation.{commands}
use Rattle.mysql_conversation.specs.Session.{Before, IsLoggedIn, IsLoggedInAmong}
use Rattle.mysql_conversation.specs.declared.packet_kind.PacketKind.{PacketKind}
use Rattle.mysql_conversation.specs.declared.packet_kind.PacketKind.TheVariants as kind
use Rattle.mysql_conversation.specs.declared.session.Phase.TheVariants as phase
use Rattle.mysql_conversation.proofs.Sessions.{more_of, logs_in_later}
use Rattle.mysql_statements.specs.declared.limits.StatementLimits.{StatementLimits}
use Rattle.mysql_statements.specs.declared.limits.PipelinedLimits.{PipelinedLimits}
use Rattle.mysql_observer.specs.Observed.{IsTrackedAs, AreTracked}
use Rattle.mysql_observer.specs.Order.{Step, items_of, step_after, after_steps, AreEarlyAfter}
use Rattle.mysql_observer.specs.PacketContext.{IsEarly}
use Rattle.mysql_observer.specs.Tracked.{Tracked, TrackedAfter, tracked_after, nothing}
use Rattle.mysql_conversation.proofs.Sessions.{logged_in_once}

-- ---- with memory

both_true : (x y : Bool) → true ≡ (x && y) → (x ≡ true) × (y ≡ true)
both_true true true e = (refl, refl)
both_true true false e = absurd cc
both_true false y e = absurd cc

after_with_memory : (early : Bool) (a : Agreed) (k : PacketKind) (n : ℕ) (p : List ℕ) (old new : Tracked) → TrackedAfter true early a k n p old new → new ≡ tracked_after true true early a k n p old
after_with_memory early a k n p old new h =
    let b = both_true h.0 h.1 h.2 in
    h.3 ∙ ap (λ r. tracked_after r h.1 early a k n p old) b.0 ∙ ap (λ m. tracked_after true m early a k n p old) b.1

-- ---- after the login

step_by : (a : Agreed) (front : List Numbered) (x : Numbered) (before : List Numbered) (y : Numbered) (old next : Tracked) (early : Bool) → IsLoggedIn a front x
    → IsTrackedAs true early (front ++ x ∷ before) y old next → next ≡ step_after a (record { item = y; is_early = early }) old
step_by a front x before y old next early l (inl h) =
    let q = logged_in_once h.0 a h.1.0 front h.1.1 x h.1.2 (before ++ y ∷ []) (sym h.1.3 ∙ more_of front x before (y ∷ [])) h.1.4 l in
    after_with_memory early h.0 y.packet.kind y.number y.packet.payload old next h.2 ∙ ap (λ b. tracked_after true true early b y.packet.kind y.number y.packet.payload old) q.0
step_by a front x before y old next early l (inr h) = absurd (h.0 a (front, x, before ++ y ∷ [], more_of front x before (y ∷ []), l))

-- what is tracked after the packets that follow the login
tracked_after_login : (a : Agreed) (front : List Numbered) (x : Numbered) (before rest : List Numbered) (old f : Tracked) → IsLoggedIn a front x → AreTracked (front ++ x ∷ before) rest old f
    → (steps : List Step) × (items_of steps ≡ rest) × AreEarlyAfter (front ++ x ∷ before) steps × (f ≡ after_steps a steps old)
tracked_after_login a front x before [] old f l h = ([], refl, tt, h)
tracked_after_login a front x before (y ∷ ys) old f l h =
    let e = step_by a front x before y old h.0 h.1.0 l h.1.2 in
    let r = tracked_after_login a front x (before ++ y ∷ []) ys h.0 f l (subst (λ q. AreTracked q ys h.0 f) (more_of front x before (y ∷ [])) h.2) in (
      record { item = y; is_early = h.1.0 } ∷ r.0,
      ap (λ q. y ∷ q) r.1,
      (h.1.1, subst (λ q. AreEarlyAfter q r.0) (sym (more_of front x before (y ∷ []))) r.2),
      r.3 ∙ ap (λ t. after_steps a r.0 t) e,
    )

-- ---- at the login

and_false : (b : Bool) → (b && false) ≡ true → ⊥
and_false true e = absurd cc
and_false false e = absurd cc

no_command : (a : Agreed) (front : List Numbered) (x : Numbered) → IsLoggedIn a front x → is_command x.packet ≡ true → ⊥
no_command a front x l e = and_false (is_client x.packet.from) (subst (λ k. (is_client x.packet.from && commands k) ≡ true) l.4.0.1 e)

login_changes_nothing : (a : Agreed) (n : ℕ) (p : List ℕ) (limits : StatementLimits) (waiting : PipelinedLimits) → tracked_after true true false a kind.Login n p (nothing limits waiting) ≡ nothing limits waiting
login_changes_nothing a n p limits waiting = refl

at_login : (a : Agreed) (front : List Numbered) (x : Numbered) (limits : StatementLimits) (waiting : PipelinedLimits) (next : Tracked) (early : Bool) → IsLoggedIn a front x → IsEarly early front x
    → IsTrackedAs true early front x (nothing limits waiting) next → next ≡ nothing limits waiting
at_login a front x limits waiting next true l e h = absurd (no_command a front x l e.0)
at_login a front x limits waiting next false l e (inl h) =
    after_with_memory false h.0 x.packet.kind x.number x.packet.payload (nothing limits waiting) next h.2 ∙ ap (λ k. tracked_after true true false h.0 k x.number x.packet.payload (nothing limits waiting)) l.4.0.1 ∙ login_changes_nothing h.0 x.number x.packet.payload limits waiting
at_login a front x limits waiting next false l e (inr h) = absurd (h.0 a (front, x, [], refl, l))

-- ---- before it

before_login : (items : List Numbered) (x : Numbered) (limits : StatementLimits) (waiting : PipelinedLimits) (next : Tracked) (early : Bool) → ((a : Agreed) → IsLoggedInAmong a (items ++ x ∷ []) → ⊥)
    → IsTrackedAs true early items x (nothing limits waiting) next → next ≡ nothing limits waiting
before_login items x limits waiting next early none (inl h) = absurd (none h.0 h.1)
before_login items x limits waiting next early none (inr h) = h.1

-- ---- all of it

chain_by : (a : Agreed) (server : Agreed) (tls : Bool) (front : List Numbered) (x : Numbered) (rest : List Numbered) (limits : StatementLimits) (waiting : PipelinedLimits) (f : Tracked)
    → Before server tls front → IsLoggedIn a front x → AreTracked [] (front ++ x ∷ rest) (nothing limits waiting) f
    → (steps : List Step) × (items_of steps ≡ rest) × AreEarlyAfter (front ++ x ∷ []) steps × (f ≡ after_steps a steps (nothing limits waiting))
chain_by a server false front x rest limits waiting f b l h =
    let u = b.0 in
    let h' : AreTracked [] (u ∷ x ∷ rest) (nothing limits waiting) f = subst (λ fs. AreTracked [] (fs ++ x ∷ rest) (nothing limits waiting) f) b.1 h in
    let e1 = before_login [] u limits waiting h'.0 h'.1.0 (λ c among. logs_in_later c (phase.Login server) (u ∷ []) refl (u, refl, b.2) among) h'.1.2 in
    let i = h'.2 in
    let l' : IsLoggedIn a (u ∷ []) x = subst (λ fs. IsLoggedIn a fs x) b.1 l in
    let e2 = at_login a (u ∷ []) x limits waiting i.0 i.1.0 l' i.1.1 (subst (λ t. IsTrackedAs true i.1.0 (u ∷ []) x t i.0) e1 i.1.2) in
    let r = tracked_after_login a (u ∷ []) x [] rest (nothing limits waiting) f l' (subst (λ t. AreTracked (u ∷ x ∷ []) rest t f) e2 i.2) in
    (r.0, r.1, subst (λ fs. AreEarlyAfter (fs ++ x ∷ []) r.0) (sym b.1) r.2, r.3)
chain_by a server true front x rest limits waiting f b l h =
    let u = b.0 in
    let v = b.1 in
    let h' : AreTracked [] (u ∷ v ∷ x ∷ rest) (nothing limits waiting) f = subst (λ fs. AreTracked [] (fs ++ x ∷ rest) (nothing limits waiting) f) b.2 h in
    let e1 = before_login [] u limits waiting h'.0 h'.1.0 (λ c among. logs_in_later c (phase.Login server) (u ∷ []) refl (u, refl, b.3) among) h'.1.2 in
    let j = h'.2 in
    let e2 = before_login (u ∷ []) v limits waiting j.0 j.1.0 (λ c among. logs_in_later c (phase.InTls server) (u ∷ v ∷ []) refl (u, v, refl, b.3, b.4) among)
    (subst (λ t. IsTrackedAs true j.1.0 (u ∷ []) v t j.0) e1 j.1.2) in
    let i = j.2 in
    let l' : IsLoggedIn a (u ∷ v ∷ []) x = subst (λ fs. IsLoggedIn a fs x) b.2 l in
    let e3 = at_login a (u ∷ v ∷ []) x limits waiting i.0 i.1.0 l' i.1.1 (subst (λ t. IsTrackedAs true i.1.0 (u ∷ v ∷ []) x t i.0) e2 i.1.2) in
    let r = tracked_after_login a (u ∷ v ∷ []) x [] rest (nothing limits waiting) f l' (subst (λ t. AreTracked (u ∷ v ∷ x ∷ []) rest t f) e3 i.2) in
    (r.0, r.1, subst (λ fs. AreEarlyAfter (fs ++ x ∷ []) r.0) (sym b.2) r.2, r.3)

pub chain_of_steps : (a : Agreed) (front : List Numbered) (x : Numbered) (rest : List Numbered) (limits : StatementLimits) (waiting : PipelinedLimits) (f : Tracked)
    → IsLoggedIn a front x → AreTracked [] (front ++ x ∷ rest) (nothing limits waiting) f
    → (steps : List Step) × (items_of steps ≡ rest) × AreEarlyAfter (front ++ x ∷ []) steps × (f ≡ after_steps a steps (nothing limits waiting))
chain_of_steps a front x rest limits waiting f l h = chain_by a l.0 l.2 front x rest limits waiting f l.3 l h
