-- A session that is resumed between two exchanges.
use Rattle.std.proofs.Common.{◌≡◌, List, ◌∷◌, ◌++◌, [], sym, ap, subst, ◌∙◌, true, false}
use Rattle.mysql_conversation.specs.Agreements.{Agreed}
use Rattle.mysql_conversation.specs.Piped as pipe
use Rattle.mysql_conversation.specs.Piped.{PipeTaken, stands}
use Rattle.mysql_conversation.specs.Pipelined.{Numbered, IsPipelined, IsPipelinedBeginning}
use Rattle.mysql_conversation.specs.Session.{IsSame, IsSameIn, IsResumedBeginning, IsResumedSession, SessionResumed}
use Rattle.mysql_conversation.specs.SessionSteps.{is_commands}
use Rattle.mysql_conversation.specs.Standing.{start, PipeRun}
use Rattle.mysql_conversation.proofs.Stood.{run_stays}
use Rattle.mysql_conversation.specs.declared.packet_kind.InitialPhase.TheVariants.{Commands}
use Rattle.mysql_conversation.specs.declared.pipeline.Pipeline.{Pipeline}
use Rattle.mysql_conversation.specs.declared.session.Phase.TheVariants as phase
use Rattle.mysql_conversation.specs.declared.session.Session.{Session}

-- before the conversation there is none
pub none_resumed : (s : Session) (a : Agreed) (items : List Numbered) → is_commands s.phase ≡ false → SessionResumed s a items → ⊥
none_resumed s a items n r = let no : false ≡ true = sym n ∙ ap is_commands r.1 in absurd cc

same_pipeline : {p q : Pipeline} → phase.Commands p ≡ phase.Commands q → p ≡ q
same_pipeline e = cc

-- the session accepted what the pipeline accepted
abbrev pub TakesResumed : Pipeline → Agreed → List Numbered → Type 0
TakesResumed p a items = (pipe.agreed p ≡ a) × (pipe.opening p ≡ Commands) × PipeTaken p items

pub resumed_in : (s : Session) (p : Pipeline) (a : Agreed) (items : List Numbered) → s.phase ≡ phase.Commands p → SessionResumed s a items → TakesResumed p a items
resumed_in s p a items e r = subst (λ q. TakesResumed q a items) (same_pipeline (sym r.1 ∙ e)) (r.2, r.3, r.4)

-- it is unchanged
stood : (p q : Pipeline) (a : Agreed) (items : List Numbered) → pipe.IsSame p q → TakesResumed p a items → TakesResumed q a items
stood p q a items s r = (
  s.0 ∙ r.0,
  s.1 ∙ r.1,
  run_stays _ _ _ _ items (stands q) s.0 s.1 (subst (λ t. PipeRun p.agreed (start p.opening) items t) (sym s.3) r.2),
)

pub resumed_same : (s t : Session) (a : Agreed) (items : List Numbered) → IsSame s t → SessionResumed s a items → SessionResumed t a items
resumed_same s t a items h r =
    let k : IsSameIn (phase.Commands r.0) t.phase = subst (λ ph. IsSameIn ph t.phase) r.1 h in
    let m = stood r.0 k.0 a items k.2 (r.2, r.3, r.4) in
    (k.0, k.1, m.0, m.1, m.2)

-- what doesn't continue the pipeline doesn't continue the session
pub resumed_refuses : (p : Pipeline) (a : Agreed) (items : List Numbered) (x : Numbered) → TakesResumed p a items
    → (IsPipelinedBeginning (pipe.agreed p) (pipe.opening p) (items ++ x ∷ []) → ⊥) → IsResumedBeginning a (items ++ x ∷ []) → ⊥
resumed_refuses p a items x r none b =
    none (subst (λ o. IsPipelinedBeginning (pipe.agreed p) o (items ++ x ∷ [])) (sym r.1) (subst (λ d. IsPipelinedBeginning d Commands (items ++ x ∷ [])) (sym r.0) b))

pub resumed_session : (p : Pipeline) (a : Agreed) (items : List Numbered) → TakesResumed p a items → IsPipelined (pipe.agreed p) (pipe.opening p) items → IsResumedSession a items
resumed_session p a items r h = subst (λ d. IsPipelined d Commands items) r.0 (subst (λ o. IsPipelined (pipe.agreed p) o items) r.1 h)

pub session_resumed : (p : Pipeline) (a : Agreed) (items : List Numbered) → TakesResumed p a items → IsResumedSession a items → IsPipelined (pipe.agreed p) (pipe.opening p) items
session_resumed p a items r h = subst (λ o. IsPipelined (pipe.agreed p) o items) (sym r.1) (subst (λ d. IsPipelined d Commands items) (sym r.0) h)
