-- A state in plain numbers stands for one of the machine.
use Rattle.std.proofs.Common.{◌≡◌, ℕ, ◌+◌, ◌-◌, ◌^◌, List, [], ◌∷◌, ◌++◌, inr, arith, length, take, Some, None, true, false, refl, sym, subst, ap, ◌∙◌}
use Rattle.std.specs.Prelude.{◌≢◌}
use Rattle.std.proofs.lemmas.Option.{same_Some}
use Rattle.mysql_conversation.specs.Agreements.{Agreed}
use Rattle.mysql_conversation.specs.ConversationState.{Stays, state_at}
use Rattle.mysql_conversation.specs.Machine.{is_due, is_rest, take_step}
use Rattle.mysql_conversation.specs.Piped.{IsCommand, place}
use Rattle.mysql_conversation.specs.Pipelined.{Numbered, IsPipelinedBeginning}
use Rattle.mysql_conversation.specs.PipelineState.{Comes, IsQueue, TakenAt, TakesNone, numbered_from, opening, queue, stands_in}
use Rattle.mysql_conversation.specs.Standing.{PipeRun, command_of, pipe_step, start}
use Rattle.mysql_conversation.proofs.PipeSteps.{run_sound, served_stays}
use Rattle.mysql_conversation.proofs.Places.{some_command}
use Rattle.mysql_conversation.proofs.Queues.{queue_length}
use Rattle.mysql_conversation.proofs.States.{idle_is}
use Rattle.mysql_conversation.proofs.Stood.{pipe_comes, pipe_one_more, pipe_refused, start_sound}
use Rattle.mysql_conversation.proofs.Turns.{rest_step_is}
use Rattle.mysql_conversation.specs.declared.packet_kind.PacketKind.{PacketKind}
use Rattle.mysql_conversation.specs.declared.packet_kind.Side.{Side}
use Rattle.mysql_conversation.specs.declared.packet_kind.Side.TheVariants.{Client, Server}
use Rattle.mysql_conversation.specs.declared.pipeline_state.PipelineState.{PipelineState}
use Rattle.mysql_conversation.specs.declared.state.State.{State}

-- ---- what was taken

-- the numbers have one state
pub run_at : (a : Agreed) (s : PipelineState) (m : State) (items : List Numbered) → state_at s.current ≡ Some m → TakenAt a s items → PipeRun a (start (opening s)) items (stands_in m s)
run_at a s m items e h = subst (λ n. PipeRun a (start (opening s)) items (stands_in n s)) (same_Some h.1 m (sym h.2 ∙ e)) h.3

-- a step of the machine is one of the numbers
pub more_taken : (a : Agreed) (s t : PipelineState) (m n : State) (side : Side) (p : List ℕ) (k : PacketKind) (i : ℕ)
    → state_at s.current ≡ Some m → state_at t.current ≡ Some n → opening t ≡ opening s → IsQueue t
    → ((is_due m ≡ false → queue s ≡ []) → pipe_step a (stands_in m s) side p ≡ Some (k, i, stands_in n t))
    → (items : List Numbered) → TakenAt a s items → TakenAt a t (items ++ place side p k i ∷ [])
more_taken a s t m n side p k i e f o q g items h =
    let r = run_at a s m items e h in
    let sound = run_sound a (start (opening s)) items (stands_in m s) (start_sound (opening s)) r in
    let more = pipe_one_more a (opening s) items (stands_in m s) side p k i (stands_in n t) r (g sound.0) in
    (q, n, f, subst (λ o. PipeRun a (start o) (items ++ place side p k i ∷ []) (stands_in n t)) (sym o) more)

pub none_refused : (a : Agreed) (s : PipelineState) (m : State) (side : Side) (p : List ℕ) → state_at s.current ≡ Some m → pipe_step a (stands_in m s) side p ≡ None
    → (items : List Numbered) (k : PacketKind) (i : ℕ) → TakenAt a s items → IsPipelinedBeginning a (opening s) (items ++ place side p k i ∷ []) → ⊥
none_refused a s m side p e n items k i h = pipe_refused a (opening s) items (stands_in m s) (place side p k i) (run_at a s m items e h) n

pub some_comes : (a : Agreed) (s : PipelineState) (m : State) (side : Side) (p : List ℕ) → state_at s.current ≡ Some m → pipe_step a (stands_in m s) side p ≢ None → Comes a s side p
some_comes a s m side p e n = λ items h. pipe_comes a (opening s) items (stands_in m s) side p (pipe_step a (stands_in m s) side p) (run_at a s m items e h) refl n

-- ---- when no command may wait

-- a command in its turn that can't be counted
pub idle_takes_none : (a : Agreed) (s : PipelineState) (m n : State) (p : List ℕ) (k : PacketKind) → is_rest m ≡ true → take_step a m Client p ≡ Some (k, n) → s.last ≡ 2 ^ 64 - 1 → IsCommand Client p × TakesNone m s
idle_takes_none a s m n p k i e l =
    let step = subst (λ s. take_step a s Client p ≡ Some (k, n)) (idle_is m i) e in
    let f = some_command (command_of p) k n (sym (rest_step_is a p) ∙ step) in
    ((refl, f.0, f.1), inr (inr i, l))

-- ---- whether all is answered

-- the commands up to the current one are all
pub none_after : (s : PipelineState) → s.number ≡ s.last → queue s ≡ []
none_after s e =
    let n : s.last - s.number ≡ 0 = omega arith in
    ap (λ n. numbered_from (s.number + 1) (take n s.waiting)) n

pub all_taken : (s : PipelineState) → length s.waiting ≡ 8 → IsQueue s → queue s ≡ [] → s.number ≡ s.last
all_taken s l q e =
    let n : 0 ≡ s.last - s.number = sym (ap length e) ∙ queue_length s l q.1 in omega arith

-- a row changes nothing
pub row_stays : (a : Agreed) (s : PipelineState) (p : List ℕ) (k : PacketKind) → Stays a s.current p k → (items : List Numbered) → TakenAt a s items → TakenAt a s (items ++ place Server p k s.number ∷ [])
row_stays a s p k h items t =
    more_taken a s s h.0 h.0 Server p k s.number h.1 h.1 refl t.0 (λ g. served_stays a (stands_in h.0 s) p k h.2 h.3 h.4 h.5) items t
