-- The machine with waiting commands accepts exactly the beginnings of pipelined conversations.
use Rattle.mysql_conversation.specs.Agreements.{Agreed}
use Rattle.std.proofs.Common.{◌≡◌, ℕ, List, [], ◌∷◌, ◌++◌, ◌⊎◌, inl, inr, Some, None, refl, sym, ap, subst, ◌∙◌, Bool, true, false}
use Rattle.std.proofs.lemmas.Bool.{cases_Bool}
use Rattle.std.specs.Prelude.{◌≢◌, Option, Result, Ok, Err, IfOk, IfErr}
use Rattle.mysql_conversation.specs.Conversation.{Packet, IsConversation, asks}
use Rattle.mysql_conversation.specs.Machine.{take_step, rests, is_shut, is_due, is_login, entrance}
use Rattle.mysql_conversation.specs.Pipelined.{Numbered, packets, counted, AreNumbered, Early, IsPipelined, IsPipelinedBeginning, numbered}
use Rattle.mysql_conversation.specs.Standing.{Standing, standing, begin, waits, settle, pipe_step, step_of, Steps, PipeRun, start}
use Rattle.mysql_conversation.proofs.Runs.{join, part, once}
use Rattle.mysql_conversation.specs.Piped.{place}
use Rattle.mysql_conversation.proofs.Begun.{conversation_takes, takes_is_conversation, no_report}
use Rattle.mysql_conversation.proofs.Ends.{short_report, ok_bytes, plain, ok_spelled}
use Rattle.mysql_conversation.proofs.Classes.{some_is, ok_status_of}
use Rattle.mysql_conversation.proofs.States.{which_rests, running_idle, due_runs, entrance_listens, login_is, error_rests, failed_no_report}
use Rattle.mysql_conversation.proofs.Turns.{begin_due, begin_shut}
use Rattle.mysql_conversation.proofs.Pipes.{early_runs, run_early, in_turn_plain, run_in_turn}
use Rattle.mysql_conversation.proofs.PipeSteps.{Outcome, Over, OnlyLast, Sound, run_sound, server_next, settle_stays}
use Rattle.mysql_conversation.specs.declared.packet_kind.PacketKind.{PacketKind}
use Rattle.mysql_conversation.specs.declared.packet_kind.PacketKind.TheVariants as kind
use Rattle.mysql_conversation.specs.declared.packet_kind.Side.{Side}
use Rattle.mysql_conversation.specs.declared.packet_kind.Side.TheVariants.{Server}
use Rattle.mysql_conversation.specs.declared.state.State.{State}
use Rattle.mysql_conversation.specs.declared.state.State.TheVariants as state
use Rattle.mysql_conversation.specs.declared.packet_kind.InitialPhase.{InitialPhase}
use Rattle.mysql_conversation.specs.declared.pipeline.Waiting.{Waiting}

-- ---- pipelined conversations are what the machine accepts

pub start_sound : (o : InitialPhase) → Sound (start o)
start_sound o = ((λ h. refl), tt)

pub pipelined_runs : (d : Agreed) (o : InitialPhase) (items : List Numbered) → IsPipelined d o items → (t : Standing) × PipeRun d (start o) items t × Over t
pipelined_runs d o items h =
    let g = conversation_takes d o (packets h.0) h.1 in
    let r = run_in_turn d (entrance o) 0 h.0 g.0 g.1 g.2 h.2 in
    (r.0, early_runs d (start o) false items h.0 r.0 (entrance_listens o) h.3 r.1, r.2)

pub run_is_pipelined : (d : Agreed) (o : InitialPhase) (items : List Numbered) (t : Standing) → PipeRun d (start o) items t → Over t → IsPipelined d o items
run_is_pipelined d o items t r over =
    let h = run_early d (start o) items t (start_sound o) r over in
    let p = in_turn_plain d (entrance o) 0 h.0 t h.2 in
    (h.0, takes_is_conversation d o (packets h.0) (t.state, p.0, over.0), p.1, subst (λ b. Early b items h.0) (entrance_listens o) h.1)

-- ---- some packets lead to a state without a running exchange or waiting command

abbrev PipeEnds : Agreed → Standing → Type 0
PipeEnds d w = (more : List Numbered) × (t : Standing) × PipeRun d w more t × Over t

then_ends : (d : Agreed) (w : Standing) (x : Numbered) (m : Standing) → Steps d w x m → PipeEnds d m → PipeEnds d w
then_ends d w x m e h = (x ∷ h.0, h.1, (m, e, h.2), h.3)

-- the running exchange ends, if the others do
abbrev Settles : Agreed → ℕ → ℕ → List Waiting → State → Type 0
Settles d i l q s = PipeEnds d (settle s i l q)

served_ends : (d : Agreed) (i l : ℕ) (q : List Waiting) (s : State) (p : List ℕ) (k : PacketKind) → rests s ≡ false → take_step d s Server p ≡ Some (k, state.Rest) → Settles d i l q state.Rest → Settles d i l q s
served_ends d i l q s p k rs e h =
    subst (λ w. PipeEnds d w) (sym (settle_stays s i l q (running_idle s rs)))
    (then_ends d (standing s i l q) (place Server p k i) (settle state.Rest i l q) (server_next d (standing s i l q) (place Server p k i) state.Rest (settle state.Rest i l q) refl e refl refl refl) h)

-- an OK packet ends a login, and an error ends another exchange
login_step : (d : Agreed) (b : Bool) → take_step d (state.Authentication true b) Server ok_bytes ≡ Some (kind.Ok, state.Rest)
login_step d b = rw (no_report d ok_bytes refl, ok_status_of d plain ok_bytes (ok_spelled d)) refl

each_settles : (d : Agreed) (i l : ℕ) (q : List Waiting) (s : State) → rests s ≡ false → Settles d i l q state.Rest → Settles d i l q s
each_settles d i l q s n h = elim (cases_Bool (is_login s)) [
  | inl e ↦ (let b = login_is s e in served_ends d i l q s ok_bytes kind.Ok n (subst (λ s. take_step d s Server ok_bytes ≡ Some (kind.Ok, state.Rest)) (sym b.1) (login_step d b.0)) h)
  | inr e ↦ served_ends d i l q s (0xff ∷ []) kind.Error n (rw (short_report d) (failed_no_report s ∙ error_rests s n e)) h
]

-- the exchanges of the waiting commands end, and the last command may be COM_QUIT
rest_settles : (d : Agreed) (i l : ℕ) (q : List Waiting) → OnlyLast q → Settles d i l q state.Rest
rest_settles d i l [] o = ([], standing state.Rest i l [], refl, (refl, refl))
rest_settles d i l (n ∷ q) o = elim (begin_due n.command) [
  | inl e ↦ subst (λ s. Settles d n.number l q s) (sym e) (rest_settles d n.number l q o.1)
  | inr (inr e) ↦ each_settles d n.number l q (begin n.command) (due_runs (begin n.command) e).0 (rest_settles d n.number l q o.1)
  | inr (inl e) ↦ (let none : q ≡ [] = o.0 e in let shut : is_shut (begin n.command) ≡ true = begin_shut n.command ∙ e in
      subst (λ q. Settles d n.number l q (begin n.command)) (sym none) ([], standing (begin n.command) n.number l [], refl, (shut_rests (begin n.command) shut, refl)))
]
  where
    shut_rests : (s : State) → is_shut s ≡ true → rests s ≡ true
    shut_rests state.Clone h = refl
    shut_rests state.Quit h = refl
    shut_rests state.Over h = refl
    shut_rests _ h = absurd cc

standing_ends_at : (d : Agreed) (s : State) (i l : ℕ) (q : List Waiting) → (rests s ≡ true) ⊎ (rests s ≡ false) → Sound (standing s i l q) → PipeEnds d (standing s i l q)
standing_ends_at d s i l q (inl e) k = ([], standing s i l q, refl, (e, k.0 (rests_no_due s e)))
  where
    rests_no_due : (s : State) → rests s ≡ true → is_due s ≡ false
    rests_no_due s e = elim (cases_Bool (is_due s)) [
      | inl g ↦ (let no = (due_runs s g).0 in absurd cc)
      | inr g ↦ g
    ]
standing_ends_at d s i l q (inr n) k = subst (λ w. PipeEnds d w) (settle_stays s i l q (running_idle s n)) (each_settles d i l q s n (rest_settles d i l q k.1))

standing_ends : (d : Agreed) (w : Standing) → Sound w → PipeEnds d w
standing_ends d w k = standing_ends_at d w.state w.number w.last w.waiting (which_rests w.state) k

-- ---- the beginning of a pipelined conversation

pub run_is_beginning : (d : Agreed) (o : InitialPhase) (items : List Numbered) (t : Standing) → PipeRun d (start o) items t → IsPipelinedBeginning d o items
run_is_beginning d o items t r =
    let h = standing_ends d t (run_sound d (start o) items t (start_sound o) r) in
    (h.0, run_is_pipelined d o (items ++ h.0) h.1 (join (Steps d) (start o) items t h.0 h.1 r h.2) h.3)

pub beginning_runs : (d : Agreed) (o : InitialPhase) (items : List Numbered) → IsPipelinedBeginning d o items → (t : Standing) × PipeRun d (start o) items t
beginning_runs d o items h =
    let g = pipelined_runs d o (items ++ h.0) h.1 in
    let r = part (Steps d) (start o) items h.0 g.0 g.1 in
    (r.0, r.1)

-- the machine has one state after a packet
pub one_standing : (d : Agreed) (w : Standing) (x : Numbered) (m n : Standing) → Steps d w x m → Steps d w x n → m ≡ n
one_standing d w x m n e f = ap (λ (o : Outcome). o.2) (some_is (sym e ∙ f))

-- if a packet is refused, the list with it is no beginning under any kind and number
pub pipe_refused : (d : Agreed) (o : InitialPhase) (items : List Numbered) (w : Standing) (x : Numbered) → PipeRun d (start o) items w → step_of d w x ≡ None → IsPipelinedBeginning d o (items ++ x ∷ []) → ⊥
pipe_refused d o items w x r e h =
    let b = beginning_runs d o (items ++ x ∷ []) h in
    let p = part (Steps d) (start o) items (x ∷ []) b.0 b.1 in
    let same : p.0 ≡ w = once (Steps d) (one_standing d) (start o) items p.0 w p.1 r in
    let q : step_of d p.0 x ≡ Some (x.packet.kind, x.number, p.2.0) = p.2.1 in
    let none : step_of d p.0 x ≡ None = subst (λ w. step_of d w x ≡ None) (sym same) e in
    absurd (cc (q, none))

-- ---- no exchange runs, and one more packet

pub pipe_at_rest : (d : Agreed) (o : InitialPhase) (items : List Numbered) (w : Standing) → PipeRun d (start o) items w → IsPipelined d o items → Over w
pipe_at_rest d o items w r h =
    let g = pipelined_runs d o items h in
    subst (λ w. Over w) (once (Steps d) (one_standing d) (start o) items g.0 w g.1 r) g.2

pub pipe_one_more : (d : Agreed) (o : InitialPhase) (items : List Numbered) (w : Standing) (side : Side) (p : List ℕ) (k : PacketKind) (n : ℕ) (m : Standing) → PipeRun d (start o) items w → pipe_step d w side p ≡ Some (k, n, m) → PipeRun d (start o) (items ++ place side p k n ∷ []) m
pipe_one_more d o items w side p k n m r e = join (Steps d) (start o) items w (place side p k n ∷ []) m r (m, e, refl)

-- an accepted step continues the accepted packets
pub pipe_comes : (d : Agreed) (o : InitialPhase) (items : List Numbered) (w : Standing) (side : Side) (p : List ℕ) (r : Option Outcome) → PipeRun d (start o) items w → pipe_step d w side p ≡ r → r ≢ None
    → (k : PacketKind) × (n : ℕ) × IsPipelinedBeginning d o (items ++ place side p k n ∷ [])
pipe_comes d o items w side p None run e h = absurd (h refl)
pipe_comes d o items w side p (Some x) run e h = (x.0, x.1, run_is_beginning d o (items ++ place side p x.0 x.1 ∷ []) x.2 (pipe_one_more d o items w side p x.0 x.1 x.2 run e))

-- the earlier packets determine a packet's kind and exchange
pub pipe_one_kind : (d : Agreed) (o : InitialPhase) (items : List Numbered) (side : Side) (p : List ℕ) (j k : PacketKind) (m n : ℕ)
    → IsPipelinedBeginning d o (items ++ place side p j m ∷ []) → IsPipelinedBeginning d o (items ++ place side p k n ∷ []) → (j ≡ k) × (m ≡ n)
pipe_one_kind d o items side p j k m n g h =
    let b = beginning_runs d o (items ++ place side p j m ∷ []) g in
    let c = beginning_runs d o (items ++ place side p k n ∷ []) h in
    let x = part (Steps d) (start o) items (place side p j m ∷ []) b.0 b.1 in
    let y = part (Steps d) (start o) items (place side p k n ∷ []) c.0 c.1 in
    let same : x.0 ≡ y.0 = once (Steps d) (one_standing d) (start o) items x.0 y.0 x.1 y.1 in
    let u : pipe_step d y.0 side p ≡ Some (j, m, x.2.0) = subst (λ s. pipe_step d s side p ≡ Some (j, m, x.2.0)) same x.2.1 in
    let o = some_is (sym u ∙ y.2.1) in
    (ap (λ (o : Outcome). o.0) o, ap (λ (o : Outcome). o.1) o)

-- ---- a conversation without pipelined commands

numbered_packets : (n : ℕ) (items : List Packet) → packets (numbered n items) ≡ items
numbered_packets n [] = refl
numbered_packets n (x ∷ xs) = ap (λ xs. x ∷ xs) (numbered_packets (counted n x) xs)

numbered_are : (n : ℕ) (items : List Packet) → AreNumbered n (numbered n items)
numbered_are n [] = tt
numbered_are n (x ∷ xs) = (refl, numbered_are (counted n x) xs)

early_same : (b : Bool) (items : List Numbered) → Early b items items
early_same b [] = refl
early_same b (x ∷ xs) = inl (xs, refl, early_same (asks x.packet.kind) xs)

pub conversation_is_pipelined : (d : Agreed) (o : InitialPhase) (items : List Packet) → IsConversation d o items → IsPipelined d o (numbered 0 items)
conversation_is_pipelined d o items h = (numbered 0 items, subst (λ xs. IsConversation d o xs) (sym (numbered_packets 0 items)) h, numbered_are 0 items, early_same false (numbered 0 items))

-- ---- the results of the calls

pub none_waits : (q : List Waiting) → waits q ≡ false → q ≡ []
none_waits [] h = refl
none_waits (n ∷ q) h = absurd cc

pub lift_ok : {A E : Type 0} {P Q : A → Type 0} (r : Result A E) → ((x : A) → P x → Q x) → IfOk r P → IfOk r Q
lift_ok (Ok x) f h = f x h
lift_ok (Err e) f h = tt

pub lift_err : {A E : Type 0} {P Q : E → Type 0} (r : Result A E) → ((x : E) → P x → Q x) → IfErr r P → IfErr r Q
lift_err (Ok x) f h = tt
lift_err (Err e) f h = f e h

-- the agreement and the initial phase are unchanged
pub run_stays : (d e : Agreed) (o q : InitialPhase) (xs : List Numbered) (t : Standing) → e ≡ d → q ≡ o → PipeRun d (start o) xs t → PipeRun e (start q) xs t
run_stays d e o q xs t a b r = subst (λ e. PipeRun e (start q) xs t) (sym a) (subst (λ q. PipeRun d (start q) xs t) (sym b) r)
