-- The steps of a pipeline.
use Rattle.mysql_conversation.specs.Agreements.{Agreed}
use Rattle.std.proofs.Common.{◌≡◌, ℕ, ◌+◌, List, [], ◌∷◌, ◌++◌, ◌⊎◌, inl, inr, Option, Some, None, refl, sym, ap, subst, ◌∙◌, Bool, true, false, cond}
use Rattle.std.specs.Prelude.{◌&&◌, ◌||◌}
use Rattle.std.proofs.lemmas.Bool.{and_parts, cases_Bool}
use Rattle.mysql_conversation.specs.Conversation.{commands}
use Rattle.mysql_conversation.specs.Machine.{take_step, rests, is_rest, is_shut, listens, is_due}
use Rattle.mysql_conversation.specs.Pipelined.{Numbered, is_client, is_command}
use Rattle.mysql_conversation.specs.Standing.{Standing, standing, command_of, kind_of, begin, wait, waits, is_quit, quits, settle, push, early, aside, in_turn, served, pipe_step, Steps, PipeRun}
use Rattle.mysql_conversation.proofs.Classes.{some_is, chosen}
use Rattle.mysql_conversation.proofs.States.{Turn, turn, due_runs, idle_is, running_idle, running_shut, shut_idle}
use Rattle.mysql_conversation.proofs.Turns.{command_step, rest_step_is, kind_is_command, begin_listens, begin_shut, running_kind, no_aside}
use Rattle.mysql_conversation.specs.declared.packet_kind.PacketKind.{PacketKind}
use Rattle.mysql_conversation.specs.declared.packet_kind.Side.{Side}
use Rattle.mysql_conversation.specs.declared.packet_kind.Side.TheVariants.{Client, Server}
use Rattle.mysql_conversation.specs.declared.state.State.{State}
use Rattle.mysql_conversation.specs.declared.state.State.TheVariants as state
use Rattle.mysql_conversation.specs.declared.state.Answer.{Answer}
use Rattle.mysql_conversation.specs.declared.state.Answer.TheVariants as answer
use Rattle.mysql_conversation.specs.declared.state.Command.{Command}
use Rattle.mysql_conversation.specs.declared.pipeline.Waiting.{Waiting}

abbrev pub Outcome : Type 0
Outcome = PacketKind × ℕ × Standing

abbrev pub outcome : PacketKind → ℕ → Standing → Option Outcome
outcome k n w = Some (k, n, w)

-- no exchange is running, and no command is waiting
abbrev pub Over : Standing → Type 0
Over t = (rests t.state ≡ true) × (t.waiting ≡ [])

-- while commands wait, no packet leads to this state
abbrev pub stops : State → Bool
stops m = listens m || is_shut m

pub no_stop : (m : State) → listens m ≡ false → is_shut m ≡ false → stops m ≡ false
no_stop m l h = rw (l, h) refl

pub stop_parts : (m : State) → stops m ≡ false → (listens m ≡ false) × (is_shut m ≡ false)
stop_parts m h = elim (cases_Bool (listens m)) [
  | inl l ↦ (let no : stops m ≡ true = rw l refl in absurd cc)
  | inr l ↦ (l, sym (ap (λ b. b || is_shut m) l) ∙ h)
]

pub not_both : (x y : Bool) → (x && y) ≡ false → y ≡ true → x ≡ false
not_both true y h e = absurd cc
not_both false y h e = refl

client_is : (s : Side) → is_client s ≡ true → s ≡ Client
client_is Client h = refl
client_is Server h = absurd cc

pub side_is : (s : Side) → (s ≡ Client) ⊎ (s ≡ Server)
side_is Client = inl refl
side_is Server = inr refl

pub waits_more : (q : List Waiting) (n : Waiting) → waits (q ++ n ∷ []) ≡ true
waits_more [] n = refl
waits_more (m ∷ q) n = refl

-- ---- exchanges that begin

-- a command that is accepted: it waits, or its exchange begins
abbrev pub after : Standing → Command → Standing
after w c = cond (is_due w.state) (push w c) (standing (begin c) (w.last + 1) (w.last + 1) w.waiting)

settle_at_rest : (m : State) (i l : ℕ) (n : Waiting) (q : List Waiting) → m ≡ state.Rest → settle m i l (n ∷ q) ≡ settle (begin n.command) n.number l q
settle_at_rest m i l n q e = ap (λ m. settle m i l (n ∷ q)) e

pub settle_stays : (m : State) (i l : ℕ) (q : List Waiting) → is_rest m ≡ false → settle m i l q ≡ standing m i l q
settle_stays m i l [] h = refl
settle_stays m i l (n ∷ q) h = rw h refl

-- a command after the waiting ones, if it may come
-- a packet of the server that changes no state and ends nothing
pub served_stays : (a : Agreed) (w : Standing) (p : List ℕ) (k : PacketKind) → take_step a w.state Server p ≡ Some (k, w.state) → listens w.state ≡ false → is_shut w.state ≡ false → is_rest w.state ≡ false
    → pipe_step a w Server p ≡ Some (k, w.number, w)
served_stays a w p k h l s i =
    ap (served w) h
    ∙ ap (λ b. cond (b && waits w.waiting) None (Some (k, w.number, settle w.state w.number w.last w.waiting))) (ap (λ b. b || is_shut w.state) l ∙ s)
    ∙ ap (λ v. Some (k, w.number, v)) (settle_stays w.state w.number w.last w.waiting i)

settle_more_at : (m : State) (i l : ℕ) (q : List Waiting) (c : Command) → Turn m → listens m ≡ false → is_shut (settle m i l q).state ≡ false → settle m i (l + 1) (q ++ wait c (l + 1) ∷ []) ≡ after (settle m i l q) c
settle_more_at m i l [] c (inl e) h u = rw e refl
settle_more_at m i l [] c (inr (inl a)) h u = absurd cc
settle_more_at m i l [] c (inr (inr (inl a))) h u = rw (a.0, running_idle m a.1) refl
settle_more_at m i l [] c (inr (inr (inr a))) h u = absurd cc
settle_more_at m i l (n ∷ q) c (inl e) h u =
    let v : is_shut (settle (begin n.command) n.number l q).state ≡ false = ap (λ (w : Standing). is_shut w.state) (sym (settle_at_rest m i l n q e)) ∙ u in
    rw e (settle_more_at (begin n.command) n.number l q c (turn (begin n.command)) (begin_listens n.command) v)
settle_more_at m i l (n ∷ q) c (inr (inl a)) h u = absurd cc
settle_more_at m i l (n ∷ q) c (inr (inr (inl a))) h u = rw (running_idle m a.1, a.0) refl
settle_more_at m i l (n ∷ q) c (inr (inr (inr a))) h u =
    let no : is_shut m ≡ false = ap (λ (w : Standing). is_shut w.state) (sym (settle_stays m i l (n ∷ q) (shut_idle m a.0))) ∙ u in absurd cc

pub settle_more : (m : State) (i l : ℕ) (q : List Waiting) (c : Command) → listens m ≡ false → is_shut (settle m i l q).state ≡ false → settle m i (l + 1) (q ++ wait c (l + 1) ∷ []) ≡ after (settle m i l q) c
settle_more m i l q c h u = settle_more_at m i l q c (turn m) h u

pub settle_last : (m : State) (i l : ℕ) (q : List Waiting) → (settle m i l q).last ≡ l
settle_last m i l [] = refl
settle_last m i l (n ∷ q) = elim (cases_Bool (is_rest m)) [
  | inl e ↦ rw e (settle_last (begin n.command) n.number l q)
  | inr e ↦ rw e refl
]

-- no other command is COM_QUIT
pub quit_is : (r : Answer) → (r ≡ answer.Quit → ⊥) → is_quit r ≡ false
quit_is answer.Quit h = absurd (h refl)
quit_is _ h = refl

-- the last waiting command
pub quits_last : (q : List Waiting) (n : Waiting) → quits (q ++ n ∷ []) ≡ is_quit n.command.answer
quits_last [] n = refl
quits_last (k ∷ []) n = refl
quits_last (k ∷ m ∷ q) n = quits_last (m ∷ q) n

-- removing waiting commands doesn't change whether the client is asked
pub settle_listens : (m : State) (i l : ℕ) (q : List Waiting) → listens (settle m i l q).state ≡ listens m
settle_listens m i l [] = refl
settle_listens m i l (n ∷ q) = elim (cases_Bool (is_rest m)) [
  | inl e ↦ rw e (settle_listens (begin n.command) n.number l q ∙ begin_listens n.command ∙ sym (ap listens (idle_is m e)))
  | inr e ↦ rw e refl
]

-- once the connection is over, no command comes
pub settle_shut : (m : State) (i l : ℕ) (q : List Waiting) → is_shut m ≡ true → is_shut (settle m i l q).state ≡ true
settle_shut m i l q h = ap (λ (w : Standing). is_shut w.state) (settle_stays m i l q (shut_idle m h)) ∙ h

-- if a command may come next, none is waiting
pub settle_idle : (m : State) (i l : ℕ) (q : List Waiting) → is_rest (settle m i l q).state ≡ true → (settle m i l q).waiting ≡ []
settle_idle m i l [] h = refl
settle_idle m i l (n ∷ q) h = elim (cases_Bool (is_rest m)) [
  | inl e ↦ (let r = settle_at_rest m i l n q (idle_is m e) in
      ap (λ (w : Standing). w.waiting) r ∙ settle_idle (begin n.command) n.number l q (ap (λ (w : Standing). is_rest w.state) (sym r) ∙ h))
  | inr e ↦ (let no : is_rest m ≡ true = ap (λ (w : Standing). is_rest w.state) (sym (settle_stays m i l (n ∷ q) e)) ∙ h in absurd cc)
]

-- a waiting COM_QUIT stays waiting, or the connection is over
pub settle_quits : (m : State) (i l : ℕ) (q : List Waiting) → quits q ≡ true → (quits (settle m i l q).waiting ≡ true) ⊎ (is_shut (settle m i l q).state ≡ true)
settle_quits m i l [] h = absurd cc
settle_quits m i l (n ∷ []) h = elim (cases_Bool (is_rest m)) [
  | inl e ↦ inr (ap (λ (w : Standing). is_shut w.state) (settle_at_rest m i l n [] (idle_is m e)) ∙ begin_shut n.command ∙ h)
  | inr e ↦ inl (ap (λ (w : Standing). quits w.waiting) (settle_stays m i l (n ∷ []) e) ∙ h)
]
settle_quits m i l (n ∷ k ∷ q) h = elim (cases_Bool (is_rest m)) [
  | inl e ↦ (let z = settle_at_rest m i l n (k ∷ q) (idle_is m e) in
      elim (settle_quits (begin n.command) n.number l (k ∷ q) h) [
        | inl a ↦ inl (ap (λ (w : Standing). quits w.waiting) z ∙ a)
        | inr a ↦ inr (ap (λ (w : Standing). is_shut w.state) z ∙ a)
      ])
  | inr e ↦ inl (ap (λ (w : Standing). quits w.waiting) (settle_stays m i l (n ∷ k ∷ q) e) ∙ h)
]

-- ---- waiting commands

-- COM_QUIT is the last command
abbrev pub OnlyLast : List Waiting → Type 0
OnlyLast [] = Unit {0}
OnlyLast (n ∷ q) = (is_quit n.command.answer ≡ true → q ≡ []) × OnlyLast q

pub only_more : (q : List Waiting) (n : Waiting) → OnlyLast q → quits q ≡ false → OnlyLast (q ++ n ∷ [])
only_more [] n h g = ((λ e. refl), tt)
only_more (k ∷ []) n h g = ((λ e. absurd cc), ((λ e. refl), tt))
only_more (k ∷ m ∷ q) n h g = ((λ e. let no = h.0 e in absurd cc), only_more (m ∷ q) n h.1 g)

tail_quits : (n : Waiting) (q : List Waiting) → quits (n ∷ q) ≡ false → quits q ≡ false
tail_quits n [] h = refl
tail_quits n (k ∷ q) h = h

head_quits : (n : Waiting) (q : List Waiting) → OnlyLast (n ∷ q) → quits (n ∷ q) ≡ false → is_quit n.command.answer ≡ false
head_quits n [] o h = h
head_quits n (k ∷ q) o h = elim (cases_Bool (is_quit n.command.answer)) [
  | inl e ↦ (let no = o.0 e in absurd cc)
  | inr e ↦ e
]

-- if COM_QUIT isn't waiting, it doesn't come next
abbrev pub Quiet : Standing → Type 0
Quiet w = (is_shut w.state ≡ false) × (quits w.waiting ≡ false) × OnlyLast w.waiting

pub settle_quiet : (m : State) (i l : ℕ) (q : List Waiting) → is_shut m ≡ false → quits q ≡ false → OnlyLast q → Quiet (settle m i l q)
settle_quiet m i l [] s h o = (s, refl, tt)
settle_quiet m i l (n ∷ q) s h o = elim (cases_Bool (is_rest m)) [
  | inl e ↦ subst (λ w. Quiet w) (sym (settle_at_rest m i l n q (idle_is m e)))
      (settle_quiet (begin n.command) n.number l q (begin_shut n.command ∙ head_quits n q o h) (tail_quits n q h) o.1)
  | inr e ↦ subst (λ w. Quiet w) (sym (settle_stays m i l (n ∷ q) e)) (s, h, o)
]

-- commands wait only at the server's turn
abbrev pub Sound : Standing → Type 0
Sound w = (is_due w.state ≡ false → w.waiting ≡ []) × OnlyLast w.waiting

no_wait : (m : State) (n : Waiting) (q : List Waiting) → (is_quit n.command.answer ≡ true → q ≡ []) → (stops (begin n.command) && waits q) ≡ false
no_wait m n q h = elim (cases_Bool (is_quit n.command.answer)) [
  | inl e ↦ ap (λ q. stops (begin n.command) && waits q) (h e) ∙ and_no (stops (begin n.command))
  | inr e ↦ ap (λ b. b && waits q) (no_stop (begin n.command) (begin_listens n.command) (begin_shut n.command ∙ e))
]
  where
    and_no : (b : Bool) → (b && false) ≡ false
    and_no true = refl
    and_no false = refl

pub settle_sound : (m : State) (i l : ℕ) (q : List Waiting) → (stops m && waits q) ≡ false → OnlyLast q → Sound (settle m i l q)
settle_sound m i l [] s o = ((λ h. refl), tt)
settle_sound m i l (n ∷ q) s o =
    let p = stop_parts m (not_both (stops m) true s refl) in
    elim (turn m) [
      | inl e ↦ subst (λ w. Sound w) (sym (settle_at_rest m i l n q e)) (settle_sound (begin n.command) n.number l q (no_wait m n q o.0) o.1)
      | inr (inl a) ↦ absurd cc
      | inr (inr (inl a)) ↦ subst (λ w. Sound w) (sym (settle_stays m i l (n ∷ q) (running_idle m a.1))) ((λ h. absurd cc), o)
      | inr (inr (inr a)) ↦ absurd cc
    ]

-- ---- steps and their results

pub served_back : (d : Agreed) (w : Standing) (p : List ℕ) (k : PacketKind) (n : ℕ) (v : Standing) (r : Option (PacketKind × State))
    → take_step d w.state Server p ≡ r → served w r ≡ outcome k n v
    → (m : State) × (take_step d w.state Server p ≡ Some (k, m)) × ((stops m && waits w.waiting) ≡ false) × (w.number ≡ n) × (settle m w.number w.last w.waiting ≡ v)
served_back d w p k n v None e h = absurd cc
served_back d w p k n v (Some x) e h = elim (chosen (stops x.1 && waits w.waiting) _ _ _ h) [
  | inl a ↦ absurd cc
  | inr a ↦ (let o = some_is a.1 in
      (x.1, e ∙ ap (λ (k : PacketKind). Some (k, x.1)) (ap (λ (o : Outcome). o.0) o), a.0, ap (λ (o : Outcome). o.1) o, ap (λ (o : Outcome). o.2) o))
]

pub server_back : (d : Agreed) (w : Standing) (x : Numbered) (v : Standing) → x.packet.from ≡ Server → Steps d w x v
    → (m : State) × (take_step d w.state Server x.packet.payload ≡ Some (x.packet.kind, m)) × ((stops m && waits w.waiting) ≡ false) × (w.number ≡ x.number) × (settle m w.number w.last w.waiting ≡ v)
server_back d w x v f h = served_back d w x.packet.payload x.packet.kind x.number v (take_step d w.state Server x.packet.payload) refl
    (subst (λ side. pipe_step d w side x.packet.payload ≡ outcome x.packet.kind x.number v) f h)

pub server_next : (d : Agreed) (w : Standing) (x : Numbered) (m : State) (v : Standing) → x.packet.from ≡ Server
    → take_step d w.state Server x.packet.payload ≡ Some (x.packet.kind, m) → (stops m && waits w.waiting) ≡ false → w.number ≡ x.number → settle m w.number w.last w.waiting ≡ v → Steps d w x v
server_next d w x m v f e h n z =
    let a : pipe_step d w x.packet.from x.packet.payload ≡ outcome x.packet.kind w.number (settle m w.number w.last w.waiting) = rw (f, e, h) refl in
    a ∙ ap (λ n. outcome x.packet.kind n (settle m w.number w.last w.waiting)) n ∙ ap (λ v. outcome x.packet.kind x.number v) z

-- the packet is this command
abbrev pub IsOf : Numbered → Command → Type 0
IsOf x c = (x.packet.from ≡ Client) × (command_of x.packet.payload ≡ Some c) × (kind_of c ≡ x.packet.kind)

pub taken_early : (d : Agreed) (w : Standing) (x : Numbered) (c : Command) → is_due w.state ≡ true → quits w.waiting ≡ false → IsOf x c → x.number ≡ w.last + 1 → Steps d w x (push w c)
taken_early d w x c sp nq h n =
    let a : pipe_step d w x.packet.from x.packet.payload ≡ outcome (kind_of c) (w.last + 1) (push w c) = rw (h.0, sp, no_aside d w.state x.packet.payload c sp h.1, h.1, nq) refl in
    a ∙ ap (λ k. outcome k (w.last + 1) (push w c)) h.2 ∙ ap (λ n. outcome x.packet.kind n (push w c)) (sym n)

pub rest_step : (d : Agreed) (i l : ℕ) (q : List Waiting) (p : List ℕ) (c : Command) → command_of p ≡ Some c
    → pipe_step d (standing state.Rest i l q) Client p ≡ outcome (kind_of c) (l + 1) (standing (begin c) (l + 1) (l + 1) q)
rest_step d i l q p c e = ap (λ r. in_turn (standing state.Rest i l q) r) (rest_step_is d p) ∙ ap (λ r. in_turn (standing state.Rest i l q) (command_step r)) e

pub taken_at_rest : (d : Agreed) (w : Standing) (x : Numbered) (c : Command) → w.state ≡ state.Rest → IsOf x c → x.number ≡ w.last + 1
    → Steps d w x (standing (begin c) (w.last + 1) (w.last + 1) w.waiting)
taken_at_rest d w x c s h n =
    let v = standing (begin c) (w.last + 1) (w.last + 1) w.waiting in
    let a : pipe_step d w Client x.packet.payload ≡ outcome (kind_of c) (w.last + 1) v =
    subst (λ s. pipe_step d (standing s w.number w.last w.waiting) Client x.packet.payload ≡ outcome (kind_of c) (w.last + 1) v) (sym s) (rest_step d w.number w.last w.waiting x.packet.payload c h.1) in
    let b : pipe_step d w x.packet.from x.packet.payload ≡ outcome (kind_of c) (w.last + 1) v = subst (λ side. pipe_step d w side x.packet.payload ≡ outcome (kind_of c) (w.last + 1) v) (sym h.0) a in
    b ∙ ap (λ k. outcome k (w.last + 1) v) h.2 ∙ ap (λ n. outcome x.packet.kind n v) (sym n)

-- what a command says about its step
abbrev pub Began : Standing → List ℕ → PacketKind → ℕ → Standing → Type 0
Began w p k n v = (c : Command) × (command_of p ≡ Some c) × (kind_of c ≡ k) × (w.last + 1 ≡ n) × (after w c ≡ v)

began_early : (w : Standing) (p : List ℕ) (k : PacketKind) (n : ℕ) (v : Standing) (r : Option Command) → is_due w.state ≡ true → command_of p ≡ r → early w r ≡ outcome k n v → (quits w.waiting ≡ false) × Began w p k n v
began_early w p k n v None sp e h = absurd cc
began_early w p k n v (Some c) sp e h = elim (chosen (quits w.waiting) _ _ _ h) [
  | inl g ↦ absurd cc
  | inr g ↦ (let o = some_is g.1 in
      let a : after w c ≡ push w c = rw sp refl in
      (g.0, (c, e, ap (λ (o : Outcome). o.0) o, ap (λ (o : Outcome). o.1) o, a ∙ ap (λ (o : Outcome). o.2) o)))
]

began_at_rest : (i l : ℕ) (q : List Waiting) (p : List ℕ) (k : PacketKind) (n : ℕ) (v : Standing) (r : Option Command) → command_of p ≡ r → in_turn (standing state.Rest i l q) (command_step r) ≡ outcome k n v → Began (standing state.Rest i l q) p k n v
began_at_rest i l q p k n v None e h = absurd cc
began_at_rest i l q p k n v (Some c) e h =
    let o = some_is h in
    (c, e, ap (λ (o : Outcome). o.0) o, ap (λ (o : Outcome). o.1) o, ap (λ (o : Outcome). o.2) o)

-- what a packet of a file's content says
pub loaded_back : (d : Agreed) (w : Standing) (p : List ℕ) (k : PacketKind) (n : ℕ) (v : Standing) (r : Option (PacketKind × State))
    → is_rest w.state ≡ false → take_step d w.state Client p ≡ r → in_turn w r ≡ outcome k n v
    → (m : State) × (take_step d w.state Client p ≡ Some (k, m)) × (w.number ≡ n) × (standing m w.number w.last w.waiting ≡ v)
loaded_back d w p k n v None rs e h = absurd cc
loaded_back d w p k n v (Some x) rs e h =
    let g : outcome x.0 w.number (standing x.1 w.number w.last w.waiting) ≡ outcome k n v = subst (λ b. cond b (outcome x.0 (w.last + 1) (standing x.1 (w.last + 1) (w.last + 1) w.waiting)) (outcome x.0 w.number (standing x.1 w.number w.last w.waiting)) ≡ outcome k n v) rs h in
    let o = some_is g in
    (x.1, e ∙ ap (λ (k : PacketKind). Some (k, x.1)) (ap (λ (o : Outcome). o.0) o), ap (λ (o : Outcome). o.1) o, ap (λ (o : Outcome). o.2) o)

-- it is the client's turn, and no command comes early
pub client_turn : (d : Agreed) (w : Standing) (p : List ℕ) (o : Option Outcome) → is_due w.state ≡ false → pipe_step d w Client p ≡ o → in_turn w (take_step d w.state Client p) ≡ o
client_turn d w p o sp h = subst (λ b. cond b (aside w (take_step d w.state Client p) (command_of p)) (in_turn w (take_step d w.state Client p)) ≡ o) sp h

pub client_due : (d : Agreed) (w : Standing) (p : List ℕ) (o : Option Outcome) → is_due w.state ≡ true → pipe_step d w Client p ≡ o → aside w (take_step d w.state Client p) (command_of p) ≡ o
client_due d w p o sp h = subst (λ b. cond b (aside w (take_step d w.state Client p) (command_of p)) (in_turn w (take_step d w.state Client p)) ≡ o) sp h

pub client_rest : (d : Agreed) (w : Standing) (p : List ℕ) (k : PacketKind) (n : ℕ) (v : Standing) → w.state ≡ state.Rest → pipe_step d w Client p ≡ outcome k n v → Began w p k n v
client_rest d w p k n v e h =
    subst (λ s. Began (standing s w.number w.last w.waiting) p k n v) (sym e)
    (began_at_rest w.number w.last w.waiting p k n v (command_of p) refl
    (sym (ap (λ r. in_turn (standing state.Rest w.number w.last w.waiting) r) (rest_step_is d p)) ∙ subst (λ s. pipe_step d (standing s w.number w.last w.waiting) Client p ≡ outcome k n v) e h))

-- a command at the server's turn
pub command_due : (d : Agreed) (w : Standing) (p : List ℕ) (k : PacketKind) (n : ℕ) (v : Standing) (r : Option (PacketKind × State))
    → is_due w.state ≡ true → take_step d w.state Client p ≡ r → commands k ≡ true → aside w r (command_of p) ≡ outcome k n v → (quits w.waiting ≡ false) × Began w p k n v
command_due d w p k n v None sp e c h = began_early w p k n v (command_of p) sp refl h
command_due d w p k n v (Some x) sp e c h = elim (chosen (waits w.waiting) _ _ _ h) [
  | inl a ↦ absurd cc
  | inr a ↦ (let o : x.0 ≡ k = ap (λ (o : Outcome). o.0) (some_is a.1) in
      let no : commands x.0 ≡ false = running_kind d w.state p x.0 x.1 (due_runs w.state sp).0 e in absurd cc)
]

-- and another packet of the client
abbrev Aside : Agreed → Standing → List ℕ → PacketKind → ℕ → Standing → Type 0
Aside d w p k n v = (m : State) × (take_step d w.state Client p ≡ Some (k, m)) × (waits w.waiting ≡ false) × (w.number ≡ n) × (standing m w.number w.last w.waiting ≡ v)

pub aside_due : (d : Agreed) (w : Standing) (p : List ℕ) (k : PacketKind) (n : ℕ) (v : Standing) (r : Option (PacketKind × State))
    → is_due w.state ≡ true → take_step d w.state Client p ≡ r → commands k ≡ false → aside w r (command_of p) ≡ outcome k n v → Aside d w p k n v
aside_due d w p k n v None sp e c h =
    let b = (began_early w p k n v (command_of p) sp refl h).1 in
    let yes : commands k ≡ true = ap commands (sym b.2) ∙ kind_is_command b.0 in absurd cc
aside_due d w p k n v (Some x) sp e c h = elim (chosen (waits w.waiting) _ _ _ h) [
  | inl a ↦ absurd cc
  | inr a ↦ (let o = some_is a.1 in
      (x.1, e ∙ ap (λ (k : PacketKind). Some (k, x.1)) (ap (λ (o : Outcome). o.0) o), a.0, ap (λ (o : Outcome). o.1) o, ap (λ (o : Outcome). o.2) o))
]

-- a command is accepted if one may come
abbrev pub Taken : Standing → List ℕ → PacketKind → ℕ → Standing → Type 0
Taken w p k n v = Began w p k n v × (listens w.state ≡ false) × (is_shut w.state ≡ false) × ((is_rest w.state ≡ true) ⊎ (quits w.waiting ≡ false))

-- once the connection is over, the client sends no command
pub shut_kind : (d : Agreed) (s : State) (p : List ℕ) (k : PacketKind) (m : State) → is_shut s ≡ true → take_step d s Client p ≡ Some (k, m) → commands k ≡ false
shut_kind d state.Clone p k m h e = ap (λ (x : PacketKind × State). commands x.0) (some_is (sym e))
shut_kind d _ p k m h e = absurd cc

command_back_at : (d : Agreed) (w : Standing) (p : List ℕ) (k : PacketKind) (n : ℕ) (v : Standing) → Turn w.state → commands k ≡ true → pipe_step d w Client p ≡ outcome k n v → Taken w p k n v
command_back_at d w p k n v (inl e) c h = (client_rest d w p k n v e h, ap listens e, ap is_shut e, inl (ap is_rest e))
command_back_at d w p k n v (inr (inl a)) c h =
    let b = loaded_back d w p k n v (take_step d w.state Client p) (running_idle w.state a.1) refl (client_turn d w p (outcome k n v) a.2 h) in
    let no : commands k ≡ false = running_kind d w.state p k b.0 a.1 b.1 in absurd cc
command_back_at d w p k n v (inr (inr (inl a))) c h =
    let b = command_due d w p k n v (take_step d w.state Client p) a.0 refl c (client_due d w p (outcome k n v) a.0 h) in
    (b.1, a.2, running_shut w.state a.1, inr b.0)
command_back_at d w p k n v (inr (inr (inr a))) c h =
    let b = loaded_back d w p k n v (take_step d w.state Client p) (shut_idle w.state a.0) refl (client_turn d w p (outcome k n v) a.3 h) in
    let no : commands k ≡ false = shut_kind d w.state p k b.0 a.0 b.1 in absurd cc

pub by_client : (d : Agreed) (w : Standing) (x : Numbered) (v : Standing) → x.packet.from ≡ Client → Steps d w x v → pipe_step d w Client x.packet.payload ≡ outcome x.packet.kind x.number v
by_client d w x v f h = subst (λ side. pipe_step d w side x.packet.payload ≡ outcome x.packet.kind x.number v) f h

pub command_back : (d : Agreed) (w : Standing) (x : Numbered) (v : Standing) → is_command x.packet ≡ true → Steps d w x v
    → (x.packet.from ≡ Client) × Taken w x.packet.payload x.packet.kind x.number v
command_back d w x v h e =
    let b = and_parts (is_client x.packet.from) (commands x.packet.kind) h in
    let f : x.packet.from ≡ Client = client_is x.packet.from b.0 in
    (f, command_back_at d w x.packet.payload x.packet.kind x.number v (turn w.state) b.1 (by_client d w x v f e))

-- ---- waiting commands after each step

step_sound_client : (d : Agreed) (w : Standing) (p : List ℕ) (k : PacketKind) (n : ℕ) (v : Standing) → Turn w.state → Sound w → pipe_step d w Client p ≡ outcome k n v → Sound v
step_sound_client d w p k n v (inl e) s h =
    let b = client_rest d w p k n v e h in
    let none : w.waiting ≡ [] = s.0 (ap is_due e) in
    let a : after w b.0 ≡ standing (begin b.0) (w.last + 1) (w.last + 1) w.waiting = rw (ap is_due e) refl in
    subst (λ v. Sound v) (sym a ∙ b.4) ((λ g. none), s.1)
step_sound_client d w p k n v (inr (inl t)) s h =
    let b = loaded_back d w p k n v (take_step d w.state Client p) (running_idle w.state t.1) refl (client_turn d w p (outcome k n v) t.2 h) in
    subst (λ v. Sound v) b.3 ((λ g. s.0 t.2), s.1)
step_sound_client d w p k n v (inr (inr (inl t))) s h = elim (cases_Bool (commands k)) [
  | inl c ↦ (let b = command_due d w p k n v (take_step d w.state Client p) t.0 refl c (client_due d w p (outcome k n v) t.0 h) in
      let a : after w b.1.0 ≡ push w b.1.0 = rw t.0 refl in
      subst (λ v. Sound v) (sym a ∙ b.1.4) ((λ g. absurd cc), only_more w.waiting (wait b.1.0 (w.last + 1)) s.1 b.0))
  | inr c ↦ (let b = aside_due d w p k n v (take_step d w.state Client p) t.0 refl c (client_due d w p (outcome k n v) t.0 h) in
      subst (λ v. Sound v) b.4 ((λ g. nothing_waits w.waiting b.2), s.1))
]
  where
    nothing_waits : (q : List Waiting) → waits q ≡ false → q ≡ []
    nothing_waits [] h = refl
    nothing_waits (n ∷ q) h = absurd cc
step_sound_client d w p k n v (inr (inr (inr t))) s h =
    let b = loaded_back d w p k n v (take_step d w.state Client p) (shut_idle w.state t.0) refl (client_turn d w p (outcome k n v) t.3 h) in
    subst (λ v. Sound v) b.3 ((λ g. s.0 t.3), s.1)

pub step_sound : (d : Agreed) (w : Standing) (x : Numbered) (v : Standing) → Sound w → Steps d w x v → Sound v
step_sound d w x v s h = elim (side_is x.packet.from) [
  | inl f ↦ step_sound_client d w x.packet.payload x.packet.kind x.number v (turn w.state) s (by_client d w x v f h)
  | inr f ↦ (let b = server_back d w x v f h in subst (λ v. Sound v) b.4 (settle_sound b.0 w.number w.last w.waiting b.2 s.1))
]

pub run_sound : (d : Agreed) (w : Standing) (items : List Numbered) (t : Standing) → Sound w → PipeRun d w items t → Sound t
run_sound d w [] t s r = subst (λ w. Sound w) r s
run_sound d w (x ∷ items) t s r = run_sound d r.0 items t (step_sound d w x r.0 s r.1) r.2
