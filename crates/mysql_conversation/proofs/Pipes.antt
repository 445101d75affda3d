-- Pipelined commands, and the machine with waiting commands.
use Rattle.mysql_conversation.specs.Agreements.{Agreed}
use Rattle.std.proofs.Common.{◌≡◌, ℕ, ◌+◌, List, [], ◌∷◌, ◌++◌, ◌⊎◌, inl, inr, Some, refl, sym, ap, subst, ◌∙◌, Bool, true, false}
use Rattle.std.specs.Prelude.{◌&&◌, not}
use Rattle.std.proofs.lemmas.Bool.{and_parts, cases_Bool, not-true}
use Rattle.mysql_conversation.specs.Conversation.{Packet}
use Rattle.mysql_conversation.specs.Conversation.{asks, commands, inside}
use Rattle.mysql_conversation.specs.Machine.{take_step, Takes, rests, is_rest, is_shut, listens, is_due}
use Rattle.mysql_conversation.specs.Taken.{packet}
use Rattle.mysql_conversation.specs.Pipelined.{Numbered, packets, is_client, is_command, counted, AreNumbered, passes, ArePassed, Early}
use Rattle.mysql_conversation.specs.Standing.{Standing, standing, kind_of, begin, wait, waits, quits, settle, push, pipe_step, Steps, PipeRun}
use Rattle.mysql_conversation.proofs.States.{Turn, turn, due_of, due_runs, running_idle, shut_idle, take_listens, inside_command}
use Rattle.mysql_conversation.proofs.Turns.{kind_is_command, begin_listens, running_kind, command_kind, rest_plain}
use Rattle.mysql_conversation.specs.declared.packet_kind.PacketKind.{PacketKind}
use Rattle.mysql_conversation.specs.declared.packet_kind.PacketKind.TheVariants as kind
use Rattle.mysql_conversation.specs.declared.packet_kind.Side.{Side}
use Rattle.mysql_conversation.specs.declared.packet_kind.Side.TheVariants.{Client, Server}
use Rattle.mysql_conversation.specs.declared.state.State.{State}
use Rattle.mysql_conversation.specs.declared.state.State.TheVariants as state
use Rattle.mysql_conversation.specs.declared.pipeline.Waiting.{Waiting}
use Rattle.mysql_conversation.specs.declared.state.Command.{Command}
use Rattle.mysql_conversation.proofs.PipeSteps.{outcome, Over, not_both, side_is, waits_more, after, settle_more, settle_last, settle_listens, settle_shut, settle_idle, settle_quits, settle_quiet, stops, no_stop, stop_parts, OnlyLast, Sound, step_sound, shut_kind, served_back, server_back, server_next, IsOf, taken_early, taken_at_rest, Began, loaded_back, client_turn, client_due, client_rest, command_due, aside_due, by_client, command_back}

-- ---- whether the client is asked

command_asks : (k : PacketKind) → commands k ≡ true → asks k ≡ false
command_asks (kind.Command code) h = refl
command_asks _ h = absurd cc

after_listens : (w : Standing) (c : Command) (k : PacketKind) (v : Standing) → listens w.state ≡ false → kind_of c ≡ k → after w c ≡ v → listens v.state ≡ asks k
after_listens w c k v l e h = elim (cases_Bool (is_due w.state)) [
  | inl sp ↦ (let a : push w c ≡ v = sym (after_early w c sp) ∙ h in ap (λ (w : Standing). listens w.state) (sym a) ∙ l ∙ sym (command_asks k (ap commands (sym e) ∙ kind_is_command c)))
  | inr sp ↦ (let a : standing (begin c) (w.last + 1) (w.last + 1) w.waiting ≡ v = after_rest w c sp ∙ h in ap (λ (w : Standing). listens w.state) (sym a) ∙ begin_listens c ∙ sym (command_asks k (ap commands (sym e) ∙ kind_is_command c)))
]
  where
    after_early : (w : Standing) (c : Command) → is_due w.state ≡ true → after w c ≡ push w c
    after_early w c h = rw h refl

    after_rest : (w : Standing) (c : Command) → is_due w.state ≡ false → standing (begin c) (w.last + 1) (w.last + 1) w.waiting ≡ after w c
    after_rest w c h = rw h refl

-- a packet in turn that begins no exchange
turn_listens : (d : Agreed) (w : Standing) (p : List ℕ) (k : PacketKind) (n : ℕ) (v : Standing) → is_rest w.state ≡ false → is_due w.state ≡ false → pipe_step d w Client p ≡ outcome k n v → listens v.state ≡ asks k
turn_listens d w p k n v i u h =
    let b = loaded_back d w p k n v (take_step d w.state Client p) i refl (client_turn d w p (outcome k n v) u h) in
    ap (λ (w : Standing). listens w.state) (sym b.3) ∙ (take_listens d w.state Client p k b.0 b.1).0

client_listens : (d : Agreed) (w : Standing) (p : List ℕ) (k : PacketKind) (n : ℕ) (v : Standing) → Turn w.state → pipe_step d w Client p ≡ outcome k n v → listens v.state ≡ asks k
client_listens d w p k n v (inl e) h =
    let b = client_rest d w p k n v e h in after_listens w b.0 k v (ap listens e) b.2 b.4
client_listens d w p k n v (inr (inl a)) h = turn_listens d w p k n v (running_idle w.state a.1) a.2 h
client_listens d w p k n v (inr (inr (inl a))) h = elim (cases_Bool (commands k)) [
  | inl c ↦ (let b = (command_due d w p k n v (take_step d w.state Client p) a.0 refl c (client_due d w p (outcome k n v) a.0 h)).1 in after_listens w b.0 k v a.2 b.2 b.4)
  | inr c ↦ (let b = aside_due d w p k n v (take_step d w.state Client p) a.0 refl c (client_due d w p (outcome k n v) a.0 h) in
      ap (λ (w : Standing). listens w.state) (sym b.4) ∙ (take_listens d w.state Client p k b.0 b.1).0)
]
client_listens d w p k n v (inr (inr (inr a))) h = turn_listens d w p k n v (shut_idle w.state a.0) a.3 h

-- a packet's kind says whether the client is asked after it
steps_listens : (d : Agreed) (w : Standing) (x : Numbered) (v : Standing) → Steps d w x v → listens v.state ≡ asks x.packet.kind
steps_listens d w x v h = elim (side_is x.packet.from) [
  | inl f ↦ client_listens d w x.packet.payload x.packet.kind x.number v (turn w.state) (by_client d w x v f h)
  | inr f ↦ (let b = server_back d w x v f h in
      ap (λ (w : Standing). listens w.state) (sym b.4) ∙ settle_listens b.0 w.number w.last w.waiting ∙ (take_listens d w.state Server x.packet.payload x.packet.kind b.0 b.1).0)
]

-- ---- a command that comes earlier

-- COM_QUIT isn't waiting at a packet that is followed by a command
none_quits : (m : State) (i l : ℕ) (q : List Waiting) → is_shut (settle m i l q).state ≡ false → (is_rest (settle m i l q).state ≡ true) ⊎ (quits (settle m i l q).waiting ≡ false) → quits q ≡ false
none_quits m i l q s h = elim (cases_Bool (quits q)) [
  | inr e ↦ e
  | inl e ↦ (let now : quits (settle m i l q).waiting ≡ false = elim h [ inl r ↦ ap quits (settle_idle m i l q r) | inr r ↦ r ] in
      elim (settle_quits m i l q e) [ inl a ↦ absurd cc | inr a ↦ absurd cc ])
]

none_shut : (m : State) (i l : ℕ) (q : List Waiting) → is_shut (settle m i l q).state ≡ false → is_shut m ≡ false
none_shut m i l q s = elim (cases_Bool (is_shut m)) [
  | inr e ↦ e
  | inl e ↦ (let no = settle_shut m i l q e in absurd cc)
]

swap : (d : Agreed) (w : Standing) (y x : Numbered) (u v : Standing) → listens w.state ≡ false → y.packet.from ≡ Server → passes y.packet.kind ≡ true → is_command x.packet ≡ true → Steps d w y u → Steps d u x v
    → (mid : Standing) × Steps d w x mid × Steps d mid y v
swap d w y x u v lw f ps cmd a b =
    let s = server_back d w y u f a in
    let m = s.0 in
    let z : settle m w.number w.last w.waiting ≡ u = s.4 in
    let cb = command_back d u x v cmd b in
    let c = cb.1.0.0 in
    let nl : listens m ≡ false = sym (settle_listens m w.number w.last w.waiting) ∙ ap (λ (w : Standing). listens w.state) z ∙ cb.1.1 in
    let su : is_shut (settle m w.number w.last w.waiting).state ≡ false = ap (λ (w : Standing). is_shut w.state) z ∙ cb.1.2 in
    let nq : quits w.waiting ≡ false = none_quits m w.number w.last w.waiting su (subst (λ (w : Standing). (is_rest w.state ≡ true) ⊎ (quits w.waiting ≡ false)) (sym z) cb.1.3) in
    let i : not (rests w.state) ≡ true = sym (take_listens d w.state Server y.packet.payload y.packet.kind m s.1).1 ∙ (and_parts (not (asks y.packet.kind)) (inside y.packet.kind) ps).1 in
    let sp : is_due w.state ≡ true = due_of w.state (not-true (rests w.state) i) lw in
    let lasts : w.last ≡ u.last = sym (settle_last m w.number w.last w.waiting) ∙ ap (λ (w : Standing). w.last) z in
    let n : x.number ≡ w.last + 1 = sym cb.1.0.3 ∙ ap (λ n. n + 1) (sym lasts) in
    let same : settle m w.number (w.last + 1) (w.waiting ++ wait c (w.last + 1) ∷ []) ≡ v =
    settle_more m w.number w.last w.waiting c nl su ∙ ap (λ w. after w c) z ∙ cb.1.0.4 in (
      push w c,
      taken_early d w x c sp nq (cb.0, cb.1.0.1, cb.1.0.2) n,
      server_next d (push w c) y m v f s.1 (ap (λ b. b && waits (push w c).waiting) (no_stop m nl (none_shut m w.number w.last w.waiting su))) s.3 same,
    )

passed_asks : (k : PacketKind) → passes k ≡ true → asks k ≡ false
passed_asks k h = not-true (asks k) (and_parts (not (asks k)) (inside k) h).0

sooner : (d : Agreed) (w : Standing) (x : Numbered) (front back : List Numbered) (t : Standing) → listens w.state ≡ false → is_command x.packet ≡ true → ArePassed front
    → PipeRun d w (front ++ x ∷ back) t → PipeRun d w (x ∷ front ++ back) t
sooner d w x [] back t l c f r = r
sooner d w x (y ∷ front) back t l c f r =
    let quiet : listens r.0.state ≡ false = steps_listens d w y r.0 r.1 ∙ passed_asks y.packet.kind f.1 in
    let h = sooner d r.0 x front back t quiet c f.2 r.2 in
    let s = swap d w y x r.0 h.0 l f.0 f.1 c r.1 h.1 in
    (s.0, s.1, (h.0, s.2, h.2))

command_kind_asks : (x : Packet) → is_command x ≡ true → asks x.kind ≡ false
command_kind_asks x h = command_asks x.kind (and_parts (is_client x.from) (commands x.kind) h).1

pub early_runs : (d : Agreed) (w : Standing) (b : Bool) (items others : List Numbered) (t : Standing) → listens w.state ≡ b → Early b items others → PipeRun d w others t → PipeRun d w items t
early_runs d w b [] others t l h r = subst (λ xs. PipeRun d w xs t) h r
early_runs d w b (x ∷ items) others t l (inl h) r =
    let q : PipeRun d w (x ∷ h.0) t = subst (λ xs. PipeRun d w xs t) h.1 r in
    (q.0, q.1, early_runs d q.0 (asks x.packet.kind) items h.0 t (steps_listens d w x q.0 q.1) h.2 q.2)
early_runs d w b (x ∷ items) others t l (inr h) r =
    let q : PipeRun d w (h.0 ++ x ∷ h.1) t = subst (λ xs. PipeRun d w xs t) h.4 r in
    let z = sooner d w x h.0 h.1 t (l ∙ h.6) h.2 h.3 q in
    (z.0, z.1, early_runs d z.0 false items (h.0 ++ h.1) t (steps_listens d w x z.0 z.1 ∙ command_kind_asks x.packet h.2) h.5 z.2)

-- ---- commands moved to their turn

-- no command comes at the server's turn
abbrev InTurn : Agreed → Standing → List Numbered → Standing → Type 0
InTurn d w [] t = w ≡ t
InTurn d w (x ∷ xs) t = (mid : Standing) × Steps d w x mid × (is_due w.state ≡ true → commands x.packet.kind ≡ false) × InTurn d mid xs t

rest_is : (s : State) → Turn s → listens s ≡ false → is_due s ≡ false → is_shut s ≡ false → s ≡ state.Rest
rest_is s (inl e) l p u = e
rest_is s (inr (inl a)) l p u = absurd cc
rest_is s (inr (inr (inl a))) l p u = absurd cc
rest_is s (inr (inr (inr a))) l p u = absurd cc

after_early : (w : Standing) (c : Command) → is_due w.state ≡ true → push w c ≡ after w c
after_early w c h = rw h refl

after_rest : (w : Standing) (c : Command) → is_due w.state ≡ false → standing (begin c) (w.last + 1) (w.last + 1) w.waiting ≡ after w c
after_rest w c h = rw h refl

-- after a waiting command, the client's packets are commands
server_then : (d : Agreed) (w : Standing) (c : Command) (y : Numbered) (v : Standing) → is_due w.state ≡ true → commands y.packet.kind ≡ false → Steps d (push w c) y v → y.packet.from ≡ Server
server_then d w c y v sp nc h = elim (side_is y.packet.from) [
  | inl f ↦ (let b = aside_due d (push w c) y.packet.payload y.packet.kind y.number v (take_step d w.state Client y.packet.payload) sp refl nc (client_due d (push w c) y.packet.payload (outcome y.packet.kind y.number v) sp (by_client d (push w c) y v f h)) in
      let some : waits (w.waiting ++ wait c (w.last + 1) ∷ []) ≡ true = waits_more w.waiting (wait c (w.last + 1)) in absurd (cc (b.2, some)))
  | inr f ↦ f
]

passed : (d : Agreed) (s : State) (p : List ℕ) (k : PacketKind) (m : State) → rests s ≡ false → listens m ≡ false → take_step d s Server p ≡ Some (k, m) → passes k ≡ true
passed d s p k m n l h =
    let t = take_listens d s Server p k m h in
    let a : asks k ≡ false = sym t.0 ∙ l in
    let i : inside k ≡ true = t.1 ∙ ap not n in
    rw (a, i) refl

-- a waiting command may come in its turn
later : (d : Agreed) (w : Standing) (c : Command) (x : Numbered) (others : List Numbered) (t : Standing) → is_due w.state ≡ true → quits w.waiting ≡ false → OnlyLast w.waiting → IsOf x c → x.number ≡ w.last + 1
    → InTurn d (push w c) others t → Over t
    → (front : List Numbered) × (back : List Numbered) × ArePassed front × (others ≡ front ++ back) × InTurn d w (front ++ x ∷ back) t
later d w c x [] t sp nq ol of n h o =
    let state : w.state ≡ t.state = ap (λ (t : Standing). t.state) h in
    let no : rests w.state ≡ true = ap rests state ∙ o.0 in
    let runs = (due_runs w.state sp).0 in absurd cc
later d w c x (y ∷ ys) t sp nq ol of n h o =
    let f : y.packet.from ≡ Server = server_then d w c y h.0 sp (h.2 sp) h.1 in
    let s = server_back d (push w c) y h.0 f h.1 in
    let m = s.0 in
    let stop = stop_parts m (not_both (stops m) (waits (w.waiting ++ wait c (w.last + 1) ∷ [])) s.2 (waits_more w.waiting (wait c (w.last + 1)))) in
    let nl : listens m ≡ false = stop.0 in
    let ps : passes y.packet.kind ≡ true = passed d w.state y.packet.payload y.packet.kind m (due_runs w.state sp).0 nl s.1 in
    let u = settle m w.number w.last w.waiting in
    let quiet = settle_quiet m w.number w.last w.waiting stop.1 nq ol in
    let st : Steps d w y u = server_next d w y m u f s.1 (ap (λ b. b && waits w.waiting) (no_stop m nl stop.1)) s.3 refl in
    let z : after u c ≡ h.0 = sym (settle_more m w.number w.last w.waiting c nl quiet.0) ∙ s.4 in
    let n' : x.number ≡ u.last + 1 = n ∙ ap (λ n. n + 1) (sym (settle_last m w.number w.last w.waiting)) in
    elim (cases_Bool (is_due u.state)) [
      | inl e ↦ (let r = later d u c x ys t e quiet.1 quiet.2 of n' (subst (λ w. InTurn d w ys t) (sym (after_early u c e ∙ z)) h.3) o in
          (y ∷ r.0, r.1, (f, ps, r.2), ap (λ xs. y ∷ xs) r.3, (u, st, h.2, r.4)))
      | inr e ↦ (let rest : u.state ≡ state.Rest = rest_is u.state (turn u.state) (settle_listens m w.number w.last w.waiting ∙ nl) e quiet.0 in
          let b : Steps d u x h.0 = subst (λ v. Steps d u x v) (after_rest u c e ∙ z) (taken_at_rest d u x c rest of n') in
          (y ∷ [], ys, (f, ps, tt), refl, (u, st, h.2, (h.0, b, (λ k. absurd cc), h.3))))
    ]

command_is : (x : Numbered) (c : Command) → IsOf x c → is_command x.packet ≡ true
command_is x c h = rw h.0 (ap commands (sym h.2) ∙ kind_is_command c)

-- a packet of the server is no command
server_kind : (d : Agreed) (w : Standing) (x : Numbered) (v : Standing) → rests w.state ≡ false → x.packet.from ≡ Server → Steps d w x v → commands x.packet.kind ≡ false
server_kind d w x v n f h =
    let b = server_back d w x v f h in
    inside_command x.packet.kind ((take_listens d w.state Server x.packet.payload x.packet.kind b.0 b.1).1 ∙ ap not n)

-- a pipelined command, or a packet in turn
abbrev CameEarly : Agreed → Standing → Numbered → Standing → Type 0
CameEarly d w x v = (is_due w.state ≡ true) × (x.packet.from ≡ Client) × (quits w.waiting ≡ false) × Began w x.packet.payload x.packet.kind x.number v

came : (d : Agreed) (w : Standing) (x : Numbered) (v : Standing) → Steps d w x v → CameEarly d w x v ⊎ (is_due w.state ≡ true → commands x.packet.kind ≡ false)
came d w x v h = elim (cases_Bool (is_due w.state)) [
  | inr sp ↦ inr (λ k. absurd cc)
  | inl sp ↦ elim (side_is x.packet.from) [
    | inr f ↦ inr (λ k. server_kind d w x v (due_runs w.state sp).0 f h)
    | inl f ↦ elim (cases_Bool (commands x.packet.kind)) [
      | inr c ↦ inr (λ k. c)
      | inl c ↦ (let b = command_due d w x.packet.payload x.packet.kind x.number v (take_step d w.state Client x.packet.payload) sp refl c (client_due d w x.packet.payload (outcome x.packet.kind x.number v) sp (by_client d w x v f h)) in
          inl (sp, f, b.0, b.1))
    ]
  ]
]

pub run_early : (d : Agreed) (w : Standing) (items : List Numbered) (t : Standing) → Sound w → PipeRun d w items t → Over t → (others : List Numbered) × Early (listens w.state) items others × InTurn d w others t
run_early d w [] t k r o = ([], refl, r)
run_early d w (x ∷ items) t k r o =
    let h = run_early d r.0 items t (step_sound d w x r.0 k r.1) r.2 o in
    let asked : listens r.0.state ≡ asks x.packet.kind = steps_listens d w x r.0 r.1 in
    elim (came d w x r.0 r.1) [
      | inl e ↦ (let sp = e.0 in let b = e.3 in
          let of : IsOf x b.0 = (e.1, b.1, b.2) in
          let l = later d w b.0 x h.0 t sp e.2 k.1 of (sym b.3) (subst (λ w. InTurn d w h.0 t) (sym (after_early w b.0 sp ∙ b.4)) h.2) o in
          let cmd = command_is x b.0 of in
          let g : Early false items h.0 = subst (λ b. Early b items h.0) (asked ∙ command_kind_asks x.packet cmd) h.1 in
          (l.0 ++ x ∷ l.1, inr (l.0, l.1, cmd, l.2, refl, subst (λ xs. Early false items xs) l.3 g, (due_runs w.state sp).1), l.4))
      | inr q ↦ (x ∷ h.0, inl (h.0, refl, subst (λ b. Early b items h.0) asked h.1), (r.0, r.1, q, h.2))
    ]

-- ---- the machine without waiting commands

abbrev alone : State → ℕ → Standing
alone s n = standing s n n []

abbrev Plainly : Agreed → State → ℕ → Packet → ℕ → Standing → Type 0
Plainly d s n x j v = (m : State) × (take_step d s x.from x.payload ≡ Some (x.kind, m)) × (j ≡ counted n x) × (alone m (counted n x) ≡ v)

-- a packet in turn that begins no exchange
plain_turn : (d : Agreed) (s : State) (n : ℕ) (p : List ℕ) (k : PacketKind) (j : ℕ) (v : Standing) → is_rest s ≡ false → is_due s ≡ false → ((m : State) → take_step d s Client p ≡ Some (k, m) → commands k ≡ false) → pipe_step d (alone s n) Client p ≡ outcome k j v → Plainly d s n (packet Client p k) j v
plain_turn d s n p k j v i u g h =
    let b = loaded_back d (alone s n) p k j v (take_step d s Client p) i refl (client_turn d (alone s n) p (outcome k j v) u h) in
    let ck : commands k ≡ false = g b.0 b.1 in
    (b.0, b.1, rw ck (sym b.2), rw ck b.3)

plain_client : (d : Agreed) (s : State) (n : ℕ) (p : List ℕ) (k : PacketKind) (j : ℕ) (v : Standing) → Turn s → pipe_step d (alone s n) Client p ≡ outcome k j v → (is_due s ≡ true → commands k ≡ false) → Plainly d s n (packet Client p k) j v
plain_client d s n p k j v (inl e) h t =
    let b = client_rest d (alone s n) p k j v e h in
    let st : take_step d s Client p ≡ Some (k, begin b.0) = rest_plain d s p b.0 k e b.1 b.2 in
    let ck : commands k ≡ true = ap commands (sym b.2) ∙ kind_is_command b.0 in
    let z : alone (begin b.0) (n + 1) ≡ v = after_rest (alone s n) b.0 (ap is_due e) ∙ b.4 in
    (begin b.0, st, rw ck (sym b.3), rw ck z)
plain_client d s n p k j v (inr (inl a)) h t = plain_turn d s n p k j v (running_idle s a.1) a.2 (λ m g. running_kind d s p k m a.1 g) h
plain_client d s n p k j v (inr (inr (inl a))) h t =
    let ck : commands k ≡ false = t a.0 in
    let b = aside_due d (alone s n) p k j v (take_step d s Client p) a.0 refl ck (client_due d (alone s n) p (outcome k j v) a.0 h) in
    (b.0, b.1, rw ck (sym b.3), rw ck b.4)
plain_client d s n p k j v (inr (inr (inr a))) h t = plain_turn d s n p k j v (shut_idle s a.0) a.3 (λ m g. shut_kind d s p k m a.0 g) h

plain_at : (d : Agreed) (s : State) (n : ℕ) (side : Side) (p : List ℕ) (k : PacketKind) (j : ℕ) (v : Standing) → pipe_step d (alone s n) side p ≡ outcome k j v → (is_due s ≡ true → commands k ≡ false) → Plainly d s n (packet side p k) j v
plain_at d s n Client p k j v h t = plain_client d s n p k j v (turn s) h t
plain_at d s n Server p k j v h t =
    let b = served_back d (alone s n) p k j v (take_step d s Server p) refl h in
    (b.0, b.1, sym b.3, b.4)

pub in_turn_plain : (d : Agreed) (s : State) (n : ℕ) (others : List Numbered) (t : Standing) → InTurn d (alone s n) others t → Takes d s (packets others) t.state × AreNumbered n others
in_turn_plain d s n [] t h = (ap (λ (t : Standing). t.state) h, tt)
in_turn_plain d s n (x ∷ xs) t h =
    let b = plain_at d s n x.packet.from x.packet.payload x.packet.kind x.number h.0 h.1 h.2 in
    let r = in_turn_plain d b.0 (counted n x.packet) xs t (subst (λ w. InTurn d w xs t) (sym b.3) h.3) in
    ((b.0, b.1, r.0), (b.2, r.1))

next_client : (d : Agreed) (s : State) (n : ℕ) (p : List ℕ) (k : PacketKind) (m : State) → Turn s → take_step d s Client p ≡ Some (k, m) → pipe_step d (alone s n) Client p ≡ outcome k (counted n (packet Client p k)) (alone m (counted n (packet Client p k)))
next_client d s n p k m (inl e) h =
    let c : commands k ≡ true = command_kind d s p k m e h in
    rw (ap is_due e, h, ap is_rest e, c) refl
next_client d s n p k m (inr (inl a)) h =
    let c : commands k ≡ false = running_kind d s p k m a.1 h in
    rw (a.2, h, running_idle s a.1, c) refl
next_client d s n p k m (inr (inr (inl a))) h =
    let c : commands k ≡ false = running_kind d s p k m a.1 h in
    rw (a.0, h, c) refl
next_client d s n p k m (inr (inr (inr a))) h =
    let c : commands k ≡ false = shut_kind d s p k m a.0 h in
    rw (a.3, h, shut_idle s a.0, c) refl

nothing_waits : (b : Bool) → (b && false) ≡ false
nothing_waits true = refl
nothing_waits false = refl

plain_next : (d : Agreed) (s : State) (n : ℕ) (side : Side) (p : List ℕ) (k : PacketKind) (m : State) → take_step d s side p ≡ Some (k, m) → pipe_step d (alone s n) side p ≡ outcome k (counted n (packet side p k)) (alone m (counted n (packet side p k)))
plain_next d s n Client p k m h = next_client d s n p k m (turn s) h
plain_next d s n Server p k m h = rw (h, nothing_waits (stops m)) refl

pub run_in_turn : (d : Agreed) (s : State) (n : ℕ) (others : List Numbered) (m : State) → Takes d s (packets others) m → rests m ≡ true → AreNumbered n others → (t : Standing) × PipeRun d (alone s n) others t × Over t
run_in_turn d s n [] m r o a = (alone s n, refl, (ap rests r ∙ o, refl))
run_in_turn d s n (x ∷ xs) m r o a =
    let c = counted n x.packet in
    let h = run_in_turn d r.0 c xs m r.2 o a.1 in
    let st : Steps d (alone s n) x (alone r.0 c) = plain_next d s n x.packet.from x.packet.payload x.packet.kind r.0 r.1 ∙ ap (λ j. outcome x.packet.kind j (alone r.0 c)) (sym a.0) in
    (h.0, (alone r.0 c, st, h.1), h.2)
