-- The packets of a pipeline are in order: a command begins the next exchange, and any other packet belongs to the server's exchange.
use Rattle.std.proofs.Common.{◌≡◌, ◌⊎◌, ℕ, ◌+◌, ◌<◌, ◌≤◌, max, Bool, true, false, cond, ◌&&◌, List, [], ◌∷◌, ◌++◌, inl, inr, Option, Some, None, refl, sym, ap, subst, ◌∙◌, arith}
use Rattle.std.proofs.lemmas.Bool.{cases_Bool}
use Rattle.mysql_conversation.specs.Agreements.{Agreed}
use Rattle.mysql_conversation.specs.Conversation.{commands, answering, code_of}
use Rattle.mysql_conversation.specs.Machine.{take_step, rests, is_rest, is_due}
use Rattle.mysql_conversation.specs.Pipelined.{Numbered, is_client, is_command}
use Rattle.mysql_conversation.specs.Standing.{Standing, standing, known, command_of, kind_of, begin, wait, settle, push, pipe_step, Steps, PipeRun}
use Rattle.mysql_conversation.specs.declared.packet_kind.PacketKind.{PacketKind}
use Rattle.mysql_conversation.specs.declared.packet_kind.PacketKind.TheVariants as kind
use Rattle.mysql_conversation.specs.declared.packet_kind.Side.TheVariants.{Client, Server}
use Rattle.mysql_conversation.specs.declared.state.State.{State}
use Rattle.mysql_conversation.specs.declared.state.Answer.{Answer}
use Rattle.mysql_conversation.specs.declared.state.Command.{Command}
use Rattle.mysql_conversation.specs.Payloads.{asks_cursor}
use Rattle.mysql_conversation.proofs.Classes.{some_is}
use Rattle.mysql_conversation.specs.declared.pipeline.Waiting.{Waiting}
use Rattle.mysql_conversation.proofs.PipeSteps.{Over, Sound, after, outcome, side_is, settle_last, server_back, client_rest, client_turn, client_due, loaded_back, aside_due, command_back, by_client, step_sound}
use Rattle.mysql_conversation.proofs.States.{Turn, turn, due_runs, running_idle, shut_idle}
use Rattle.mysql_conversation.proofs.Turns.{kind_is_command}
use Rattle.mysql_conversation.specs.Pipelined.{IsPipelined}
use Rattle.mysql_conversation.specs.Standing.{start}
use Rattle.mysql_conversation.specs.declared.packet_kind.InitialPhase.{InitialPhase}
use Rattle.mysql_conversation.proofs.Runs.{join, once}
use Rattle.mysql_conversation.proofs.Stood.{pipelined_runs}
use Rattle.mysql_conversation.proofs.Stood.{one_standing}
use Rattle.mysql_observer.specs.Order.{IsEarlyIn, AreEarly, Step, items_of, IsNext, at_after, AreOrderly}

-- the numbers of the waiting commands ascend, from above the running exchange to the last command
abbrev pub AscendTo : ℕ → List Waiting → ℕ → Type 0
AscendTo i [] l = i ≤ l
AscendTo i (n ∷ q) l = (i < n.number) × AscendTo n.number q l

ascend_up : (i l : ℕ) (q : List Waiting) → AscendTo i q l → i ≤ l
ascend_up i l [] h = h
ascend_up i l (n ∷ q) h = let k = ascend_up n.number l q h.1 in omega (arith, h.0, k)

ascend_more : (i l : ℕ) (q : List Waiting) (c : Command) → AscendTo i q l → AscendTo i (q ++ wait c (l + 1) ∷ []) (l + 1)
ascend_more i l [] c h = (omega (arith, h), omega arith)
ascend_more i l (n ∷ q) c h = (h.0, ascend_more n.number l q c h.1)

settle_up : (m : State) (i l : ℕ) (q : List Waiting) → AscendTo i q l → (i ≤ (settle m i l q).number) × AscendTo (settle m i l q).number (settle m i l q).waiting l
settle_up m i l [] h = (omega arith, h)
settle_up m i l (n ∷ q) h = elim (cases_Bool (is_rest m)) [
  | inl e ↦ rw e (let r = settle_up (begin n.command) n.number l q h.1 in let k = r.0 in let j = h.0 in (omega (arith, k, j), r.1))
  | inr e ↦ rw e (omega arith, h)
]

-- the server is at an exchange, at or after each one of which a packet came
pub record Stands (at : ℕ) (w : Standing) : Type 0 where
  pub from : at ≤ w.number
  pub ascend : AscendTo w.number w.waiting w.last
  pub sound : Sound w

stands_on : (at : ℕ) (w : Standing) (m : State) (v : Standing) → Stands at w → Sound v → standing m w.number w.last w.waiting ≡ v → Stands w.number v × (v.last ≡ w.last)
stands_on at w m v h s e = (
  subst (λ t. Stands w.number t) e (record { from = omega arith; ascend = h.ascend; sound = subst (λ t. Sound t) (sym e) s }),
  sym (ap (λ (t : Standing). t.last) e),
)

-- ---- a packet that is no command

-- it belongs to the server's exchange
abbrev Turned : Standing → ℕ → Standing → Type 0
Turned w n v = (w.number ≡ n) × Stands w.number v × (v.last ≡ w.last)

turned_by_client : (d : Agreed) (at : ℕ) (w : Standing) (x : Numbered) (v : Standing) → Turn w.state → Stands at w → Sound v → commands x.packet.kind ≡ false
    → pipe_step d w Client x.packet.payload ≡ outcome x.packet.kind x.number v → Turned w x.number v
turned_by_client d at w x v (inl r) h s c e =
    let b = client_rest d w x.packet.payload x.packet.kind x.number v r e in
    let yes : commands x.packet.kind ≡ true = ap commands (sym b.2) ∙ kind_is_command b.0 in absurd cc
turned_by_client d at w x v (inr (inl a)) h s c e =
    let b = loaded_back d w x.packet.payload x.packet.kind x.number v (take_step d w.state Client x.packet.payload) (running_idle w.state a.1) refl
    (client_turn d w x.packet.payload (outcome x.packet.kind x.number v) a.2 e) in
    let r = stands_on at w b.0 v h s b.3 in (b.2, r.0, r.1)
turned_by_client d at w x v (inr (inr (inl a))) h s c e =
    let b = aside_due d w x.packet.payload x.packet.kind x.number v (take_step d w.state Client x.packet.payload) a.0 refl c (client_due d w x.packet.payload (outcome x.packet.kind x.number v) a.0 e) in
    let r = stands_on at w b.0 v h s b.4 in (b.3, r.0, r.1)
turned_by_client d at w x v (inr (inr (inr a))) h s c e =
    let b = loaded_back d w x.packet.payload x.packet.kind x.number v (take_step d w.state Client x.packet.payload) (shut_idle w.state a.0) refl
    (client_turn d w x.packet.payload (outcome x.packet.kind x.number v) a.3 e) in
    let r = stands_on at w b.0 v h s b.3 in (b.2, r.0, r.1)

turned_by_server : (d : Agreed) (at : ℕ) (w : Standing) (x : Numbered) (v : Standing) → Stands at w → Sound v → x.packet.from ≡ Server → Steps d w x v → Turned w x.number v
turned_by_server d at w x v h s f e =
    let b = server_back d w x v f e in
    let up = settle_up b.0 w.number w.last w.waiting h.ascend in
    let last : (settle b.0 w.number w.last w.waiting).last ≡ w.last = settle_last b.0 w.number w.last w.waiting in (
      b.3,
      subst (λ t. Stands w.number t) b.4 (record {
        from = up.0;
        ascend = subst (λ l. AscendTo (settle b.0 w.number w.last w.waiting).number (settle b.0 w.number w.last w.waiting).waiting l) (sym last) up.1;
        sound = subst (λ t. Sound t) (sym b.4) s;
      }),
      sym (ap (λ (t : Standing). t.last) b.4) ∙ last,
    )

no_command : (x : Numbered) → x.packet.from ≡ Client → is_command x.packet ≡ false → commands x.packet.kind ≡ false
no_command x f c = sym (ap (λ s. is_client s && commands x.packet.kind) f) ∙ c

turned : (d : Agreed) (at : ℕ) (w : Standing) (x : Numbered) (v : Standing) → Stands at w → is_command x.packet ≡ false → Steps d w x v → Turned w x.number v
turned d at w x v h c e =
    let s = step_sound d w x v h.sound e in
    elim (side_is x.packet.from) [
      | inl f ↦ turned_by_client d at w x v (turn w.state) h s (no_command x f c) (by_client d w x v f e)
      | inr f ↦ turned_by_server d at w x v h s f e
    ]

-- ---- a command

known_code : (code : ℕ) (r : Option Answer) (c : Command) → known code r ≡ Some c → code ≡ c.code
known_code code None c e = absurd cc
known_code code (Some a) c e = ap (λ (o : Command). o.code) (some_is e)

command_in : (p : List ℕ) (c : Command) (k : PacketKind) → command_of p ≡ Some c → kind_of c ≡ k → k ≡ kind.Command (code_of p)
command_in p c k e h = sym h ∙ ap (λ n. kind.Command n) (sym (known_code (code_of p) (answering (code_of p) (asks_cursor p)) c e))

-- the exchange of a command begins, or it waits
begun_when : (b : Bool) (at : ℕ) (w : Standing) (c : Command) (v : Standing) → is_due w.state ≡ b → Stands at w → Sound v
    → cond b (push w c) (standing (begin c) (w.last + 1) (w.last + 1) w.waiting) ≡ v → Stands at v × (v.last ≡ w.last + 1)
begun_when true at w c v d h s e = (
  subst (λ t. Stands at t) e (record { from = h.from; ascend = ascend_more w.number w.last w.waiting c h.ascend; sound = subst (λ t. Sound t) (sym e) s }),
  sym (ap (λ (t : Standing). t.last) e),
)
begun_when false at w c v d h s e =
    let up = ascend_up w.number w.last w.waiting h.ascend in
    let from = h.from in (
      subst (λ t. Stands at t) e (record {
        from = omega (arith, up, from);
        ascend = subst (λ l. AscendTo (w.last + 1) l (w.last + 1)) (sym (h.sound.0 d)) (omega arith);
        sound = subst (λ t. Sound t) (sym e) s;
      }),
      sym (ap (λ (t : Standing). t.last) e),
    )

not_due : (s : State) → rests s ≡ true → is_due s ≡ false
not_due s r = elim (cases_Bool (is_due s)) [
  | inl e ↦ (let no = (due_runs s e).0 in absurd cc)
  | inr e ↦ e
]

-- in its turn it belongs to the server's exchange
in_turn_stands : (at : ℕ) (w : Standing) (c : Command) (v : Standing) → Over w → Sound v → after w c ≡ v → Stands (w.last + 1) v
in_turn_stands at w c v o s e =
    let a : after w c ≡ standing (begin c) (w.last + 1) (w.last + 1) [] =
    ap (λ b. cond b (push w c) (standing (begin c) (w.last + 1) (w.last + 1) w.waiting)) (not_due w.state o.0) ∙ ap (standing (begin c) (w.last + 1) (w.last + 1)) o.1 in
    let z = sym a ∙ e in
    subst (λ t. Stands (w.last + 1) t) z (record { from = omega arith; ascend = omega arith; sound = subst (λ t. Sound t) (sym z) s })

-- ---- each packet

-- a packet, and whether it is a pipelined command; otherwise it is no command, or no answer is due
pub record IsFlagged (w : Standing) (s : Step) : Type 0 where
  pub early : s.is_early ≡ true → is_command s.item.packet ≡ true
  pub turn : s.is_early ≡ false → (is_command s.item.packet ≡ false) ⊎ Over w

abbrev pub AreFlagged : Agreed → Standing → List Step → Standing → Type 0
AreFlagged d w [] t = w ≡ t
AreFlagged d w (s ∷ ss) t = (v : Standing) × Steps d w s.item v × IsFlagged w s × AreFlagged d v ss t

-- it is the next one, and the server's exchange after it
abbrev Follows : Bool → ℕ → Standing → Numbered → Standing → Type 0
Follows b at w x v = IsNext b at w.last x × Stands (at_after b at x) v × (v.last ≡ max w.last x.number)

follows_none : (d : Agreed) (at : ℕ) (w : Standing) (x : Numbered) (v : Standing) → Stands at w → is_command x.packet ≡ false → Steps d w x v → Follows false at w x v
follows_none d at w x v h c e =
    let r = turned d at w x v h c e in
    let from = h.from in
    let n = r.0 in
    let up = ascend_up w.number w.last w.waiting h.ascend in
    (omega (arith, from, n), subst (λ k. Stands k v) r.0 r.1, r.2 ∙ (omega (arith, up, n)))

follows_command : (d : Agreed) (at : ℕ) (w : Standing) (x : Numbered) (v : Standing) → Stands at w → is_command x.packet ≡ true → Steps d w x v → Follows true at w x v
follows_command d at w x v h c e =
    let k = (command_back d w x v c e).1.0 in
    let n : x.number ≡ w.last + 1 = sym k.3 in
    let r = begun_when (is_due w.state) at w k.0 v refl h (step_sound d w x v h.sound e) k.4 in
    ((n, command_in x.packet.payload k.0 x.packet.kind k.1 k.2), r.0, r.1 ∙ (omega (arith, n)))

follows_turn : (d : Agreed) (at : ℕ) (w : Standing) (x : Numbered) (v : Standing) → Stands at w → Over w → is_command x.packet ≡ true → Steps d w x v → Follows false at w x v
follows_turn d at w x v h o c e =
    let k = (command_back d w x v c e).1.0 in
    let s = step_sound d w x v h.sound e in
    let n : w.last + 1 ≡ x.number = k.3 in
    let r = begun_when (is_due w.state) at w k.0 v refl h s k.4 in
    let from = h.from in
    let up = ascend_up w.number w.last w.waiting h.ascend in
    (omega (arith, from, up, n), subst (λ j. Stands j v) n (in_turn_stands at w k.0 v o s k.4), r.1 ∙ (omega (arith, n)))

follows_either : (command : Bool) (d : Agreed) (at : ℕ) (w : Standing) (x : Numbered) (v : Standing) → is_command x.packet ≡ command → Stands at w → Over w → Steps d w x v → Follows false at w x v
follows_either true d at w x v c h o e = follows_turn d at w x v h o c e
follows_either false d at w x v c h o e = follows_none d at w x v h c e

follows : (b : Bool) (d : Agreed) (at : ℕ) (w : Standing) (x : Numbered) (v : Standing) → Stands at w → (b ≡ true → is_command x.packet ≡ true)
    → (b ≡ false → (is_command x.packet ≡ false) ⊎ Over w) → Steps d w x v → Follows b at w x v
follows true d at w x v h f t e = follows_command d at w x v h (f refl) e
follows false d at w x v h f t e = elim (t refl) [
  | inl c ↦ follows_none d at w x v h c e
  | inr o ↦ follows_either (is_command x.packet) d at w x v refl h o e
]

pub are_orderly : (d : Agreed) (at last : ℕ) (w t : Standing) (steps : List Step) → Stands at w → w.last ≡ last → AreFlagged d w steps t → AreOrderly at last steps
are_orderly d at last w t [] h l f = tt
are_orderly d at last w t (s ∷ ss) h l f =
    let r = follows s.is_early d at w s.item f.0 h f.2.early f.2.turn f.1 in
    (subst (λ k. IsNext s.is_early at k s.item) l r.0, are_orderly d (at_after s.is_early at s.item) (max last s.item.number) f.0 t ss r.1 (r.2 ∙ ap (λ k. max k s.item.number) l) f.3)

-- ---- by the grammar

early_flag : (a : Agreed) (o : InitialPhase) (b : Bool) (before : List Numbered) (x : Numbered) → IsEarlyIn a o b before x → b ≡ true → is_command x.packet ≡ true
early_flag a o true before x h e = h.0
early_flag a o false before x h e = absurd cc

turn_flag : (a : Agreed) (o : InitialPhase) (b : Bool) (before : List Numbered) (x : Numbered) (w : Standing) → IsEarlyIn a o b before x → (IsPipelined a o before → Over w)
    → b ≡ false → (is_command x.packet ≡ false) ⊎ Over w
turn_flag a o true before x w h f e = absurd cc
turn_flag a o false before x w (inl c) f e = inl c
turn_flag a o false before x w (inr p) f e = inr (f p)

is_over : (a : Agreed) (o : InitialPhase) (before : List Numbered) (w : Standing) → PipeRun a (start o) before w → IsPipelined a o before → Over w
is_over a o before w run p =
    let r = pipelined_runs a o before p in subst (λ t. Over t) (once (Steps a) (one_standing a) (start o) before r.0 w r.1 run) r.2

flagged : (a : Agreed) (o : InitialPhase) (before : List Numbered) (w t : Standing) (steps : List Step) → PipeRun a (start o) before w → PipeRun a w (items_of steps) t → AreEarly a o before steps
    → AreFlagged a w steps t
flagged a o before w t [] run r h = r
flagged a o before w t (s ∷ ss) run r h = (
  r.0,
  r.1,
  record { early = early_flag a o s.is_early before s.item h.0; turn = turn_flag a o s.is_early before s.item w h.0 (is_over a o before w run) },
  flagged a o (before ++ s.item ∷ []) r.0 t ss (join (Steps a) (start o) before w (s.item ∷ []) r.0 run (r.0, r.1, refl)) r.2 h.1,
)

pub pipeline_orderly : (a : Agreed) (o : InitialPhase) (steps : List Step) (t : Standing) → PipeRun a (start o) (items_of steps) t → AreEarly a o [] steps → AreOrderly 0 0 steps
pipeline_orderly a o steps t r h =
    are_orderly a 0 0 (start o) t steps (record { from = omega arith; ascend = omega arith; sound = ((λ d. refl), tt) }) refl (flagged a o [] (start o) t steps refl r h)
