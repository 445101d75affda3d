-- Which kinds continue the accepted packets.
use Rattle.std.proofs.Common.{◌≡◌, ◌↔◌, ◌+◌, ℕ, List, [], ◌∷◌, ◌++◌, inl, inr, Option, Some, None, refl, sym, ap, subst, ◌∙◌, Bool, true, false, cond}
use Rattle.std.specs.Prelude.{◌&&◌, ◌||◌, ◌==◌, not}
use Rattle.std.proofs.lemmas.Bool.{eqb-true, and_parts, or_cases, or_right, not-true}
use Rattle.mysql_conversation.specs.Agreements.{Agreed}
use Rattle.mysql_conversation.specs.Conversation.{Packet, IsBeginning, asks}
use Rattle.mysql_conversation.specs.Machine.{entrance, Takes, TakesOne, take_step, is_rest, is_shut, listens, is_due}
use Rattle.mysql_conversation.proofs.Runs.{part, once}
use Rattle.mysql_conversation.specs.Taken.{packet}
use Rattle.mysql_conversation.specs.PacketKindTag.{name_of, index, is_in}
use Rattle.mysql_conversation.specs.Expected.{may_receive, asking_names, shutting_names, pipe_expects}
use Rattle.mysql_conversation.specs.Piped.{place}
use Rattle.mysql_conversation.specs.Pipelined.{Numbered, IsPipelinedBeginning}
use Rattle.mysql_conversation.specs.Standing.{Standing, standing, start, Steps, PipeRun, pipe_step, command_of, waits, quits, push, settle, early, aside, in_turn, served}
use Rattle.mysql_conversation.proofs.Begun.{beginning_takes, takes_is_beginning, one_state, one_more}
use Rattle.mysql_conversation.proofs.Classes.{some_is}
use Rattle.mysql_conversation.proofs.Named.{same, what_comes_is_named}
use Rattle.mysql_conversation.proofs.Witnesses.{what_is_named_comes}
use Rattle.mysql_conversation.proofs.States.{take_listens, take_shuts}
use Rattle.mysql_conversation.proofs.Stood.{beginning_runs, run_is_beginning, one_standing, pipe_one_more}
use Rattle.mysql_conversation.proofs.Turns.{no_aside}
use Rattle.mysql_conversation.specs.declared.packet_kind.RowFormat.TheVariants.{Text, Binary}
use Rattle.mysql_conversation.specs.declared.packet_kind.PacketKind.{PacketKind}
use Rattle.mysql_conversation.specs.declared.packet_kind.PacketKind.TheVariants as kind
use Rattle.mysql_conversation.specs.declared.packet_kind.InitialPhase.{InitialPhase}
use Rattle.mysql_conversation.specs.declared.packet_kind.Side.{Side}
use Rattle.mysql_conversation.specs.declared.packet_kind.Side.TheVariants.{Client, Server}
use Rattle.mysql_conversation.specs.declared.packet_kind_tag.PacketKindTag.{PacketKindTag}
use Rattle.mysql_conversation.specs.declared.packet_kind_tag.PacketKindTag.TheVariants as name
use Rattle.mysql_conversation.specs.declared.state.Answer.TheVariants as answer
use Rattle.mysql_conversation.specs.declared.state.Command.{Command}
use Rattle.mysql_conversation.specs.declared.state.State.{State}

-- ---- a conversation

came : (a : Agreed) (o : InitialPhase) (items : List Packet) (s : State) (side : Side) (p : List ℕ) (k : PacketKind) → Takes a (entrance o) items s → IsBeginning a o (items ++ packet side p k ∷ [])
    → (m : State) × (take_step a s side p ≡ Some (k, m))
came a o items s side p k r h =
    let b = beginning_takes a o (items ++ packet side p k ∷ []) h in
    let q = part (TakesOne a) (entrance o) items (packet side p k ∷ []) b.0 b.1 in
    (q.2.0, subst (λ s. take_step a s side p ≡ Some (k, q.2.0)) (once (TakesOne a) (one_state a) (entrance o) items q.0 s q.1 r) q.2.1)

pub goes_on : (a : Agreed) (o : InitialPhase) (items : List Packet) (s : State) (side : Side) (n : PacketKindTag) → Takes a (entrance o) items s
    → may_receive a s side n ≡ true ↔ ((p : List ℕ) × (k : PacketKind) × (name_of k ≡ n) × IsBeginning a o (items ++ packet side p k ∷ []))
goes_on a o items s side n r = (
  (λ h.
      let c = what_is_named_comes a s side n h in
      (c.0, c.1, c.3, takes_is_beginning a o (items ++ packet side c.0 c.1 ∷ []) c.2 (one_more a o items s side c.0 c.1 c.2 r c.4))),
  (λ h.
      let c = came a o items s side h.0 h.1 r h.3 in
      subst (λ n. may_receive a s side n ≡ true) h.2 (what_comes_is_named a s side h.0 h.1 c.0 c.1)),
)

-- ---- a pipeline

pipe_came : (a : Agreed) (o : InitialPhase) (items : List Numbered) (w : Standing) (side : Side) (p : List ℕ) (k : PacketKind) (i : ℕ) → PipeRun a (start o) items w → IsPipelinedBeginning a o (items ++ place side p k i ∷ [])
    → (m : Standing) × (pipe_step a w side p ≡ Some (k, i, m))
pipe_came a o items w side p k i r h =
    let b = beginning_runs a o (items ++ place side p k i ∷ []) h in
    let q = part (Steps a) (start o) items (place side p k i ∷ []) b.0 b.1 in
    (q.2.0, subst (λ w. pipe_step a w side p ≡ Some (k, i, q.2.0)) (once (Steps a) (one_standing a) (start o) items q.0 w q.1 r) q.2.1)

-- the name alone determines whether the client may answer
asks_by_name : (k : PacketKind) → is_in (name_of k) asking_names ≡ asks k
asks_by_name kind.Handshake = refl
asks_by_name (kind.Row Text) = refl
asks_by_name _ = refl

-- ---- the steps of a pipeline

abbrev Outcome : Type 0
Outcome = PacketKind × ℕ × Standing

kind_same : {k j : PacketKind} {i l : ℕ} {m t : Standing} → ◌≡◌ {A = Option Outcome} (Some (j, l, t)) (Some (k, i, m)) → j ≡ k
kind_same h = ap (λ (x : Outcome). x.0) (some_is h)

not_taken : (b : Bool) (x : Outcome) (y : Outcome) → cond b None (Some x) ≡ Some y → (b ≡ false) × (Some x ≡ Some y)
not_taken true x y h = absurd cc
not_taken false x y h = (refl, h)

early_named : (w : Standing) (c : Option Command) (k : PacketKind) (i : ℕ) (m : Standing) → early w c ≡ Some (k, i, m) → (index (name_of k) == index name.Command && not (quits w.waiting)) ≡ true
early_named w None k i m h = absurd cc
early_named w (Some c) k i m h =
    let q = not_taken (quits w.waiting) _ (k, i, m) h in
    subst (λ k. (index (name_of k) == index name.Command && not (quits w.waiting)) ≡ true) (kind_same q.1) (rw q.0 refl)

turned : (b : Bool) (k j : PacketKind) (i l u : ℕ) (m t v : Standing) → ◌≡◌ {A = Option Outcome} (cond b (Some (j, l, t)) (Some (j, u, v))) (Some (k, i, m)) → j ≡ k
turned true k j i l u m t v h = kind_same h
turned false k j i l u m t v h = kind_same h

swapped : (x y : Bool) → (x && y) ≡ (y && x)
swapped true true = refl
swapped true false = refl
swapped false true = refl
swapped false false = refl

client_named : (a : Agreed) (w : Standing) (p : List ℕ) (k : PacketKind) (i : ℕ) (m : Standing) (b : Bool) (o : Option (PacketKind × State)) → is_due w.state ≡ b → take_step a w.state Client p ≡ o
    → cond b (aside w o (command_of p)) (in_turn w o) ≡ Some (k, i, m) → cond b ((may_receive a w.state Client (name_of k) && not (waits w.waiting)) || (index (name_of k) == index name.Command && not (quits w.waiting))) (may_receive a w.state Client (name_of k)) ≡ true
client_named a w p k i m true None d e h = or_right (may_receive a w.state Client (name_of k) && not (waits w.waiting)) _ (early_named w (command_of p) k i m h)
client_named a w p k i m true (Some x) d e h =
    let q = not_taken (waits w.waiting) _ (k, i, m) h in
    let n : may_receive a w.state Client (name_of k) ≡ true = subst (λ k. may_receive a w.state Client (name_of k) ≡ true) (kind_same q.1) (what_comes_is_named a w.state Client p x.0 x.1 e) in
    rw (n, q.0) refl
client_named a w p k i m false None d e h = absurd cc
client_named a w p k i m false (Some x) d e h =
    subst (λ k. may_receive a w.state Client (name_of k) ≡ true) (turned (is_rest w.state) k x.0 i _ _ m _ _ h) (what_comes_is_named a w.state Client p x.0 x.1 e)

-- while commands wait, the server neither asks the client nor ends the connection
abbrev Stops : Standing → PacketKindTag → Bool
Stops w n = is_in n asking_names || is_in n (shutting_names w.state)

stops_named : (a : Agreed) (w : Standing) (p : List ℕ) (k : PacketKind) (m : State) → take_step a w.state Server p ≡ Some (k, m) → (listens m || is_shut m) ≡ Stops w (name_of k)
stops_named a w p k m e =
    ap (λ b. b || is_shut m) ((take_listens a w.state Server p k m e).0 ∙ sym (asks_by_name k)) ∙ ap (λ b. is_in (name_of k) asking_names || b) (take_shuts a w.state p k m e)

server_named : (a : Agreed) (w : Standing) (p : List ℕ) (k : PacketKind) (i : ℕ) (m : Standing) (o : Option (PacketKind × State)) → take_step a w.state Server p ≡ o
    → served w o ≡ Some (k, i, m) → (may_receive a w.state Server (name_of k) && not (waits w.waiting && Stops w (name_of k))) ≡ true
server_named a w p k i m None e h = absurd cc
server_named a w p k i m (Some x) e h =
    let q = not_taken ((listens x.1 || is_shut x.1) && waits w.waiting) _ (k, i, m) h in
    let stops = stops_named a w p x.0 x.1 e in
    let quiet : (waits w.waiting && Stops w (name_of x.0)) ≡ false = ap (λ b. waits w.waiting && b) (sym stops) ∙ swapped (waits w.waiting) (listens x.1 || is_shut x.1) ∙ q.0 in
    let n = what_comes_is_named a w.state Server p x.0 x.1 e in
    let here : (may_receive a w.state Server (name_of x.0) && not (waits w.waiting && Stops w (name_of x.0))) ≡ true = rw (n, quiet) refl in
    subst (λ k. (may_receive a w.state Server (name_of k) && not (waits w.waiting && Stops w (name_of k))) ≡ true) (kind_same q.1) here

pipe_named : (a : Agreed) (w : Standing) (side : Side) (p : List ℕ) (k : PacketKind) (i : ℕ) (m : Standing) → pipe_step a w side p ≡ Some (k, i, m) → pipe_expects a w side (name_of k) ≡ true
pipe_named a w Client p k i m h = client_named a w p k i m (is_due w.state) (take_step a w.state Client p) refl refl h
pipe_named a w Server p k i m h = server_named a w p k i m (take_step a w.state Server p) refl h

-- some packet of a kind with this name is accepted
abbrev Stepping : Agreed → Standing → Side → PacketKindTag → Type 0
Stepping a w side n = (p : List ℕ) × (k : PacketKind) × (i : ℕ) × (m : Standing) × (name_of k ≡ n) × (pipe_step a w side p ≡ Some (k, i, m))

in_turn_taken : (w : Standing) (x : PacketKind × State) (b : Bool) → is_rest w.state ≡ b → (i : ℕ) × (m : Standing) × (in_turn w (Some x) ≡ Some (x.0, i, m))
in_turn_taken w x true e = (w.last + 1, standing x.1 (w.last + 1) (w.last + 1) w.waiting, rw e refl)
in_turn_taken w x false e = (w.number, standing x.1 w.number w.last w.waiting, rw e refl)

due_step : (a : Agreed) (w : Standing) (p : List ℕ) → is_due w.state ≡ true → pipe_step a w Client p ≡ aside w (take_step a w.state Client p) (command_of p)
due_step a w p d = rw d refl

turn_step : (a : Agreed) (w : Standing) (p : List ℕ) → is_due w.state ≡ false → pipe_step a w Client p ≡ in_turn w (take_step a w.state Client p)
turn_step a w p d = rw d refl

aside_taken : (w : Standing) (x : PacketKind × State) (c : Option Command) → waits w.waiting ≡ false → aside w (Some x) c ≡ Some (x.0, w.number, standing x.1 w.number w.last w.waiting)
aside_taken w x c e = rw e refl

-- a ping, unless COM_QUIT is waiting
early_comes : (a : Agreed) (w : Standing) (n : PacketKindTag) → is_due w.state ≡ true → quits w.waiting ≡ false → n ≡ name.Command → Stepping a w Client n
early_comes a w n d q e =
    let c : Command = record { code = 0x0e; answer = answer.Acknowledgement false } in
    let none = no_aside a w.state (0x0e ∷ []) c d refl in
    let taken : early w (Some c) ≡ Some (kind.Command 0x0e, w.last + 1, push w c) = rw q refl in
    (0x0e ∷ [], kind.Command 0x0e, w.last + 1, push w c, sym e, due_step a w (0x0e ∷ []) d ∙ ap (λ o. aside w o (Some c)) none ∙ taken)

client_comes : (a : Agreed) (w : Standing) (n : PacketKindTag) (b : Bool) → is_due w.state ≡ b
    → cond b ((may_receive a w.state Client n && not (waits w.waiting)) || (index n == index name.Command && not (quits w.waiting))) (may_receive a w.state Client n) ≡ true → Stepping a w Client n
client_comes a w n true d h = elim (or_cases (may_receive a w.state Client n && not (waits w.waiting)) _ h) [
  | inl g ↦ (let q = and_parts (may_receive a w.state Client n) _ g in
      let c = what_is_named_comes a w.state Client n q.0 in
      (c.0, c.1, w.number, standing c.2 w.number w.last w.waiting, c.3, due_step a w c.0 d ∙ ap (λ o. aside w o (command_of c.0)) c.4 ∙ aside_taken w (c.1, c.2) (command_of c.0) (not-true (waits w.waiting) q.1)))
  | inr g ↦ (let q = and_parts (index n == index name.Command) _ g in early_comes a w n d (not-true (quits w.waiting) q.1) (same n name.Command (eqb-true (index n) (index name.Command) q.0)))
]
client_comes a w n false d h =
    let c = what_is_named_comes a w.state Client n h in
    let t = in_turn_taken w (c.1, c.2) (is_rest w.state) refl in
    (c.0, c.1, t.0, t.1, c.3, turn_step a w c.0 d ∙ ap (in_turn w) c.4 ∙ t.2)

server_comes : (a : Agreed) (w : Standing) (n : PacketKindTag) → (may_receive a w.state Server n && not (waits w.waiting && Stops w n)) ≡ true → Stepping a w Server n
server_comes a w n h =
    let q = and_parts (may_receive a w.state Server n) _ h in
    let c = what_is_named_comes a w.state Server n q.0 in
    let stops : (listens c.2 || is_shut c.2) ≡ Stops w n = stops_named a w c.0 c.1 c.2 c.4 ∙ ap (λ n. Stops w n) c.3 in
    let quiet : ((listens c.2 || is_shut c.2) && waits w.waiting) ≡ false = ap (λ b. b && waits w.waiting) stops ∙ swapped (Stops w n) (waits w.waiting) ∙ not-true _ q.1 in
    (c.0, c.1, w.number, settle c.2 w.number w.last w.waiting, c.3, rw (c.4, quiet) refl)

pipe_comes : (a : Agreed) (w : Standing) (side : Side) (n : PacketKindTag) → pipe_expects a w side n ≡ true → Stepping a w side n
pipe_comes a w Client n h = client_comes a w n (is_due w.state) refl h
pipe_comes a w Server n h = server_comes a w n h

pub pipe_goes_on : (a : Agreed) (o : InitialPhase) (items : List Numbered) (w : Standing) (side : Side) (n : PacketKindTag) → PipeRun a (start o) items w
    → pipe_expects a w side n ≡ true ↔ ((p : List ℕ) × (k : PacketKind) × (i : ℕ) × (name_of k ≡ n) × IsPipelinedBeginning a o (items ++ place side p k i ∷ []))
pipe_goes_on a o items w side n r = (
  (λ h.
      let c = pipe_comes a w side n h in
      (c.0, c.1, c.2, c.4, run_is_beginning a o (items ++ place side c.0 c.1 c.2 ∷ []) c.3 (pipe_one_more a o items w side c.0 c.1 c.2 c.3 r c.5))),
  (λ h.
      let c = pipe_came a o items w side h.0 h.1 h.2 r h.4 in
      subst (λ n. pipe_expects a w side n ≡ true) h.3 (pipe_named a w side h.0 h.1 h.2 c.0 c.1)),
)
