-- A conversation of C is one of the library.
use Rattle.std.proofs.Common.{◌≡◌, ℕ, ◌≤◌, ◌↔◌, ◌⊎◌, inl, inr, Bool, true, false, List, [], ◌∷◌, ◌++◌, Option, Some, None, IfSome, IsTrue, refl, sym, ◌∙◌, ap, subst, arith}
use Rattle.std.proofs.lemmas.Bool.{ne_eqb}
use Rattle.std.proofs.lemmas.Option.{same_Some}
use Rattle.std.specs.Prelude.{◌==◌}
use Rattle.mysql_conversation.specs.Agreements.{Agreed}
use Rattle.mysql_conversation.specs.LoginState.{StandsAt}
use Rattle.mysql_conversation.specs.Piped.{place}
use Rattle.mysql_conversation.specs.Pipelined.{Numbered, IsPipelined, IsPipelinedBeginning}
use Rattle.mysql_conversation.specs.PipelineState as stands
use Rattle.mysql_conversation.specs.PipelineState.{Comes, TakenAt, opening}
use Rattle.mysql_conversation.specs.Session.{IsSession, IsSessionBeginning, SessionTaken, TakenIn}
use Rattle.mysql_conversation.specs.declared.packet_kind.InitialPhase.{InitialPhase}
use Rattle.mysql_conversation.specs.declared.packet_kind.PacketKind.{PacketKind}
use Rattle.mysql_conversation.specs.declared.packet_kind.Side.{Side}
use Rattle.mysql_conversation.specs.declared.packet_kind.Side.TheVariants.{Server}
use Rattle.mysql_conversation.specs.declared.pipeline_state.PipelineState.{PipelineState}
use Rattle.mysql_conversation.specs.declared.session.Session.{Session}
use Rattle.mysql_packets_c.specs.Conversation.{ConversationTaken, Fills, IsBeginning, IsBegun, IsFull, IsLogin, IsNext, IsNotNext, IsOpening, IsState, IsWhole, Leads, LoginTaken, LogsIn, Taken, agreed_of, login_state_of, opening_of, packet_of, side_of, state_of}
use Rattle.mysql_packets_c.specs.declared.conversation.CConversation.{CConversation}
use Rattle.mysql_packets_c.specs.declared.conversation.CPacket.{CPacket}

one_opening : (n : ℕ) (o p : InitialPhase) → opening_of n ≡ Some o → opening_of n ≡ Some p → o ≡ p
one_opening n o p e f = same_Some o p (sym e ∙ f)

-- a session before its conversation has no opening of one
no_opening : (c : CConversation) (o : InitialPhase) → IsLogin c → opening_of c.opening ≡ Some o → ⊥
no_opening c o l e = let no : None ≡ Some o = sym (ap opening_of l) ∙ e in absurd cc

-- ---- in a conversation

pub taken_at : (c : CConversation) (o : InitialPhase) (items : List Numbered) → opening_of c.opening ≡ Some o → Taken c items → TakenAt (agreed_of c) (state_of c o) items
taken_at c o items e (inl l) = absurd (no_opening c o l.0 e)
taken_at c o items e (inr t) = subst (λ p. TakenAt (agreed_of c) (state_of c p) items) (one_opening c.opening t.0 o t.1 e) t.2

pub beginning_at : (c : CConversation) (o : InitialPhase) (items : List Numbered) → opening_of c.opening ≡ Some o → IsBeginning c items → IsPipelinedBeginning (agreed_of c) o items
beginning_at c o items e (inl l) = absurd (no_opening c o l.0 e)
beginning_at c o items e (inr b) = subst (λ p. IsPipelinedBeginning (agreed_of c) p items) (one_opening c.opening b.0 o b.1 e) b.2

whole_at : (c : CConversation) (o : InitialPhase) (items : List Numbered) → opening_of c.opening ≡ Some o → IsWhole c items → IsPipelined (agreed_of c) o items
whole_at c o items e (inl l) = absurd (no_opening c o l.0 e)
whole_at c o items e (inr w) = subst (λ p. IsPipelined (agreed_of c) p items) (one_opening c.opening w.0 o w.1 e) w.2

-- whether it is complete, as in the library
pub whole_is : (r : Bool) (c : CConversation) (o : InitialPhase) (items : List Numbered) → opening_of c.opening ≡ Some o → (IsTrue r ↔ IsPipelined (agreed_of c) o items) → IsTrue r ↔ IsWhole c items
whole_is r c o items e rests = ((λ f. inr (o, e, rests.0 f)), (λ w. rests.1 (whole_at c o items e w)))

-- a row is accepted if the library accepts it
pub row_taken : (r : Option (PacketKind × ℕ)) (c : CConversation) (o : InitialPhase) (payload : List ℕ) → opening_of c.opening ≡ Some o
    → IfSome r (λ x. (items : List Numbered) → TakenAt (agreed_of c) (state_of c o) items → TakenAt (agreed_of c) (state_of c o) (items ++ place Server payload x.0 x.1 ∷ []))
    → IfSome r (λ x. (items : List Numbered) → Taken c items → Taken c (items ++ place Server payload x.0 x.1 ∷ []))
row_taken None c o payload e h = tt
row_taken (Some x) c o payload e h = λ items t. inr (o, e, h items (taken_at c o items e t))

-- the numbers of the library's next state continue what was taken
pub goes_on : (before after : CConversation) (o : InitialPhase) (a : Agreed) (s next : PipelineState) (side : Side) (payload : List ℕ) (kind : PacketKind) (number : ℕ) (out : CPacket)
    → opening_of before.opening ≡ Some o → s ≡ state_of before o → a ≡ agreed_of before
    → opening_of after.opening ≡ Some next.current.opening → state_of after next.current.opening ≡ next → agreed_of after ≡ agreed_of before → out ≡ packet_of kind number
    → ((items : List Numbered) → TakenAt a s items → TakenAt a next (items ++ place side payload kind number ∷ []))
    → Leads before side payload after out
goes_on before after o a s next side payload kind number out e f g f' s' a' k h = (
  kind,
  number,
  k,
  inl (λ items t.
      let old : TakenAt a s items = subst (λ a. TakenAt a s items) (sym g) (subst (λ s. TakenAt (agreed_of before) s items) (sym f) (taken_at before o items e t)) in
      inr (
        next.current.opening,
        f',
        subst (λ d. TakenAt d (state_of after next.current.opening) (items ++ place side payload kind number ∷ [])) (g ∙ sym a')
            (subst (λ n. TakenAt a n (items ++ place side payload kind number ∷ [])) (sym s') (h items old)),
      )),
)

-- a conversation that begins
pub begun_at : (c : CConversation) (s : PipelineState) → opening_of c.opening ≡ Some s.current.opening → state_of c s.current.opening ≡ s → ((a : Agreed) → TakenAt a s []) → ConversationTaken c []
begun_at c s e f h = (s.current.opening, e, subst (λ s. TakenAt (agreed_of c) s []) (sym f) (h (agreed_of c)))

pub idle_at : (r : Bool) (c : CConversation) (o : InitialPhase) (s : PipelineState) (items : List Numbered) → opening_of c.opening ≡ Some o → s ≡ state_of c o
    → ((a : Agreed) (items : List Numbered) → TakenAt a s items → IsTrue r ↔ IsPipelined a (opening s) items) → Taken c items → IsTrue r ↔ IsWhole c items
idle_at r c o s items e f h t =
    let old : TakenAt (agreed_of c) s items = subst (λ s. TakenAt (agreed_of c) s items) (sym f) (taken_at c o items e t) in
    whole_is r c o items e (subst (λ s. IsTrue r ↔ IsPipelined (agreed_of c) (opening s) items) f (h (agreed_of c) items old))

-- the state has the same numbers in each phase
pub valid_is : (c : CConversation) (o : InitialPhase) (s t : PipelineState) → s ≡ state_of c o → t ≡ s → IsOpening c.opening → stands.IsState t ↔ IsState c
valid_is c o s t e f i = ((λ h. (i, subst (λ s. stands.IsState s) (f ∙ e) h)), (λ h. subst (λ s. stands.IsState s) (sym (f ∙ e)) h.1))

-- a packet that the library refuses, and one that it takes later
pub refused_at : (c : CConversation) (o : InitialPhase) (a : Agreed) (s : PipelineState) (side : Side) (payload : List ℕ) → opening_of c.opening ≡ Some o → s ≡ state_of c o → a ≡ agreed_of c
    → ((items : List Numbered) (kind : PacketKind) (number : ℕ) → TakenAt a s items → IsPipelinedBeginning a (opening s) (items ++ place side payload kind number ∷ []) → ⊥)
    → IsNotNext c side payload
refused_at c o a s side payload e f g h items kind number t b =
    h items kind number
    (subst (λ a. TakenAt a s items) (sym g) (subst (λ s. TakenAt (agreed_of c) s items) (sym f) (taken_at c o items e t)))
    (subst (λ a. IsPipelinedBeginning a (opening s) (items ++ place side payload kind number ∷ [])) (sym g)
    (subst (λ s. IsPipelinedBeginning (agreed_of c) (opening s) (items ++ place side payload kind number ∷ [])) (sym f) (beginning_at c o (items ++ place side payload kind number ∷ []) e b)))

pub comes_at : (c : CConversation) (o : InitialPhase) (a : Agreed) (s : PipelineState) (side : Side) (payload : List ℕ) → opening_of c.opening ≡ Some o → s ≡ state_of c o → a ≡ agreed_of c
    → Comes a s side payload → IsNext c side payload
comes_at c o a s side payload e f g h =
    let k : Comes (agreed_of c) (state_of c o) side payload = subst (λ s. Comes (agreed_of c) s side payload) f (subst (λ a. Comes a s side payload) g h) in
    λ items t. let n = k items (taken_at c o items e t) in (n.0, n.1, inr (o, e, n.2))

-- ---- before it

pub login_taken : (c : CConversation) (items : List Numbered) → IsLogin c → Taken c items → LoginTaken c items
login_taken c items l (inl t) = t
login_taken c items l (inr t) = absurd (no_opening c t.0 l t.1)

pub session_beginning : (c : CConversation) (items : List Numbered) → IsLogin c → IsBeginning c items → IsSessionBeginning items
session_beginning c items l (inl b) = b.1
session_beginning c items l (inr b) = absurd (no_opening c b.0 l b.1)

whole_session : (c : CConversation) (items : List Numbered) → IsLogin c → IsWhole c items → IsSession items
whole_session c items l (inl w) = w.1
whole_session c items l (inr w) = absurd (no_opening c w.0 l w.1)

pub session_is : (r : Bool) (c : CConversation) (items : List Numbered) → IsLogin c → (IsTrue r ↔ IsSession items) → IsTrue r ↔ IsWhole c items
session_is r c items l rests = ((λ f. inl (l, rests.0 f)), (λ w. rests.1 (whole_session c items l w)))

-- a session in the state of these numbers has accepted the packets that they describe
pub session_taken : (c : CConversation) (s : Session) (items : List Numbered) → IsLogin c → StandsAt (login_state_of c) s → Taken c items → SessionTaken s items
session_taken c s items l e h = let t = login_taken c items l h in subst (λ p. TakenIn p items) (same_Some t.1.0 s.phase (sym t.1.1 ∙ e)) t.1.2

-- the numbers accept what a session accepts before its conversation; or the conversation begins
pub leads : (before after : CConversation) (old new : Session) (side : Side) (payload : List ℕ) (kind : PacketKind) (number : ℕ) (out : CPacket)
    → IsLogin before → StandsAt (login_state_of before) old → out ≡ packet_of kind number
    → ((items : List Numbered) → SessionTaken old items → SessionTaken new (items ++ place side payload kind number ∷ []))
    → (((items : List Numbered) → SessionTaken new items → LoginTaken after items) ⊎ ((items : List Numbered) → SessionTaken new items → LogsIn after items))
    → Leads before side payload after out
leads before after old new side payload kind number out l e o h (inl t) =
    (kind, number, o, inl (λ items x. inl (t (items ++ place side payload kind number ∷ []) (h items (session_taken before old items l e x)))))
leads before after old new side payload kind number out l e o h (inr t) =
    (kind, number, o, inr (λ items x. t (items ++ place side payload kind number ∷ []) (h items (session_taken before old items l e x))))

-- ---- sides

pub side_below : (n : ℕ) (s : Side) → side_of n ≡ Some s → 2 ≤ n → ⊥
side_below n s e h =
    let a : (n == 0) ≡ false = ne_eqb n 0 (λ z. omega arith) in
    let b : (n == 1) ≡ false = ne_eqb n 1 (λ z. omega arith) in
    let none : side_of n ≡ None = rw (a, b) refl in
    let no : None ≡ Some s = sym none ∙ e in absurd cc

-- one side sends it
pub fills_is : {W : Type 0} (c : CConversation) (from : ℕ) (side : Side) (payload : List ℕ) → side_of from ≡ Some side → (W ↔ IsFull c side payload) → W ↔ Fills c from payload
fills_is c from side payload e w = (
  (λ x. (side, e, w.0 x)),
  (λ h. w.1 (subst (λ s. IsFull c s payload) (same_Some h.0 side (sym h.1 ∙ e)) h.2)),
)

-- numbers of no conversation are of nothing begun
pub begun_is : {W : Type 0} (c : CConversation) (from : ℕ) (side : Side) → side_of from ≡ Some side → (IsLogin c → ⊥) → (W ↔ (IsState c → ⊥)) → W ↔ ((2 ≤ from) ⊎ (IsBegun c → ⊥))
begun_is c from side e l w = (
  (λ x. inr (λ b. elim b [ inl a ↦ l a.0 | inr s ↦ w.0 x s ])),
  (λ h. elim h [ inl b ↦ absurd (side_below from side e b) | inr n ↦ w.1 (λ s. n (inr s)) ]),
)

-- ---- a flag that is 1 if this is true, otherwise 0

pub flag_is : {W : Type 0} (r : Bool) (flag : ℕ) → (r ≡ true → flag ≡ 1) → (r ≡ false → flag ≡ 0) → (IsTrue r ↔ W) → (flag ≡ 1) ↔ W
flag_is true flag when_true when_false w = ((λ f. w.0 refl), (λ x. when_true refl))
flag_is false flag when_true when_false w = ((λ f. let no : 0 ≡ 1 = sym (when_false refl) ∙ f in absurd cc), (λ x. let no : false ≡ true = w.1 x in absurd cc))
