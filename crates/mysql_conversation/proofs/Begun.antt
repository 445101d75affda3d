-- The machine accepts exactly the beginnings of conversations.
use Rattle.std.specs.Prelude.{◌&&◌, ◌==◌, not}
use Rattle.std.proofs.Common.{◌≡◌, ℕ, suc, List, [], ◌∷◌, ◌++◌, ◌⊎◌, inl, inr, Option, Some, None, Result, Ok, Err, IfOk, OnErr, refl, sym, ap, subst, ◌∙◌, Bool, true, false, cond}
use Rattle.std.proofs.lemmas.Bool.{and_parts}
use Rattle.mysql_conversation.specs.Agreements.{Agreed, reports_progress}
use Rattle.mysql_conversation.specs.Payloads.{has_more, first_is, IsOk, IsError, is_report, begins_with_ff, asks_cursor}
use Rattle.mysql_conversation.specs.Parts.{nothing, ◌followed_by◌, ◌or◌, many, broken}
use Rattle.mysql_wire.specs.Flags.{StatusFlags}
use Rattle.mysql_conversation.specs.Conversation as c
use Rattle.mysql_conversation.specs.Conversation.{Packet, IsConversation, IsBeginning, code_of, answering, asks, inside}
use Rattle.mysql_conversation.specs.Machine.{entrance, step, client_step, serve, begun, answers, answer_step, logged_in, authentication_step, last_ok, failed, error_step, reply_of, ok_status, rests, listens, is_due, is_login, reports, Run, take_step, Takes, TakesOne}
use Rattle.mysql_conversation.proofs.Runs.{join, part, once}
use Rattle.mysql_conversation.specs.Taken.{packet}
use Rattle.mysql_conversation.proofs.Classes.{chosen, some_is, reply_means}
use Rattle.mysql_conversation.proofs.States.{which_rests, due_of, due_runs, reports_parts, entrance_listens, entrance_login, step_listens, step_login, may_shut, failed_is, failed_no_report, error_ends}
use Rattle.mysql_conversation.proofs.Ends.{to_come, short_report}
use Rattle.mysql_conversation.proofs.Leads.{RunsOut, conversation_runs, inside_runs}
use Rattle.mysql_conversation.proofs.Tails.{tail_of, authenticating, serving, many_more, many_none}
use Rattle.mysql_conversation.proofs.Backwards.{back_serve, back_command, exchange_by, back_content, back_answer, back_authentication, back_ack, one_clone}
use Rattle.mysql_conversation.specs.declared.packet_kind.PacketKind.{PacketKind}
use Rattle.mysql_conversation.specs.declared.packet_kind.PacketKind.TheVariants as kind
use Rattle.mysql_conversation.specs.declared.packet_kind.InitialPhase.{InitialPhase}
use Rattle.mysql_conversation.specs.declared.packet_kind.InitialPhase.TheVariants as opened_at
use Rattle.mysql_conversation.specs.declared.packet_kind.Side.{Side}
use Rattle.mysql_conversation.specs.declared.packet_kind.Side.TheVariants.{Client, Server}
use Rattle.mysql_conversation.specs.declared.state.Answer.{Answer}
use Rattle.mysql_conversation.specs.declared.state.Answer.TheVariants as answer
use Rattle.mysql_conversation.specs.declared.state.Reply.{Reply}
use Rattle.mysql_conversation.specs.declared.state.Reply.TheVariants as reply
use Rattle.mysql_conversation.specs.declared.state.State.{State}
use Rattle.mysql_conversation.specs.declared.state.State.TheVariants as state

-- the rest of the exchange comes or is interrupted, and then other exchanges, up to the end
abbrev Open : Agreed → State → List Packet → Type 0
Open a s items = (mid : List Packet) × c.unless_broken a (tail_of a s) items mid × c.commanded a mid []

-- what comes up to the end: a refused login ends the connection, and so do COM_QUIT, COM_CLONE and an unsolicited error
abbrev pub Ahead : Agreed → State → List Packet → Type 0
Ahead a state.Rest items = c.commanded a items []
Ahead a state.Over items = items ≡ []
Ahead a state.Quit items = (nothing or c.unsolicited_error a) items []
Ahead a state.Clone items = many c.clone items []
Ahead a state.CloneReply items = ((c.ok a false followed_by many c.clone) or (c.error a followed_by c.commanded a)) items []
Ahead a (state.Authentication true b) items = ((authenticating a b followed_by c.commanded a) or broken (authenticating a b) c.IsInside (c.error a)) items []
Ahead a s items = Open a s items

no_more : (a : Agreed) → c.commanded a [] []
no_more a = ([], many_none _ [], inl refl)

last_comes : (a : Agreed) (items : List Packet) → c.last a items [] → c.commanded a items []
last_comes a items h = (items, many_none _ items, h)

-- in each state, the rest of an exchange comes or an interruption
opened : (a : Agreed) (s : State) (items : List Packet) → Ahead a s items → Open a s items
opened a state.Rest items h = (items, inl refl, h)
opened a state.Over items h = ([], inl h, no_more a)
opened a state.Quit items (inl h) = ([], inl h, no_more a)
opened a state.Quit items (inr h) = (items, inl refl, last_comes a items (inr (inr (inl h))))
opened a state.Clone items h = ([], inl h, no_more a)
opened a state.CloneReply items (inl h) = ([], inl (inl h), no_more a)
opened a state.CloneReply items (inr h) = (h.0, inl (inr h.1), h.2)
opened a (state.Authentication true b) items (inl h) = (h.0, inl h.1, h.2)
opened a (state.Authentication true b) items (inr h) = ([], inr h, no_more a)
opened a _ items h = h

-- ---- a packet before what comes

broken_before : (a : Agreed) (f g : List Packet → List Packet → Type 0) (x : Packet) (items mid : List Packet)
    → ((xs rest : List Packet) → f xs rest → g (x ∷ xs) rest) → broken f c.IsInside (c.error a) items mid → broken g c.IsInside (c.error a) (x ∷ items) mid
broken_before a f g x items mid h b = (x ∷ b.0, b.1, b.2, b.3, b.4, h (b.0 ++ b.1 ∷ b.2) [] b.5, ap (λ xs. x ∷ xs) b.6, b.7)

before : (a : Agreed) (s : State) (x : Packet) (m : State) (items mid : List Packet)
    → ((xs rest : List Packet) → tail_of a m xs rest → tail_of a s (x ∷ xs) rest)
    → c.unless_broken a (tail_of a m) items mid → c.unless_broken a (tail_of a s) (x ∷ items) mid
before a s x m items mid f (inl t) = inl (f items mid t)
before a s x m items mid f (inr b) = inr (broken_before a (tail_of a m) (tail_of a s) x items mid f b)

open_before : (a : Agreed) (s : State) (x : Packet) (m : State) (items : List Packet)
    → ((xs rest : List Packet) → tail_of a m xs rest → tail_of a s (x ∷ xs) rest) → Ahead a m items → Open a s (x ∷ items)
open_before a s x m items f t = let o = opened a m items t in (o.0, before a s x m items o.0 f o.1, o.2)

-- ---- commands

more_exchange : (a : Agreed) (items mid : List Packet) → c.unless_broken a (c.exchange a) items mid → c.commanded a mid [] → c.commanded a items []
more_exchange a items mid h t = (t.0, many_more _ items mid t.0 h t.1, t.2)

-- a complete or interrupted exchange, and others after it
one_exchange : (a : Agreed) (p : List ℕ) (r : Answer) (items : List Packet) → may_shut r ≡ false → answering (code_of p) (asks_cursor p) ≡ Some r → Open a (answers r) items
    → c.commanded a (packet Client p (kind.Command (code_of p)) ∷ items) []
one_exchange a p r items n e (mid, inl t, o) = more_exchange a _ mid (inl (back_command a p r items mid n e t)) o
one_exchange a p r items n e (mid, inr b, o) =
    more_exchange a _ mid (inr (broken_before a (tail_of a (answers r)) (c.exchange a) (packet Client p (kind.Command (code_of p))) items mid (λ xs rest t. back_command a p r xs rest n e t) b)) o

commanding_is : (p : List ℕ) (r : Answer) (items : List Packet) → answering (code_of p) (asks_cursor p) ≡ Some r → c.commanding r (packet Client p (kind.Command (code_of p)) ∷ items) items
commanding_is p r items e = (packet Client p (kind.Command (code_of p)), (refl, refl, e), refl)

-- a command that may end the connection
ahead_quit : (a : Agreed) (p : List ℕ) (items : List Packet) → answering (code_of p) (asks_cursor p) ≡ Some answer.Quit → Ahead a state.Quit items → c.commanded a (packet Client p (kind.Command (code_of p)) ∷ items) []
ahead_quit a p items e t = last_comes a _ (inr (inl (items, commanding_is p answer.Quit items e, t)))

ahead_clone : (a : Agreed) (p : List ℕ) (items : List Packet) → answering (code_of p) (asks_cursor p) ≡ Some answer.Clone → Ahead a state.CloneReply items → c.commanded a (packet Client p (kind.Command (code_of p)) ∷ items) []
ahead_clone a p items e (inl t) = last_comes a _ (inr (inr (inr (items, commanding_is p answer.Clone items e, t))))
ahead_clone a p items e (inr t) = more_exchange a _ t.0 (inl (exchange_by a p answer.Clone items t.0 e t.1)) t.2

ahead_answer : (a : Agreed) (p : List ℕ) (r : Answer) (items : List Packet) → answering (code_of p) (asks_cursor p) ≡ Some r → Ahead a (answers r) items → c.commanded a (packet Client p (kind.Command (code_of p)) ∷ items) []
ahead_answer a p answer.Quit items e t = ahead_quit a p items e t
ahead_answer a p answer.Clone items e t = ahead_clone a p items e t
ahead_answer a p (answer.Results r) items e t = one_exchange a p (answer.Results r) items refl e (opened a (answers (answer.Results r)) items t)
ahead_answer a p answer.Prepared items e t = one_exchange a p answer.Prepared items refl e (opened a (answers answer.Prepared) items t)
ahead_answer a p answer.Rows items e t = one_exchange a p answer.Rows items refl e (opened a (answers answer.Rows) items t)
ahead_answer a p (answer.Acknowledgement b) items e t = one_exchange a p (answer.Acknowledgement b) items refl e (opened a (answers (answer.Acknowledgement b)) items t)
ahead_answer a p answer.Text items e t = one_exchange a p answer.Text items refl e (opened a (answers answer.Text) items t)
ahead_answer a p answer.Fields items e t = one_exchange a p answer.Fields items refl e (opened a (answers answer.Fields) items t)
ahead_answer a p answer.Authentication items e t = one_exchange a p answer.Authentication items refl e (opened a (answers answer.Authentication) items t)
ahead_answer a p answer.Events items e t = one_exchange a p answer.Events items refl e (opened a (answers answer.Events) items t)
ahead_answer a p answer.Nothing items e t = one_exchange a p answer.Nothing items refl e (opened a (answers answer.Nothing) items t)
ahead_answer a p answer.SessionError items e t = one_exchange a p answer.SessionError items refl e (opened a (answers answer.SessionError) items t)

ahead_begun : (a : Agreed) (p : List ℕ) (r : Option Answer) (k : PacketKind) (m : State) (items : List Packet) → answering (code_of p) (asks_cursor p) ≡ r → begun (code_of p) r ≡ Some (k, m) → Ahead a m items → c.commanded a (packet Client p k ∷ items) []
ahead_begun a p None k m items e h t = absurd cc
ahead_begun a p (Some r) k m items e h t =
    subst (λ (x : PacketKind × State). Ahead a x.1 items → c.commanded a (packet Client p x.0 ∷ items) []) (some_is h) (λ t. ahead_answer a p r items e t) t

-- ---- packets of a login

login_before : (a : Agreed) (b : Bool) (x : Packet) (m : State) (items : List Packet) → (m ≡ state.Rest) ⊎ ((d : Bool) × (m ≡ state.Authentication true d))
    → ((xs rest : List Packet) → tail_of a m xs rest → authenticating a b (x ∷ xs) rest) → Ahead a m items → Ahead a (state.Authentication true b) (x ∷ items)
login_before a b x m items (inl e) f t =
    let g : c.commanded a items [] = subst (λ m. Ahead a m items) e t in
    inl (items, f items items (subst (λ m. tail_of a m items items) (sym e) refl), g)
login_before a b x m items (inr (d, e)) f t = by_part (subst (λ m. Ahead a m items) e t)
  where
    g : (xs rest : List Packet) → authenticating a d xs rest → authenticating a b (x ∷ xs) rest
    g xs rest h = f xs rest (subst (λ m. tail_of a m xs rest) (sym e) h)

    by_part : Ahead a (state.Authentication true d) items → Ahead a (state.Authentication true b) (x ∷ items)
    by_part (inl h) = inl (h.0, g items h.0 h.1, h.2)
    by_part (inr h) = inr (broken_before a (authenticating a d) (authenticating a b) x items [] g h)

after_ok : (status : Option StatusFlags) (k : PacketKind) (m : State) → logged_in status ≡ Some (k, m) → (m ≡ state.Rest) ⊎ ((d : Bool) × (m ≡ state.Authentication true d))
after_ok None k m h = absurd cc
after_ok (Some status) k m h = elim (chosen (has_more status) _ _ _ h) [
  | inl n ↦ absurd cc
  | inr n ↦ inl (sym (ap (λ (x : PacketKind × State). x.1) (some_is n.1)))
]

-- after a packet of a login it continues, or is over
login_goes_on : (a : Agreed) (p : List ℕ) (status : Option StatusFlags) (k : PacketKind) (m : State) → authentication_step a true p status ≡ Some (k, m) → (m ≡ state.Rest) ⊎ ((d : Bool) × (m ≡ state.Authentication true d))
login_goes_on a p status k m h = elim (chosen (first_is 0 p) _ _ _ h) [
  | inl z ↦ after_ok status k m z.1
  | inr z ↦ inr (true, sym (ap (λ (x : PacketKind × State). x.1) (some_is z.1)))
]

login_answers : (b : Bool) (k : PacketKind) (m : State) → answer_step true b ≡ Some (k, m) → (m ≡ state.Rest) ⊎ ((d : Bool) × (m ≡ state.Authentication true d))
login_answers true k m h = inr (false, sym (ap (λ (x : PacketKind × State). x.1) (some_is h)))
login_answers false k m h = absurd cc

-- ---- each step

clone_before : (a : Agreed) (side : Side) (p : List ℕ) (k : PacketKind) (m : State) (items : List Packet) → ◌≡◌ {A = Option (PacketKind × State)} (Some (kind.Clone, state.Clone)) (Some (k, m)) → Ahead a m items → Ahead a state.Clone (packet side p k ∷ items)
clone_before a side p k m items h t =
    subst (λ (x : PacketKind × State). Ahead a x.1 items → Ahead a state.Clone (packet side p x.0 ∷ items)) (some_is h) (λ t. one_clone side p items [] t) t

ahead_client : (a : Agreed) (s : State) (p : List ℕ) (k : PacketKind) (m : State) (items : List Packet)
    → client_step s p ≡ Some (k, m) → Ahead a m items → Ahead a s (packet Client p k ∷ items)
ahead_client a state.Rest p k m items h t = ahead_begun a p (answering (code_of p) (asks_cursor p)) k m items refl h t
ahead_client a (state.Authentication true b) p k m items h t = login_before a b (packet Client p k) m items (login_answers b k m h) (λ xs rest u. back_answer a true b p k m xs rest h u) t
ahead_client a (state.Authentication false b) p k m items h t = open_before a (state.Authentication false b) (packet Client p k) m items (λ xs rest u. back_answer a false b p k m xs rest h u) t
ahead_client a (state.Infile r) p k m items h t = open_before a (state.Infile r) (packet Client p k) m items (λ xs rest u. back_content a r p k m xs rest h u) t
ahead_client a state.Events p k m items h t = open_before a state.Events (packet Client p k) m items (λ xs rest u. back_ack a p k m xs rest h u) t
ahead_client a state.Clone p k m items h t = clone_before a Client p k m items h t
ahead_client a _ p k m items h t = absurd cc

-- the OK packet that answers COM_CLONE
clone_answered : (a : Agreed) (p : List ℕ) (r : Option Reply) (k : PacketKind) (m : State) (items : List Packet) → first_is 0xff p ≡ false → reply_of a p ≡ r → last_ok state.Clone r ≡ Some (k, m) → Ahead a m items → Ahead a state.CloneReply (packet Server p k ∷ items)
clone_answered a p (Some (reply.Ok false)) k m items e v h t =
    subst (λ (x : PacketKind × State). Ahead a x.1 items → Ahead a state.CloneReply (packet Server p x.0 ∷ items)) (some_is h)
    (λ t. inl (items, serving kind.Ok (IsOk a false) p items items refl e (reply_means a p _ v), t)) t
clone_answered a p (Some (reply.Ok true)) k m items e v h t = absurd cc
clone_answered a p _ k m items e v h t = absurd cc

ahead_serve : (a : Agreed) (s : State) (p : List ℕ) (k : PacketKind) (m : State) (items : List Packet)
    → first_is 0xff p ≡ false → serve a s p ≡ Some (k, m) → Ahead a m items → Ahead a s (packet Server p k ∷ items)
ahead_serve a state.Clone p k m items e h t = clone_before a Server p k m items h t
ahead_serve a state.CloneReply p k m items e h t = clone_answered a p (reply_of a p) k m items e refl h t
ahead_serve a (state.Authentication true b) p k m items e h t =
    login_before a b (packet Server p k) m items (login_goes_on a p (ok_status a p) k m h) (λ xs rest u. back_authentication a true b p k m xs rest e h u) t
ahead_serve a (state.Authentication false b) p k m items e h t = open_before a (state.Authentication false b) (packet Server p k) m items (λ xs rest u. back_serve a (state.Authentication false b) p k m xs rest e h u) t
ahead_serve a (state.Reply r) p k m items e h t = open_before a (state.Reply r) (packet Server p k) m items (λ xs rest u. back_serve a (state.Reply r) p k m xs rest e h u) t
ahead_serve a (state.InfileReply r) p k m items e h t = open_before a (state.InfileReply r) (packet Server p k) m items (λ xs rest u. back_serve a (state.InfileReply r) p k m xs rest e h u) t
ahead_serve a (state.Definitions n b) p k m items e h t = open_before a (state.Definitions n b) (packet Server p k) m items (λ xs rest u. back_serve a (state.Definitions n b) p k m xs rest e h u) t
ahead_serve a (state.DefinitionsEnd b) p k m items e h t = open_before a (state.DefinitionsEnd b) (packet Server p k) m items (λ xs rest u. back_serve a (state.DefinitionsEnd b) p k m xs rest e h u) t
ahead_serve a (state.Rows r) p k m items e h t = open_before a (state.Rows r) (packet Server p k) m items (λ xs rest u. back_serve a (state.Rows r) p k m xs rest e h u) t
ahead_serve a state.Prepared p k m items e h t = open_before a state.Prepared (packet Server p k) m items (λ xs rest u. back_serve a state.Prepared p k m xs rest e h u) t
ahead_serve a state.Fetch p k m items e h t = open_before a state.Fetch (packet Server p k) m items (λ xs rest u. back_serve a state.Fetch p k m xs rest e h u) t
ahead_serve a (state.Acknowledgement d) p k m items e h t = open_before a (state.Acknowledgement d) (packet Server p k) m items (λ xs rest u. back_serve a (state.Acknowledgement d) p k m xs rest e h u) t
ahead_serve a state.Text p k m items e h t = open_before a state.Text (packet Server p k) m items (λ xs rest u. back_serve a state.Text p k m xs rest e h u) t
ahead_serve a state.Fields p k m items e h t = open_before a state.Fields (packet Server p k) m items (λ xs rest u. back_serve a state.Fields p k m xs rest e h u) t
ahead_serve a state.Events p k m items e h t = open_before a state.Events (packet Server p k) m items (λ xs rest u. back_serve a state.Events p k m xs rest e h u) t
ahead_serve a _ p k m items e h t = absurd cc

-- ---- errors

-- an error, which interrupts the exchange
broken_by : (a : Agreed) (s : State) (p : List ℕ) (items : List Packet) → rests s ≡ false → IsError a p → broken (tail_of a s) c.IsInside (c.error a) (packet Server p kind.Error ∷ items) items
broken_by a s p items n e =
    let x = to_come a s n in
    ([], x.0, x.1, packet Server p kind.Error ∷ items, x.2, x.3, refl, (packet Server p kind.Error, (refl, refl, e), refl))

open_error : (a : Agreed) (s : State) (p : List ℕ) (items : List Packet) → rests s ≡ false → IsError a p → c.commanded a items [] → Open a s (packet Server p kind.Error ∷ items)
open_error a s p items n e t = (items, inr (broken_by a s p items n e), t)

error_is : {j k : PacketKind} {n m : State} (a : Agreed) (s : State) (p : List ℕ) (items : List Packet) → ◌≡◌ {A = Option (PacketKind × State)} (Some (j, n)) (Some (k, m))
    → (Ahead a n items → Ahead a s (packet Server p j ∷ items)) → Ahead a m items → Ahead a s (packet Server p k ∷ items)
error_is a s p items h f t = subst (λ (x : PacketKind × State). Ahead a x.1 items → Ahead a s (packet Server p x.0 ∷ items)) (some_is h) f t

ahead_error : (a : Agreed) (s : State) (p : List ℕ) (k : PacketKind) (m : State) (items : List Packet) → IsError a p → error_step s ≡ Some (k, m) → Ahead a m items → Ahead a s (packet Server p k ∷ items)
ahead_error a state.Rest p k m items e h t = error_is a state.Rest p items h
    (λ t. last_comes a _ (inr (inr (inl (packet Server p kind.UnsolicitedError, (refl, refl, e), ap (λ xs. packet Server p kind.UnsolicitedError ∷ xs) t))))) t
ahead_error a state.Quit p k m items e h t = error_is a state.Quit p items h
    (λ t. inr (packet Server p kind.UnsolicitedError, (refl, refl, e), ap (λ xs. packet Server p kind.UnsolicitedError ∷ xs) t)) t
ahead_error a state.Over p k m items e h t = absurd cc
ahead_error a state.Clone p k m items e h t = clone_before a Server p k m items h t
ahead_error a state.CloneReply p k m items e h t = error_is a state.CloneReply p items h (λ t. inr (items, (packet Server p kind.Error, (refl, refl, e), refl), t)) t
ahead_error a (state.Authentication true b) p k m items e h t = error_is a (state.Authentication true b) p items h
    (λ t. inr (subst (λ xs. broken (authenticating a b) c.IsInside (c.error a) (packet Server p kind.Error ∷ items) xs) t (broken_by a (state.Authentication true b) p items refl e))) t
ahead_error a (state.Authentication false b) p k m items e h t = error_is a (state.Authentication false b) p items h (λ t. open_error a (state.Authentication false b) p items refl e t) t
ahead_error a (state.Reply r) p k m items e h t = error_is a (state.Reply r) p items h (λ t. open_error a (state.Reply r) p items refl e t) t
ahead_error a (state.Infile r) p k m items e h t = error_is a (state.Infile r) p items h (λ t. open_error a (state.Infile r) p items refl e t) t
ahead_error a (state.InfileReply r) p k m items e h t = error_is a (state.InfileReply r) p items h (λ t. open_error a (state.InfileReply r) p items refl e t) t
ahead_error a (state.Definitions n b) p k m items e h t = error_is a (state.Definitions n b) p items h (λ t. open_error a (state.Definitions n b) p items refl e t) t
ahead_error a (state.DefinitionsEnd b) p k m items e h t = error_is a (state.DefinitionsEnd b) p items h (λ t. open_error a (state.DefinitionsEnd b) p items refl e t) t
ahead_error a (state.Rows r) p k m items e h t = error_is a (state.Rows r) p items h (λ t. open_error a (state.Rows r) p items refl e t) t
ahead_error a state.Prepared p k m items e h t = error_is a state.Prepared p items h (λ t. open_error a state.Prepared p items refl e t) t
ahead_error a state.Fetch p k m items e h t = error_is a state.Fetch p items h (λ t. open_error a state.Fetch p items refl e t) t
ahead_error a (state.Acknowledgement d) p k m items e h t = error_is a (state.Acknowledgement d) p items h (λ t. open_error a (state.Acknowledgement d) p items refl e t) t
ahead_error a state.Text p k m items e h t = error_is a state.Text p items h (λ t. open_error a state.Text p items refl e t) t
ahead_error a state.Fields p k m items e h t = error_is a state.Fields p items h (λ t. open_error a state.Fields p items refl e t) t
ahead_error a state.Events p k m items e h t = error_is a state.Events p items h (λ t. open_error a state.Events p items refl e t) t
ahead_error a state.SessionError p k m items e h t = error_is a state.SessionError p items h (λ t. open_error a state.SessionError p items refl e t) t

clone_pair : (k : PacketKind) (m : State) → kind.Clone ≡ k → state.Clone ≡ m → ◌≡◌ {A = Option (PacketKind × State)} (Some (kind.Clone, state.Clone)) (Some (k, m))
clone_pair k m a b = subst (λ k. ◌≡◌ {A = Option (PacketKind × State)} (Some (kind.Clone, state.Clone)) (Some (k, m))) a (ap (λ (m : State). Some (kind.Clone, m)) b)

ahead_failed : (a : Agreed) (s : State) (p : List ℕ) (k : PacketKind) (m : State) (items : List Packet) → first_is 0xff p ≡ true → failed (is_report a p) s ≡ Some (k, m) → Ahead a m items → Ahead a s (packet Server p k ∷ items)
ahead_failed a s p k m items f h t = elim (failed_is (is_report a p) s k m h) [
  | inl e ↦ ahead_error a s p k m items (f, e.0) e.1 t
  | inr e ↦ subst (λ s. Ahead a s (packet Server p k ∷ items)) (sym e.0) (clone_before a Server p k m items (clone_pair k m e.1 e.2) t)
]

ahead_step : (a : Agreed) (s : State) (side : Side) (p : List ℕ) (k : PacketKind) (m : State) (items : List Packet)
    → step a s side p ≡ Some (k, m) → Ahead a m items → Ahead a s (packet side p k ∷ items)
ahead_step a s Client p k m items h t = ahead_client a s p k m items h t
ahead_step a s Server p k m items h t = elim (chosen (first_is 0xff p) _ _ _ h) [
  | inl e ↦ ahead_failed a s p k m items e.0 e.1 t
  | inr e ↦ ahead_serve a s p k m items e.0 e.1 t
]

ahead_rests : (a : Agreed) (s : State) → rests s ≡ true → Ahead a s []
ahead_rests a state.Rest h = no_more a
ahead_rests a state.Clone h = many_none c.clone []
ahead_rests a state.Quit h = inl refl
ahead_rests a state.Over h = refl
ahead_rests a _ h = absurd cc

run_ahead : (a : Agreed) (s : State) (items : List Packet) (t : State) → rests t ≡ true → Run a s items t → Ahead a s items
run_ahead a s [] t n h = ahead_rests a s (ap rests h ∙ n)
run_ahead a s (x ∷ items) t n h = ahead_step a s x.from x.payload x.kind h.0 items h.1 (run_ahead a h.0 items t n h.2)

-- what comes from a conversation's beginning on
ahead_is_conversation : (a : Agreed) (o : InitialPhase) (items : List Packet) → Ahead a (entrance o) items → c.conversation a o items
ahead_is_conversation a opened_at.Login items h = h
ahead_is_conversation a opened_at.Commands items h = h

-- packets that the machine accepts are a conversation if no exchange is running after them
pub run_is_conversation : (a : Agreed) (o : InitialPhase) (items : List Packet) → RunsOut a (entrance o) items → c.conversation a o items
run_is_conversation a o items h = ahead_is_conversation a o items (run_ahead a (entrance o) items h.0 h.2 h.1)

-- ---- some packets lead to a state without a running exchange

each_ends : (a : Agreed) (s : State) → (more : List Packet) × RunsOut a s more
each_ends a s = elim (which_rests s) [
  | inl e ↦ ([], (s, refl, e))
  | inr n ↦ (let e = error_ends s n in (packet Server (0xff ∷ []) kind.Error ∷ [], (e.0, (e.0, rw (short_report a) (failed_no_report s ∙ e.1), refl), e.2)))
]

-- ---- progress reports among the packets

report_is_error : (n : ℕ) (p : List ℕ) → begins_with_ff (suc n) p ≡ true → first_is 0xff p ≡ true
report_is_error n [] h = absurd cc
report_is_error n (b ∷ p) h = (and_parts (b == 0xff) (begins_with_ff n p) h).0

report_or_not : (a : Agreed) (p : List ℕ) (b : Bool) → is_report a p ≡ b → first_is 0xff p ≡ false → b ≡ false
unfolding is_report
report_or_not a p false e h = refl
report_or_not a p true e h = let f = report_is_error 2 p (and_parts (reports_progress a) (begins_with_ff 3 p) e).1 in absurd cc

pub no_report : (a : Agreed) (p : List ℕ) → first_is 0xff p ≡ false → is_report a p ≡ false
no_report a p h = report_or_not a p (is_report a p) refl h

-- a packet that is no report is accepted as without reports
unreported : (a : Agreed) (s : State) (p : List ℕ) → is_report a p ≡ false → take_step a s Server p ≡ step a s Server p
unreported a s p h = ap (λ b. cond (b && reports s) (Some (kind.ProgressReport, s)) (step a s Server p)) h

both_no : (b : Bool) → (b && false) ≡ false
both_no true = refl
both_no false = refl

-- nor where no report may come
quiet_step : (a : Agreed) (s : State) (p : List ℕ) → reports s ≡ false → take_step a s Server p ≡ step a s Server p
quiet_step a s p d = ap (λ b. cond (is_report a p && b) (Some (kind.ProgressReport, s)) (step a s Server p)) d ∙ ap (λ b. cond b (Some (kind.ProgressReport, s)) (step a s Server p)) (both_no (is_report a p))

-- what is accepted without reports is accepted
step_takes : (a : Agreed) (s : State) (side : Side) (p : List ℕ) (k : PacketKind) (m : State) → step a s side p ≡ Some (k, m) → take_step a s side p ≡ Some (k, m)
step_takes a s Client p k m h = h
step_takes a s Server p k m h = elim (chosen (first_is 0xff p) _ _ _ h) [
  | inl e ↦ elim (failed_is (is_report a p) s k m e.1) [
    | inl r ↦ unreported a s p r.0 ∙ h
    | inr r ↦ quiet_step a s p (ap reports r.0) ∙ h
  ]
  | inr e ↦ unreported a s p (no_report a p e.0) ∙ h
]

pub run_takes : (a : Agreed) (s : State) (xs : List Packet) (t : State) → Run a s xs t → Takes a s xs t
run_takes a s [] t r = r
run_takes a s (x ∷ xs) t r = (r.0, step_takes a s x.from x.payload x.kind r.0 r.1, run_takes a r.0 xs t r.2)

-- packets with reports among them lead to a state without a running exchange
abbrev pub TakesOut : Agreed → State → List Packet → Type 0
TakesOut a s items = (t : State) × Takes a s items t × (rests t ≡ true)

each_takes : (a : Agreed) (s : State) → (more : List Packet) × TakesOut a s more
each_takes a s = let e = each_ends a s in (e.0, (e.1.0, run_takes a s e.0 e.1.0 e.1.1, e.1.2))

next_runs : (a : Agreed) (s : State) (xs : List Packet) (t : State) → c.InsideIsNext xs → Run a s xs t → rests s ≡ false
next_runs a s [] t h r = absurd h
next_runs a s (x ∷ xs) t h r = inside_runs a s x r.0 h r.1

runs_next : (a : Agreed) (s : State) (xs : List Packet) (t : State) → rests t ≡ true → rests s ≡ false → Run a s xs t → c.InsideIsNext xs
runs_next a s [] t o n r = let no : rests s ≡ true = ap rests r ∙ o in absurd cc
runs_next a s (x ∷ xs) t o n r = (step_listens a s x.from x.payload x.kind r.0 r.1).1 ∙ ap not n

report_taken : (a : Agreed) (s : State) (x : Packet) → c.IsReport a x → is_due s ≡ true → is_login s ≡ false → take_step a s x.from x.payload ≡ Some (x.kind, s)
report_taken a s x h d l = rw (h.0, h.1, h.2, d, l) refl

reported_takes : (a : Agreed) (s : State) (l b : Bool) (items others : List Packet) (t : State) → is_login s ≡ l → listens s ≡ b → c.Reported a l b items others → Run a s others t → Takes a s items t
reported_takes a s l b [] others t e f h r = subst (λ xs. Run a s xs t) h r
reported_takes a s l b (x ∷ items) others t e f (inl h) r =
    let over : is_login s ≡ false = e ∙ h.1 in
    let quiet : listens s ≡ false = f ∙ h.2 in
    (s, report_taken a s x h.0 (due_of s (next_runs a s others t h.3 r) quiet) over, reported_takes a s false false items others t over quiet h.4 r)
reported_takes a s l b (x ∷ items) others t e f (inr h) r =
    let q : Run a s (x ∷ h.0) t = subst (λ xs. Run a s xs t) h.1 r in (
      q.0,
      step_takes a s x.from x.payload x.kind q.0 q.1,
      reported_takes a q.0 (l && not (c.ends_login x.kind)) (asks x.kind) items h.0 t (step_login a s x.from x.payload x.kind q.0 q.1 ∙ ap (λ l. l && not (c.ends_login x.kind)) e)
          (step_listens a s x.from x.payload x.kind q.0 q.1).0 h.2 q.2,
    )

-- an accepted packet is a report, or is accepted without reports
taken_as : (a : Agreed) (s : State) (side : Side) (p : List ℕ) (k : PacketKind) (m : State) → take_step a s side p ≡ Some (k, m)
    → ((side ≡ Server) × (is_report a p ≡ true) × (reports s ≡ true) × (kind.ProgressReport ≡ k) × (s ≡ m)) ⊎ (step a s side p ≡ Some (k, m))
taken_as a s Client p k m h = inr h
taken_as a s Server p k m h = elim (chosen (is_report a p && reports s) _ _ _ h) [
  | inl r ↦ (let e = some_is r.1 in let b = and_parts (is_report a p) (reports s) r.0 in inl (refl, b.0, b.1, ap (λ (o : PacketKind × State). o.0) e, ap (λ (o : PacketKind × State). o.1) e))
  | inr r ↦ inr r.1
]

-- one more packet, with reports
more_reported : (a : Agreed) (s : State) (x : Packet) (m : State) (items others : List Packet) (t : State) → rests t ≡ true
    → ((x.from ≡ Server) × (is_report a x.payload ≡ true) × (reports s ≡ true) × (kind.ProgressReport ≡ x.kind) × (s ≡ m)) ⊎ (step a s x.from x.payload ≡ Some (x.kind, m))
    → c.Reported a (is_login m) (listens m) items others → Run a m others t → (all : List Packet) × c.Reported a (is_login s) (listens s) (x ∷ items) all × Run a s all t
more_reported a s x m items others t o (inl h) w r =
    let q : Run a s others t = subst (λ s. Run a s others t) (sym h.4) r in
    let may = reports_parts s h.2 in
    let d = due_runs s may.0 in
    let u : c.Reported a false (listens m) items others = subst (λ l. c.Reported a l (listens m) items others) (ap is_login (sym h.4) ∙ may.1) w in
    let v : c.Reported a false false items others = subst (λ b. c.Reported a false b items others) (ap listens (sym h.4) ∙ d.1) u in
    (others, inl ((h.0, sym h.3, h.1), may.1, d.1, runs_next a s others t o d.0 q, v), q)
more_reported a s x m items others t o (inr h) w r =
    let l = is_login s && not (c.ends_login x.kind) in
    let u : c.Reported a l (listens m) items others = subst (λ l. c.Reported a l (listens m) items others) (step_login a s x.from x.payload x.kind m h) w in
    let v : c.Reported a l (asks x.kind) items others = subst (λ b. c.Reported a l b items others) (step_listens a s x.from x.payload x.kind m h).0 u in
    (x ∷ others, inr (others, refl, v), (m, h, r))

takes_reported : (a : Agreed) (s : State) (items : List Packet) (t : State) → rests t ≡ true → Takes a s items t → (others : List Packet) × c.Reported a (is_login s) (listens s) items others × Run a s others t
takes_reported a s [] t o r = ([], refl, r)
takes_reported a s (x ∷ items) t o r =
    let h = takes_reported a r.0 items t o r.2 in
    more_reported a s x r.0 items h.0 t o (taken_as a s x.from x.payload x.kind r.0 r.1) h.1 h.2

pub conversation_takes : (a : Agreed) (o : InitialPhase) (items : List Packet) → IsConversation a o items → TakesOut a (entrance o) items
conversation_takes a o items h =
    let r = conversation_runs a o h.0 h.1 in
    (r.0, reported_takes a (entrance o) (c.begins_with_login o) false items h.0 r.0 (entrance_login o) (entrance_listens o) h.2 r.1, r.2)

pub takes_is_conversation : (a : Agreed) (o : InitialPhase) (items : List Packet) → TakesOut a (entrance o) items → IsConversation a o items
takes_is_conversation a o items r =
    let h = takes_reported a (entrance o) items r.0 r.2 r.1 in
    let u : c.Reported a (c.begins_with_login o) (listens (entrance o)) items h.0 = subst (λ l. c.Reported a l (listens (entrance o)) items h.0) (entrance_login o) h.1 in
    (h.0, run_is_conversation a o h.0 (r.0, h.2, r.2), subst (λ b. c.Reported a (c.begins_with_login o) b items h.0) (entrance_listens o) u)

-- ---- the beginning of a conversation

pub takes_is_beginning : (a : Agreed) (o : InitialPhase) (items : List Packet) (t : State) → Takes a (entrance o) items t → IsBeginning a o items
takes_is_beginning a o items t r =
    let h = each_takes a t in
    (h.0, takes_is_conversation a o (items ++ h.0) (h.1.0, join (TakesOne a) (entrance o) items t h.0 h.1.0 r h.1.1, h.1.2))

pub beginning_takes : (a : Agreed) (o : InitialPhase) (items : List Packet) → IsBeginning a o items → (t : State) × Takes a (entrance o) items t
beginning_takes a o items h =
    let g = conversation_takes a o (items ++ h.0) h.1 in
    let r = part (TakesOne a) (entrance o) items h.0 g.0 g.1 in
    (r.0, r.1)

-- the machine has one state after a packet
pub one_state : (a : Agreed) (s : State) (x : Packet) (m n : State) → TakesOne a s x m → TakesOne a s x n → m ≡ n
one_state a s x m n e f = ap (λ (o : PacketKind × State). o.1) (some_is (sym e ∙ f))

-- if a packet is refused, the list with it is no beginning under any kind
pub refused : (a : Agreed) (o : InitialPhase) (items : List Packet) (s : State) (x : Packet) → Takes a (entrance o) items s → take_step a s x.from x.payload ≡ None → IsBeginning a o (items ++ x ∷ []) → ⊥
refused a o items s x r e h =
    let b = beginning_takes a o (items ++ x ∷ []) h in
    let p = part (TakesOne a) (entrance o) items (x ∷ []) b.0 b.1 in
    let same : p.0 ≡ s = once (TakesOne a) (one_state a) (entrance o) items p.0 s p.1 r in
    let q : take_step a p.0 x.from x.payload ≡ Some (x.kind, p.2.0) = p.2.1 in
    let none : take_step a p.0 x.from x.payload ≡ None = subst (λ s. take_step a s x.from x.payload ≡ None) (sym same) e in
    absurd (cc (q, none))

-- ---- no exchange runs, and one more packet

pub at_rest_is : (a : Agreed) (o : InitialPhase) (items : List Packet) (s : State) → Takes a (entrance o) items s → rests s ≡ true → IsConversation a o items
at_rest_is a o items s r e = takes_is_conversation a o items (s, r, e)

pub conversation_at_rest : (a : Agreed) (o : InitialPhase) (items : List Packet) (s : State) → Takes a (entrance o) items s → IsConversation a o items → rests s ≡ true
conversation_at_rest a o items s r h =
    let g = conversation_takes a o items h in
    ap rests (once (TakesOne a) (one_state a) (entrance o) items s g.0 r g.1) ∙ g.2

pub one_more : (a : Agreed) (o : InitialPhase) (items : List Packet) (s : State) (side : Side) (p : List ℕ) (k : PacketKind) (m : State) → Takes a (entrance o) items s → take_step a s side p ≡ Some (k, m) → Takes a (entrance o) (items ++ packet side p k ∷ []) m
one_more a o items s side p k m r e = join (TakesOne a) (entrance o) items s (packet side p k ∷ []) m r (m, e, refl)

-- the earlier packets determine a packet's kind
pub one_kind : (a : Agreed) (o : InitialPhase) (items : List Packet) (side : Side) (p : List ℕ) (j k : PacketKind)
    → IsBeginning a o (items ++ packet side p j ∷ []) → IsBeginning a o (items ++ packet side p k ∷ []) → j ≡ k
one_kind a o items side p j k g h =
    let b = beginning_takes a o (items ++ packet side p j ∷ []) g in
    let d = beginning_takes a o (items ++ packet side p k ∷ []) h in
    let x = part (TakesOne a) (entrance o) items (packet side p j ∷ []) b.0 b.1 in
    let y = part (TakesOne a) (entrance o) items (packet side p k ∷ []) d.0 d.1 in
    let same : x.0 ≡ y.0 = once (TakesOne a) (one_state a) (entrance o) items x.0 y.0 x.1 y.1 in
    let u : take_step a y.0 side p ≡ Some (j, x.2.0) = subst (λ s. take_step a s side p ≡ Some (j, x.2.0)) same x.2.1 in
    ap (λ (o : PacketKind × State). o.0) (some_is (sym u ∙ y.2.1))

-- what holds for each accepted kind holds for the returned one
pub each_taken : {E : Type 0} (o : Result PacketKind E) (P Q : PacketKind → Type 0) → ((k : PacketKind) → P k → Q k) → IfOk o P → IfOk o Q
each_taken (Ok k) P Q f h = f k h
each_taken (Err e) P Q f h = tt

pub each_refused : {E : Type 0} (o : Result PacketKind E) (P Q : Type 0) → (P → Q) → OnErr o P → OnErr o Q
each_refused (Ok k) P Q f h = tt
each_refused (Err e) P Q f h = f h
