-- The effects of commands, and of the client's other packets.
use Rattle.std.proofs.Common.{◌≡◌, ℕ, List, [], ◌∷◌, ◌⊎◌, inl, inr, Option, Some, None, refl, sym, ap, subst, ◌∙◌, Bool, true, false}
use Rattle.std.proofs.lemmas.Bool.{eqb-true}
use Rattle.std.specs.Prelude.{◌==◌, not}
use Rattle.mysql_conversation.specs.Payloads.{first_is, asks_cursor}
use Rattle.mysql_conversation.specs.Conversation.{code_of, answering, commands}
use Rattle.mysql_conversation.specs.Machine.{take_step, client_step, rests, is_shut, listens, is_due, answers, begun, ack_step}
use Rattle.mysql_conversation.specs.Machine as machine
use Rattle.mysql_conversation.specs.Standing.{kind_of, begin, command_of, known, is_quit}
use Rattle.mysql_conversation.proofs.Classes.{some_is}
use Rattle.mysql_conversation.proofs.States.{take_listens, answers_quiet, answers_shut, inside_command}
use Rattle.mysql_conversation.specs.Agreements.{Agreed}
use Rattle.mysql_conversation.specs.declared.state.Answer.{Answer}
use Rattle.mysql_conversation.specs.declared.state.Answer.TheVariants as answer
use Rattle.mysql_conversation.specs.declared.state.Command.{Command}
use Rattle.mysql_conversation.specs.declared.packet_kind.PacketKind.{PacketKind}
use Rattle.mysql_conversation.specs.declared.packet_kind.Side.TheVariants.{Client}
use Rattle.mysql_conversation.specs.declared.state.State.{State}
use Rattle.mysql_conversation.specs.declared.state.State.TheVariants as state

-- a command between exchanges
abbrev pub command_step : Option Command → Option (PacketKind × State)
command_step None = None
command_step (Some c) = Some (kind_of c, begin c)

known_begun : (code : ℕ) (r : Option Answer) → begun code r ≡ command_step (known code r)
known_begun code None = refl
known_begun code (Some r) = refl

pub rest_command : (p : List ℕ) → machine.command_step p ≡ command_step (command_of p)
rest_command p = known_begun (code_of p) (answering (code_of p) (asks_cursor p))

pub rest_step_is : (d : Agreed) (p : List ℕ) → take_step d state.Rest Client p ≡ command_step (command_of p)
rest_step_is d p = rest_command p

pub kind_is_command : (c : Command) → commands (kind_of c) ≡ true
kind_is_command c = refl

pub begin_listens : (c : Command) → listens (begin c) ≡ false
begin_listens c = answers_quiet c.answer

-- no command comes after COM_QUIT
pub begin_shut : (c : Command) → is_shut (begin c) ≡ is_quit c.answer
begin_shut c = answers_shut c.answer

-- the answer to a command is due, if there is one
pub begin_due : (c : Command) → (begin c ≡ state.Rest) ⊎ ((is_quit c.answer ≡ true) ⊎ (is_due (begin c) ≡ true))
begin_due c = answers_due c.answer
  where
    answers_due : (r : Answer) → (answers r ≡ state.Rest) ⊎ ((is_quit r ≡ true) ⊎ (is_due (answers r) ≡ true))
    answers_due answer.Nothing = inl refl
    answers_due answer.Quit = inr (inl refl)
    answers_due _ = inr (inr refl)

-- the client's packets in a running exchange are no commands
pub running_kind : (d : Agreed) (s : State) (p : List ℕ) (k : PacketKind) (m : State) → rests s ≡ false → take_step d s Client p ≡ Some (k, m) → commands k ≡ false
running_kind d s p k m n h = inside_command k ((take_listens d s Client p k m h).1 ∙ ap not n)

-- no command begins like an acknowledgement
no_ack : (p : List ℕ) (c : Command) → command_of p ≡ Some c → first_is 0xef p ≡ false
no_ack [] c h = refl
no_ack (code ∷ bytes) c h = not_ef code (code == 0xef) refl h
  where
    none : (x : ℕ) → x ≡ 0xef → known x (answering x (asks_cursor (code ∷ bytes))) ≡ None
    none x e = subst (λ x. known x (answering x (asks_cursor (code ∷ bytes))) ≡ None) (sym e) refl

    not_ef : (x : ℕ) (b : Bool) → (x == 0xef) ≡ b → known x (answering x (asks_cursor (code ∷ bytes))) ≡ Some c → b ≡ false
    not_ef x false e h = refl
    not_ef x true e h = let n = none x (eqb-true x 0xef e) in absurd (cc (n, h))

ack_refused : (p : List ℕ) (c : Command) → command_of p ≡ Some c → ack_step p ≡ None
ack_refused p c h = rw (no_ack p c h) refl

-- at the server's turn, a command is no packet of the exchange
pub no_aside : (d : Agreed) (s : State) (p : List ℕ) (c : Command) → is_due s ≡ true → command_of p ≡ Some c → take_step d s Client p ≡ None
no_aside d state.Rest p c h e = absurd cc
no_aside d (state.Authentication login true) p c h e = absurd cc
no_aside d (state.Infile r) p c h e = absurd cc
no_aside d state.Events p c h e = ack_refused p c e
no_aside d state.Clone p c h e = absurd cc
no_aside d state.Quit p c h e = absurd cc
no_aside d state.Over p c h e = absurd cc
no_aside d _ p c h e = refl

kind_at : (k : PacketKind) (m : State) (r : Option Command) → command_step r ≡ Some (k, m) → commands k ≡ true
kind_at k m None h = absurd cc
kind_at k m (Some c) h = ap (λ (o : PacketKind × State). commands o.0) (some_is (sym h))

pub command_kind : (d : Agreed) (s : State) (p : List ℕ) (k : PacketKind) (m : State) → s ≡ state.Rest → take_step d s Client p ≡ Some (k, m) → commands k ≡ true
command_kind d s p k m e h = kind_at k m (command_of p) (sym (rest_step_is d p) ∙ subst (λ s. take_step d s Client p ≡ Some (k, m)) e h)

pub rest_plain : (d : Agreed) (s : State) (p : List ℕ) (c : Command) (k : PacketKind) → s ≡ state.Rest → command_of p ≡ Some c → kind_of c ≡ k → take_step d s Client p ≡ Some (k, begin c)
rest_plain d s p c k e h g =
    subst (λ s. take_step d s Client p ≡ Some (k, begin c)) (sym e) (rest_step_is d p ∙ ap command_step h ∙ ap (λ (k : PacketKind). Some (k, begin c)) g)
