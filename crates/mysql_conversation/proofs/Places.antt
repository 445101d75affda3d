-- When a command has no place to wait, and when it has one.
use Rattle.std.proofs.Common.{◌≡◌, ℕ, ◌+◌, ◌<◌, ◌^◌, List, inl, inr, length, Option, Some, None, refl, sym, ap, subst, ◌∙◌, true, false, arith}
use Rattle.std.specs.Prelude.{◌↔◌, Result, Ok, Err, IfErr}
use Rattle.mysql_conversation.specs.Agreements.{Agreed}
use Rattle.mysql_conversation.specs.Machine.{take_step, is_due}
use Rattle.mysql_conversation.specs.Standing.{IsFullOf, command_of}
use Rattle.mysql_conversation.specs.Piped.{IsFull, IsIdle, CountsNoMore}
use Rattle.mysql_conversation.proofs.States.{idle_is}
use Rattle.mysql_conversation.proofs.Turns.{no_aside, rest_step_is, command_step}
use Rattle.mysql_conversation.specs.declared.packet_kind.PacketKind.{PacketKind}
use Rattle.mysql_conversation.specs.declared.packet_kind.Side.{Side}
use Rattle.mysql_conversation.specs.declared.packet_kind.Side.TheVariants.{Client, Server}
use Rattle.mysql_conversation.specs.declared.pipeline.Pipeline.{Pipeline}
use Rattle.mysql_conversation.specs.declared.pipeline.SessionError.{SessionError}
use Rattle.mysql_conversation.specs.declared.pipeline.SessionError.TheVariants as refusal
use Rattle.mysql_conversation.specs.declared.pipeline.Waiting.{Waiting}
use Rattle.mysql_conversation.specs.declared.state.Command.{Command}
use Rattle.mysql_conversation.specs.declared.state.State.{State}
use Rattle.mysql_conversation.specs.declared.state.State.TheVariants as state

-- neither may come
pub neither : {P Q : Type 0} → (P → ⊥) → (Q → ⊥) → P ↔ Q
neither f g = ((λ p. absurd (f p)), (λ q. absurd (g q)))

-- no error of these is this one
pub only : {A : Type 0} {P : SessionError → Type 0} (r : Result A SessionError) (why : SessionError) → IfErr r P → ((e : SessionError) → P e → e ≡ why → ⊥) → r ≡ Err why → ⊥
only (Ok x) why h f e = absurd cc
only (Err w) why h f e = f w h (cc e)

-- ---- a command that comes early

pub no_command : (n last : ℕ) (q : List Waiting) (c : Option Command) → c ≡ None → IsFullOf n last q c → ⊥
no_command n last q c e h = let no : None ≡ Some h.0 = sym e ∙ h.1 in absurd cc

pub has_place : (n last : ℕ) (q : List Waiting) (c : Option Command) → length q < n → last + 1 < 2 ^ 64 → IsFullOf n last q c → ⊥
has_place n last q c a b (command, e, g, inl h) = omega arith
has_place n last q c a b (command, e, g, inr h) = omega arith

-- at the server's turn, a packet of the client that is no command isn't answered Full
pub aside_has_place : (c : Pipeline) (p : List ℕ) (k : PacketKind) (m : State) → is_due c.state ≡ true → take_step c.agreed c.state Client p ≡ Some (k, m) → IsFull c Client p → ⊥
aside_has_place c p k m d e h =
    let none = no_aside c.agreed c.state p h.0.1 d h.0.2 in absurd (cc (none, e))

-- ---- a command in its turn

pub some_command : (r : Option Command) (k : PacketKind) (m : State) → command_step r ≡ Some (k, m) → (command : Command) × (r ≡ Some command)
some_command None k m h = absurd cc
some_command (Some c) k m h = (c, refl)

pub idle_full : (c : Pipeline) (p : List ℕ) (k : PacketKind) (m : State) → IsIdle c → take_step c.agreed c.state Client p ≡ Some (k, m) → CountsNoMore c → IsFull c Client p
idle_full c p k m i e n =
    let step = subst (λ s. take_step c.agreed s Client p ≡ Some (k, m)) (idle_is c.state i) e in
    let f = some_command (command_of p) k m (sym (rest_step_is c.agreed p) ∙ step) in
    ((refl, f.0, f.1), inr (inr i, n))

pub idle_step : (a : Agreed) (p : List ℕ) (command : Command) → command_of p ≡ Some command → (take_step a state.Rest Client p ≡ None) → ⊥
idle_step a p command e n = let no : None ≡ command_step (Some command) = sym n ∙ rest_step_is a p ∙ ap command_step e in absurd cc

-- what the machine refuses at the client's turn
pub refused_has_place : (c : Pipeline) (p : List ℕ) → is_due c.state ≡ false → take_step c.agreed c.state Client p ≡ None → IsFull c Client p → ⊥
refused_has_place c p d e (k, inl h) = let no : true ≡ false = sym h.0.0 ∙ d in absurd cc
refused_has_place c p d e (k, inr (inl h, n)) = let no : true ≡ false = sym h.0 ∙ d in absurd cc
refused_has_place c p d e (k, inr (inr h, n)) = idle_step c.agreed p k.1 k.2 (subst (λ s. take_step c.agreed s Client p ≡ None) (idle_is c.state h) e)

-- ---- the server's packets

pub server_is_never_full : (c : Pipeline) (p : List ℕ) (side : Side) → side ≡ Server → IsFull c side p → ⊥
server_is_never_full c p side e h = let no : Client ≡ Server = sym h.0.0 ∙ e in absurd cc

pub unexpected_full : (e : SessionError) → e ≡ refusal.UnexpectedPacket → e ≡ refusal.Full → ⊥
unexpected_full e h g = absurd cc
