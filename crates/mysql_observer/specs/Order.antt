-- The order of a conversation, by the numbers of its exchanges.
use Rattle.std.specs.Prelude.{◌≡◌, ℕ, zero, suc, ◌+◌, ◌==◌, ◌≤◌, max, Bool, true, false, List, [], ◌∷◌, ◌++◌, IsTrue}
use Rattle.std.specs.List.{filter}
use Rattle.mysql_conversation.specs.Agreements.{Agreed}
use Rattle.mysql_conversation.specs.Conversation.{code_of}
use Rattle.mysql_conversation.specs.Pipelined.{Numbered, IsPipelined}
use Rattle.mysql_conversation.specs.declared.packet_kind.PacketKind.TheVariants as kind
use Rattle.mysql_conversation.specs.declared.packet_kind.InitialPhase.{InitialPhase}
use Rattle.mysql_statements.specs.After.{after}
use Rattle.mysql_statements.specs.PipelinedCommands.{has_place}
use Rattle.mysql_statements.specs.Table.{Table}
use Rattle.mysql_observer.specs.PacketContext.{ComesEarly, IsEarly}
use Rattle.mysql_observer.specs.Tracked.{Tracked, front, tracked_after}

-- the packets of an exchange, in the order in which they came
abbrev pub of_exchange : ℕ → List Numbered → List Numbered
of_exchange n items = filter (λ x. x.number == n) items

-- the packets of the exchanges up to this one, which the server processes in order
abbrev pub up_to : ℕ → List Numbered → List Numbered
up_to zero items = of_exchange 0 items
up_to (suc n) items = up_to n items ++ of_exchange (suc n) items

-- the table after a sequence of packets
abbrev pub tables_after : Agreed → List Numbered → Table → Table
tables_after a [] t = t
tables_after a (x ∷ xs) t = tables_after a xs (after true a x.packet.kind x.packet.payload t)

-- ---- packets as they came

-- a packet, and whether it is a pipelined command
pub record Step : Type 0 where
  pub item : Numbered
  pub is_early : Bool

abbrev pub items_of : List Step → List Numbered
items_of [] = []
items_of (s ∷ ss) = s.item ∷ items_of ss

-- a command, by its code
abbrev pub IsCommand : Numbered → Type 0
IsCommand x = x.packet.kind ≡ kind.Command (code_of x.packet.payload)

-- Given the server's current exchange and the number of commands so far: a pipelined command is the next one, and any other packet belongs
-- to an exchange that the server has reached or reaches now.
abbrev pub IsNext : (is_early : Bool) → (at last : ℕ) → Numbered → Type 0
IsNext true at last x = (x.number ≡ last + 1) × IsCommand x
IsNext false at last x = at ≤ x.number

abbrev pub at_after : (is_early : Bool) → ℕ → Numbered → ℕ
at_after true at x = at
at_after false at x = x.number

abbrev pub AreOrderly : (at last : ℕ) → List Step → Type 0
AreOrderly at last [] = Unit {0}
AreOrderly at last (s ∷ ss) = IsNext s.is_early at last s.item × AreOrderly (at_after s.is_early at s.item) (max last s.item.number) ss

-- the server's exchange after all packets: that of the last one that is no pipelined command
abbrev pub at_last : ℕ → List Step → ℕ
at_last at [] = at
at_last at (s ∷ ss) = at_last (at_after s.is_early at s.item) ss

abbrev pub step_after : Agreed → Step → Tracked → Tracked
step_after a s f = tracked_after true true s.is_early a s.item.packet.kind s.item.number s.item.packet.payload f

-- what is known after all packets, with enough memory
abbrev pub after_steps : Agreed → List Step → Tracked → Tracked
after_steps a [] f = f
after_steps a (s ∷ ss) f = after_steps a ss (step_after a s f)

-- each pipelined command has a place
abbrev pub HavePlaces : Agreed → List Step → Tracked → Type 0
HavePlaces a [] f = Unit {0}
HavePlaces a (s ∷ ss) f = (s.is_early ≡ true → IsTrue (has_place f.early (front s.item.packet.payload))) × HavePlaces a ss (step_after a s f)

-- ---- which commands are pipelined

-- the same in a conversation
abbrev pub IsEarlyIn : Agreed → InitialPhase → Bool → List Numbered → Numbered → Type 0
IsEarlyIn a o is_early items x = ComesEarly (IsPipelined a o items) is_early x

-- the same for each of these, after those before it
abbrev pub AreEarly : Agreed → InitialPhase → List Numbered → List Step → Type 0
AreEarly a o items [] = Unit {0}
AreEarly a o items (s ∷ ss) = IsEarlyIn a o s.is_early items s.item × AreEarly a o (items ++ s.item ∷ []) ss

-- the same for the packets of a session, after these
abbrev pub AreEarlyAfter : List Numbered → List Step → Type 0
AreEarlyAfter items [] = Unit {0}
AreEarlyAfter items (s ∷ ss) = IsEarly s.is_early items s.item × AreEarlyAfter (items ++ s.item ∷ []) ss
