-- What is known of statements, in the order of a conversation.
use Rattle.std.specs.Prelude.{◌≡◌, List, [], ◌∷◌, ◌++◌}
use Rattle.mysql_packets.specs.Agreements.{Agreed}
use Rattle.mysql_packets.specs.ObservedOrder.{Step, items_of, AreEarlyAfter, after_steps, HavePlaces, tables_after, up_to, at_last}
use Rattle.mysql_packets.specs.Pipelined.{Numbered}
use Rattle.mysql_packets.specs.Session.{IsLoggedIn}
use Rattle.mysql_packets.specs.StatementTable.{empty}
use Rattle.mysql_packets.specs.Tracked.{Tracked, nothing}
use Rattle.mysql_packets.specs.declared.statements.PipelinedLimits.{PipelinedLimits}
use Rattle.mysql_packets.specs.declared.statements.StatementLimits.{StatementLimits}

-- What is known after the packets of a conversation, which came after those of the login: what the packets say, each command that came early in
-- its place. The table is that of the exchanges up to the one at which the server is, where each of these commands had a place.
pub record InOrder (a : Agreed) (login packets : List Numbered) (limits : StatementLimits) (waiting : PipelinedLimits) (f : Tracked) : Type 0 where
  pub steps : List Step
  pub are : items_of steps ≡ packets
  pub early : AreEarlyAfter login steps
  pub known : f ≡ after_steps a steps (nothing limits waiting)
  pub table : HavePlaces a steps (nothing limits waiting) → f.table ≡ tables_after a (up_to (at_last 0 steps) packets) (empty limits)

-- so it is of the packets after the login, once there is one
abbrev pub IsInOrder : StatementLimits → PipelinedLimits → List Numbered → Tracked → Type 0
IsInOrder limits waiting items f = (a : Agreed) (front : List Numbered) (x : Numbered) (rest : List Numbered) → IsLoggedIn a front x → items ≡ front ++ x ∷ rest → InOrder a (front ++ x ∷ []) rest limits waiting f
