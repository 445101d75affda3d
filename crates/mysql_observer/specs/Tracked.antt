-- What the packets so far say about statements and pipelined commands.
use Rattle.std.specs.Prelude.{◌≡◌, ℕ, ◌==◌, ◌||◌, nat_le, min, take, length, Bool, true, false, not, ◌&&◌, List, [], ◌∷◌, Option, Some, None, is_some, if◌then◌else◌, IsTrue}
use Rattle.mysql_wire.specs.CommandCodes.{COM_STMT_EXECUTE, COM_STMT_BULK_EXECUTE}
use Rattle.mysql_stmt.specs.declared.execute_view.BoundParam.{BoundParam}
use Rattle.mysql_conversation.specs.Agreements.{Agreed}
use Rattle.mysql_conversation.specs.Conversation.{code_of}
use Rattle.mysql_conversation.specs.declared.packet_kind.PacketKind.{PacketKind}
use Rattle.mysql_conversation.specs.declared.packet_kind.PacketKind.TheVariants as kind
use Rattle.mysql_statements.specs.After.{after}
use Rattle.mysql_statements.specs.Bounds.{takes_memory}
use Rattle.mysql_statements.specs.PipelinedCommands.{Command, Queue, has_place, none_waits}
use Rattle.mysql_statements.specs.PipelinedCommands as early
use Rattle.mysql_statements.specs.Kept.{Kept}
use Rattle.mysql_statements.specs.Packets.{number_at}
use Rattle.mysql_statements.specs.declared.limits.StatementLimits.{StatementLimits}
use Rattle.mysql_statements.specs.declared.limits.PipelinedLimits.{PipelinedLimits}
use Rattle.mysql_statements.specs.Table.{Table, cleared, empty, statement_of}

-- the parameters of an execution, as known before it, and whether an earlier execution sent their types
pub record Params : Type 0 where
  pub params : List BoundParam
  pub is_bound : Bool

-- a pipelined execution that the server has reached, and its parameters, as known before it
pub record Reached : Type 0 where
  pub command : Command
  pub params : Option Params

-- both, if the parameters are known
abbrev pub reached_with : Option Command → Option Params → Option Reached
reached_with c None = None
reached_with None (Some ps) = None
reached_with (Some c) (Some ps) = Some (record { command = c; params = Some ps })

-- the table of statements; the pipelined commands; the last one of these that could not be kept; the parameters of the last packet if it is
-- an execution; and the pipelined execution that the server has reached by the last packet, if its statement is known
pub record Tracked : Type 0 where
  pub table : Table
  pub early : Queue
  pub lost : Option ℕ
  pub params : Option Params
  pub reached : Option Reached

-- ---- the parameters of an execution, before it is taken

abbrev pub is_execution : PacketKind → Bool
is_execution (kind.Command code) = code == COM_STMT_EXECUTE
is_execution _ = false

-- the packet says nothing about later ones, as a row or an OK packet
abbrev pub is_silent : PacketKind → Bool
is_silent (kind.Command code) = false
is_silent (kind.PrepareOk columns params follow) = false
is_silent kind.Column = false
is_silent (kind.ColumnCount count follow) = false
is_silent kind.Error = false
is_silent _ = true

abbrev pub statement_at : Option ℕ → Table → Option Kept
statement_at None t = None
statement_at (Some id) t = statement_of id t

-- the statement that a packet executes
abbrev pub executed_by : PacketKind → List ℕ → Table → Option Kept
executed_by k p t = if is_execution k then statement_at (number_at p) t else None

abbrev pub params_of : Option Kept → Option Params
params_of None = None
params_of (Some s) = Some (record { params = s.params; is_bound = s.is_bound })

abbrev pub params_kept : (memory : Bool) → Option Kept → Option Params
params_kept memory s = if memory then params_of s else None

-- ---- the pipelined commands up to an exchange

-- the statement that a command executes
abbrev pub executed_in : List ℕ → Table → Option Kept
executed_in p t = executed_by (kind.Command (code_of p)) p t

abbrev pub reached_or : Option Kept → Command → Option Reached → Option Reached
reached_or None c was = was
reached_or (Some s) c was = Some (record { command = c; params = params_of (Some s) })

-- the command, if it executes a known statement
abbrev pub reached_by : Command → Table → Option Reached → Option Reached
reached_by c t was = reached_or (executed_in c.payload t) c was

abbrev pub command_taken : Agreed → List ℕ → Table → Table
command_taken a p t = after true a (kind.Command (code_of p)) p t

abbrev pub table_served : Agreed → ℕ → List Command → Table → Table
table_served a n [] t = t
table_served a n (c ∷ cs) t = if nat_le c.number n then table_served a n cs (command_taken a c.payload t) else t

abbrev pub left_waiting : ℕ → List Command → List Command
left_waiting n [] = []
left_waiting n (c ∷ cs) = if nat_le c.number n then left_waiting n cs else c ∷ cs

-- the last of them that executes a known statement
abbrev pub execution_served : Agreed → ℕ → List Command → Table → Option Reached → Option Reached
execution_served a n [] t was = was
execution_served a n (c ∷ cs) t was = if nat_le c.number n then execution_served a n cs (command_taken a c.payload t) (reached_by c t was) else was

abbrev pub served : (memory : Bool) → Agreed → ℕ → Tracked → Tracked
served memory a n f = record f {
  table = table_served a n f.early.commands f.table;
  early = record { limits = f.early.limits; commands = left_waiting n f.early.commands };
  reached = if memory then execution_served a n f.early.commands f.table None else None;
}

-- ---- a packet of an exchange

-- What is kept of a command that waits: all of an execution, since its types may be anywhere, and of another command what stands before
-- the data of COM_STMT_SEND_LONG_DATA.
abbrev pub front : List ℕ → List ℕ
front p = if code_of p == COM_STMT_EXECUTE || code_of p == COM_STMT_BULK_EXECUTE then p else take (min (length p) 7) p

-- no statement is known up to the last command that could not be kept
abbrev pub is_lost : Option ℕ → ℕ → Bool
is_lost None n = false
is_lost (Some last) n = nat_le n last

-- a pipelined command waits; without a place or memory, no statement is known until the server has passed it
abbrev pub held : (memory : Bool) → ℕ → List ℕ → Tracked → Tracked
held memory n p f =
    if has_place f.early (front p) && memory then record { table = f.table; early = early.held n (front p) f.early; lost = f.lost; params = None; reached = None }
    else record { table = cleared f.table; early = f.early; lost = Some n; params = None; reached = None }

-- Any other packet follows the commands up to its exchange. There is memory or not for the parameters of an execution among these, and for
-- what the packet says.
abbrev pub taken : (reached memory : Bool) → Agreed → PacketKind → ℕ → List ℕ → Tracked → Tracked
taken reached memory a k n p f =
    if is_lost f.lost n then record f { params = None; reached = None }
    else record (served reached a n f) {
      params = params_kept memory (executed_by k p (served reached a n f).table);
      table = after memory a k p (served reached a n f).table;
    }

-- what is known after a packet
abbrev pub tracked_after : (reached memory is_early : Bool) → Agreed → PacketKind → ℕ → List ℕ → Tracked → Tracked
tracked_after reached memory true a k n p f = held memory n p f
tracked_after reached memory false a k n p f = taken reached memory a k n p f

-- the same, with or without memory for all of it
abbrev pub TrackedAfter : (memory is_early : Bool) → Agreed → PacketKind → ℕ → List ℕ → Tracked → Tracked → Type 0
TrackedAfter memory is_early a k n p old new = (reached kept : Bool) × (memory ≡ (reached && kept)) × (new ≡ tracked_after reached kept is_early a k n p old)

-- ---- memory

-- a command up to this exchange executes a known statement
abbrev pub has_execution : Agreed → ℕ → Tracked → Bool
has_execution a n f = is_some (execution_served a n f.early.commands f.table None)

-- the packet makes it keep something: a command that waits, a statement, the definition of a column, or the parameters of an execution
abbrev pub asks_memory : (is_early : Bool) → Agreed → PacketKind → ℕ → List ℕ → Tracked → Bool
asks_memory true a k n p f = has_place f.early (front p)
asks_memory false a k n p f =
    not (is_lost f.lost n)
    && (has_execution a n f || (if is_execution k then is_some (executed_by k p (served true a n f).table) else takes_memory a k p (served true a n f).table))

-- what is known now, under this agreement: before the login nothing is kept
abbrev pub KeptIn : Option Agreed → (is_early : Bool) → PacketKind → ℕ → List ℕ → (memory : Bool) → Tracked → Tracked → Type 0
KeptIn (Some a) is_early k n p memory old new = TrackedAfter memory is_early a k n p old new × (memory ≡ false → IsTrue (asks_memory is_early a k n p old))
KeptIn None is_early k n p memory old new = (new ≡ record old { params = None; reached = None }) × (memory ≡ true)

-- nothing is known any more
abbrev pub forgotten : Tracked → Tracked
forgotten f = record { table = cleared f.table; early = none_waits f.early.limits; lost = None; params = None; reached = None }

-- nothing is known
abbrev pub nothing : StatementLimits → PipelinedLimits → Tracked
nothing limits waiting = record { table = empty limits; early = none_waits waiting; lost = None; params = None; reached = None }
