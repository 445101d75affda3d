-- How much a table keeps, and which packets make it allocate.
use Rattle.std.specs.Prelude.{◌≡◌, ℕ, zero, suc, ◌+◌, ◌≤◌, nat_lt, Bool, false, not, ◌&&◌, ◌||◌, List, length, Option, Some, None, is_some, Result, OnErr, IsTrue, is_ok}
use Rattle.mysql_conversation.specs.Agreements.{Agreed}
use Rattle.mysql_conversation.specs.declared.packet_kind.PacketKind.{PacketKind}
use Rattle.mysql_conversation.specs.declared.packet_kind.PacketKind.TheVariants as kind
use Rattle.mysql_statements.specs.After.{after}
use Rattle.mysql_statements.specs.Packets.{prepared_at, column_at}
use Rattle.mysql_statements.specs.Kept.{Kept}
use Rattle.mysql_statements.specs.Table.{Table, held, without, has_place, place_of}
use Rattle.mysql_statements.specs.declared.task.Task.{Task}
use Rattle.mysql_statements.specs.declared.task.Task.TheVariants.{Other, Prepare, Definitions, Execution}

-- the number of definitions of columns that are still expected
abbrev pub expected : Task → ℕ
expected Other = 0
expected Prepare = 0
expected (Definitions id params columns) = columns
expected (Execution id columns) = columns

-- no more is kept than the limits allow, also after the definitions that are expected
pub record IsWithin (t : Table) : Type 0 where
  pub statements : length t.statements ≤ t.limits.statements
  pub types : held t.statements + expected t.task ≤ t.limits.types

-- ---- memory

abbrev pub is_known : ℕ → List Kept → Bool
is_known id ss = is_some (place_of id ss)

-- the next definition is that of a column of a known statement, and is kept
abbrev pub keeps_column : Task → List Kept → Bool
keeps_column (Definitions id zero (suc left)) ss = is_known id ss
keeps_column (Execution id (suc left)) ss = is_known id ss
keeps_column _ ss = false

-- The statement is kept. Its parameters take memory, and so does the statement itself unless it replaces one with the same number.
abbrev pub keeps_statement : Option ℕ → (params columns : ℕ) → Table → Bool
keeps_statement None params columns t = false
keeps_statement (Some id) params columns t = has_place t.limits (without id t.statements) (params + columns) && (nat_lt 0 params || not (is_known id t.statements))

-- the packet makes the table keep a statement or the definition of a column
abbrev pub takes_memory : Agreed → PacketKind → List ℕ → Table → Bool
takes_memory a (kind.PrepareOk columns params follow) p t = keeps_statement (prepared_at p) params columns t
takes_memory a kind.Column p t = is_some (column_at a p) && keeps_column t.task t.statements
takes_memory a _ p t = false

-- the table is the one after the packet, with or without memory; memory is requested only if something is to be kept
abbrev pub IsTaken : {A E : Type 0} → Agreed → PacketKind → List ℕ → Table → Result A E → Table → Type 0
IsTaken a k p t result now =
    (now ≡ after (is_ok result) a k p t) × OnErr result (IsTrue (takes_memory a k p t))
