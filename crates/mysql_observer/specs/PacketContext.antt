-- The context in which a packet is read, as a function of the packets before it.
use Rattle.std.specs.Prelude.{◌≡◌, ◌⊎◌, ◌&&◌, ℕ, Bool, true, false, List, Option, Some, None, option_copied, if◌then◌else◌, IsTrue}
use Rattle.mysql_wire.specs.declared.codes.column_type.ColumnType.{ColumnType}
use Rattle.mysql_conversation.specs.Agreements.{Agreed}
use Rattle.mysql_conversation.specs.Pipelined.{Numbered, is_command}
use Rattle.mysql_conversation.specs.Session.{IsSession, IsLoggedInAmong}
use Rattle.mysql_conversation.specs.declared.packet_kind.RowFormat.TheVariants.{Binary}
use Rattle.mysql_conversation.specs.declared.packet_kind.PacketKind.{PacketKind}
use Rattle.mysql_conversation.specs.declared.packet_kind.PacketKind.TheVariants as kind
use Rattle.mysql_observer.specs.declared.read_context.ReadContext.{ReadContext}
use Rattle.mysql_statements.specs.ResultColumns as columns
use Rattle.mysql_statements.specs.ResultColumns.{ResultColumns}
use Rattle.mysql_statements.specs.Table.{columns_of_rows}
use Rattle.mysql_statements.specs.declared.row_column.RowColumn.{RowColumn}
use Rattle.mysql_observer.specs.Event.{has_header}
use Rattle.mysql_observer.specs.Latest.{is_of_result, latest_in}
use Rattle.mysql_observer.specs.declared.latest.Latest.{Latest}
use Rattle.mysql_observer.specs.Tracked.{Tracked}

-- ---- what both sides agreed on

-- by the login among the packets; none before it
abbrev pub IsAgreed : List Numbered → Option Agreed → Type 0
IsAgreed items (Some a) = IsLoggedInAmong a items
IsAgreed items None = (a : Agreed) → IsLoggedInAmong a items → ⊥

-- ---- pipelined commands

-- a command that comes before all that was asked for is answered, or not
abbrev pub ComesEarly : (answered : Type 0) → Bool → Numbered → Type 0
ComesEarly answered true x = (is_command x.packet ≡ true) × (answered → ⊥)
ComesEarly answered false x = (is_command x.packet ≡ false) ⊎ answered

abbrev pub IsEarly : Bool → List Numbered → Numbered → Type 0
IsEarly is_early items x = ComesEarly (IsSession items) is_early x

-- ---- the context

abbrev pub type_of : RowColumn → ColumnType
type_of c = c.column_type

abbrev pub unsigned : RowColumn → Bool
unsigned c = c.is_unsigned

-- the columns by which a packet of this kind is read: those of a binary row, if they are known
abbrev pub columns_for : PacketKind → Option (List RowColumn) → Option (List RowColumn)
columns_for (kind.Row Binary) known = known
columns_for _ known = None

abbrev pub is_event : PacketKind → Bool
is_event kind.BinlogEvent = true
is_event _ = false

abbrev pub first_known : Option (List RowColumn) → Option (List RowColumn) → Option (List RowColumn)
first_known (Some columns) other = Some columns
first_known None other = other

-- The columns of the binary rows of an exchange: those that the definitions of this result say; where they were left out, or aren't kept,
-- those of the statement.
abbrev pub columns_of_binary : Latest → Tracked → ResultColumns → Option (List RowColumn)
columns_of_binary l f r = if is_of_result l then first_known (columns.known r) (columns_of_rows f.table) else columns_of_rows f.table

-- the context of a packet of this kind, the last of these, where this is agreed on
pub record IsContext (Agrees : Option Agreed → Type 0) (items : List Numbered) (f : Tracked) (r : ResultColumns) (k : PacketKind) (payload : List ℕ) (c : ReadContext RowColumn) : Type 0 where
  pub agreed : Agrees c.agreed
  pub count : c.column_count ≡ (latest_in items).column_count
  pub columns : option_copied c.columns ≡ columns_for k (columns_of_binary (latest_in items) f r)
  pub semi_sync : c.semi_sync ≡ (is_event k && has_header payload)

-- ---- result columns

-- what is known of them after the packet, under this agreement: before the login nothing is kept
abbrev pub DefinedIn : Option Agreed → PacketKind → List ℕ → (memory : Bool) → ResultColumns → ResultColumns → Type 0
DefinedIn (Some a) k p memory old new = (new ≡ columns.after memory a k p old) × (memory ≡ false → IsTrue (columns.takes_memory a k p old))
DefinedIn None k p memory old new = (new ≡ old) × (memory ≡ true)
