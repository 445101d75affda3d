-- The columns of the latest result, by its own definitions.
use Rattle.std.specs.Prelude.{ℕ, zero, suc, nat_le, Bool, true, false, ◌&&◌, List, [], ◌∷◌, ◌++◌, Option, Some, None, is_some, if◌then◌else◌}
use Rattle.mysql_conversation.specs.Agreements.{Agreed}
use Rattle.mysql_conversation.specs.declared.packet_kind.PacketKind.{PacketKind}
use Rattle.mysql_conversation.specs.declared.packet_kind.PacketKind.TheVariants as kind
use Rattle.mysql_statements.specs.Packets.{column_at}
use Rattle.mysql_statements.specs.Run.{Item}
use Rattle.mysql_statements.specs.declared.row_column.RowColumn.{RowColumn}

-- how many columns may be kept, how many definitions are still expected if all before them are kept, and the columns so far
pub record ResultColumns : Type 0 where
  pub limit : ℕ
  pub left : Option ℕ
  pub columns : List RowColumn

-- no column is known
abbrev pub unknown : ℕ → ResultColumns
unknown limit = record { limit = limit; left = None; columns = [] }

-- a result with a given number of columns, whose definitions follow or not
abbrev pub begun : ℕ → Bool → ResultColumns → ResultColumns
begun count follow r = if follow && nat_le count r.limit then record { limit = r.limit; left = Some count; columns = [] } else unknown r.limit

-- The next definition. If there is no memory for it, or it is malformed, no column is known.
abbrev pub next : Bool → ℕ → Option RowColumn → ResultColumns → ResultColumns
next memory left None r = unknown r.limit
next false left (Some c) r = unknown r.limit
next true left (Some c) r = record { limit = r.limit; left = Some left; columns = r.columns ++ c ∷ [] }

-- a definition, if one is expected
abbrev pub defined_at : Option ℕ → Bool → Option RowColumn → ResultColumns → ResultColumns
defined_at None memory c r = r
defined_at (Some zero) memory c r = r
defined_at (Some (suc left)) memory c r = next memory left c r

-- After a packet of this kind. The definitions after a prepared statement belong to no result, and an error ends the definitions.
abbrev pub after : Bool → Agreed → PacketKind → List ℕ → ResultColumns → ResultColumns
after memory a (kind.ColumnCount count follow) p r = begun count follow r
after memory a kind.Column p r = defined_at r.left memory (column_at a p) r
after memory a (kind.PrepareOk columns params follow) p r = unknown r.limit
after memory a kind.Error p r = unknown r.limit
after memory a _ p r = r

-- a definition is kept
abbrev pub keeps : Option ℕ → Option RowColumn → Bool
keeps (Some (suc left)) c = is_some c
keeps _ c = false

-- the packet makes it keep a column
abbrev pub takes_memory : Agreed → PacketKind → List ℕ → ResultColumns → Bool
takes_memory a kind.Column p r = keeps r.left (column_at a p)
takes_memory a _ p r = false

-- the columns, if all of their definitions were received and kept
abbrev pub known_at : Option ℕ → List RowColumn → Option (List RowColumn)
known_at (Some zero) cs = Some cs
known_at _ cs = None

abbrev pub known : ResultColumns → Option (List RowColumn)
known r = known_at r.left r.columns

-- a sequence of packets, with enough memory
abbrev pub after_all : Agreed → List Item → ResultColumns → ResultColumns
after_all a [] r = r
after_all a (x ∷ xs) r = after_all a xs (after true a x.kind x.payload r)
