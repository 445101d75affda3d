-- A sequence of packets.
use Rattle.std.specs.Prelude.{◌≡◌, ◌⊎◌, ℕ, List, [], ◌∷◌, length, map, true, false, Some}
use Rattle.mysql_stmt.specs.declared.execute_view.BoundParam.{BoundParam}
use Rattle.mysql_conversation.specs.Agreements.{Agreed}
use Rattle.mysql_conversation.specs.declared.packet_kind.PacketKind.{PacketKind}
use Rattle.mysql_conversation.specs.declared.packet_kind.PacketKind.TheVariants as kind
use Rattle.mysql_statements.specs.Kept.{Kept}
use Rattle.mysql_statements.specs.Statement.{param_type_of}
use Rattle.mysql_statements.specs.Packets.{column_at}
use Rattle.mysql_statements.specs.Table.{Table}
use Rattle.mysql_statements.specs.After.{after}
use Rattle.mysql_statements.specs.declared.row_column.RowColumn.{RowColumn}

-- a packet, with its kind
pub record Item : Type 0 where
  pub kind : PacketKind
  pub payload : List ℕ

-- the table after a sequence of packets, with enough memory
abbrev pub after_all : Agreed → List Item → Table → Table
after_all a [] t = t
after_all a (x ∷ xs) t = after_all a xs (after true a x.kind x.payload t)

-- the packet is the definition of this column
abbrev pub IsDefinition : Agreed → Item → RowColumn → Type 0
IsDefinition a x c = (x.kind ≡ kind.Column) × (column_at a x.payload ≡ Some c)

-- the packets are the definitions of these columns, in order; EOF packets may be among them
abbrev pub AreDefinitions : Agreed → List Item → List RowColumn → Type 0
AreDefinitions a [] cs = cs ≡ []
AreDefinitions a (x ∷ xs) cs =
    ((x.kind ≡ kind.Eof) × AreDefinitions a xs cs)
    ⊎ ((c : RowColumn) × (more : List RowColumn) × (cs ≡ c ∷ more) × IsDefinition a x c × AreDefinitions a xs more)

-- a parameter by its definition
abbrev pub defined_param : RowColumn → BoundParam
defined_param c = record { param_type = param_type_of c; is_sent_ahead = false }

-- a statement with that number, these parameters and these columns, which was not executed
abbrev pub defined_as : ℕ → (params columns : List RowColumn) → Kept
defined_as id ps cs = record { id = id; params = map defined_param ps; is_bound = false; width = length cs; columns = cs }
