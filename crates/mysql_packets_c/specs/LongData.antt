-- Long data for an execution, in C.
use Rattle.std.specs.Prelude.{◌≡◌, ℕ, List}
use Rattle.mysql_stmt.specs.LongData as long
use Rattle.mysql_stmt.specs.declared.long_data.ComStmtSendLongData.{ComStmtSendLongData}
use Rattle.mysql_packets_c.specs.declared.long_data.CLongData.{CLongData}

-- the packet with these fields
abbrev pub packet_of : CLongData → ComStmtSendLongData
packet_of c = long.long_data_of c.statement_id c.param_index c.content.now

pub record IsLongData (p : ComStmtSendLongData) (rest : List ℕ) (out : CLongData) : Type 0 where
  pub content : out.content.now ≡ long.content p
  pub statement_id : out.statement_id ≡ long.stmt_id p
  pub param_index : out.param_index ≡ long.param_index p
