use Rattle.mysql_stmt.proofs.NullBits.{has-bits}
use Rattle.mysql_stmt.proofs.row_protocol.BinaryRowProtocol.read_cells.Goals as goal

pub read_values-requires : goal.read_values-requires
read_values-requires g c i lt = has-bits g.S.SerializationSide.BIT_OFFSET _ c.in_ok-nulls.nulls _ _ c.in_ok-nulls.ensures.value i lt
