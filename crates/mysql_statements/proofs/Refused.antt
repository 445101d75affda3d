-- A reader that doesn't allocate returns the fault of the form.
use Rattle.std.proofs.Common.{◌≡◌, ℕ, None, false, refl}
use Rattle.mysql_wire.specs.Reading.{Reading, Faults}
use Rattle.mysql_wire.specs.declared.fault.FaultOf.{FaultOf}
use Rattle.mysql_replies.specs.declared.extended_column.ExtendedColumn.{ExtendedColumn}
use Rattle.mysql_stmt.specs.declared.long_data.ComStmtSendLongData.{ComStmtSendLongData}
use Rattle.mysql_stmt.specs.declared.stmt.StmtPacket.{StmtPacket}
use Rattle.mysql_conversation.proofs.Faults.{nothing_found}
use Rattle.mysql_statements.specs.Packets.{number_in, prepared_in, column_in, data_in}

pub number-fault : (e : FaultOf) (read : Reading ℕ) → Faults false e read → number_in read ≡ None
number-fault = nothing_found number_in (λ kind. refl)

pub prepared-fault : (e : FaultOf) (read : Reading StmtPacket) → Faults false e read → prepared_in read ≡ None
prepared-fault = nothing_found prepared_in (λ kind. refl)

pub column-fault : (e : FaultOf) (read : Reading ExtendedColumn) → Faults false e read → column_in read ≡ None
column-fault = nothing_found column_in (λ kind. refl)

pub data-fault : (e : FaultOf) (read : Reading ComStmtSendLongData) → Faults false e read → data_in read ≡ None
data-fault = nothing_found data_in (λ kind. refl)

pub ruleset faults = (number-fault, prepared-fault, column-fault, data-fault)
