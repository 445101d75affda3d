-- The fields of the client's packets.
use Rattle.std.specs.Prelude.{ℕ, Bool, true, false, List, [], ◌∷◌, ◌++◌, length, Option, Some, None, codes, option_map}
use Rattle.mysql_wire.specs.declared.codes.server_command.ServerCommand.{ServerCommand}
use Rattle.mysql_commands.specs.BulkExecute as bulk
use Rattle.mysql_commands.specs.FieldList as listing
use Rattle.mysql_commands.specs.Query as query
use Rattle.mysql_commands.specs.SetOption.{option_of}
use Rattle.mysql_commands.specs.StmtExecute as executing
use Rattle.mysql_commands.specs.Unknown as unknown
use Rattle.mysql_commands.specs.WithRawBytes.{value}
use Rattle.mysql_commands.specs.declared.command.Command.{Command}
use Rattle.mysql_commands.specs.declared.command.Command.TheVariants as command
use Rattle.mysql_commands.specs.declared.set_option.ServerOption.{ServerOption}
use Rattle.mysql_commands.specs.declared.set_option.ServerOption.TheVariants as option
use Rattle.mysql_stmt.specs.Attributes.{Attribute}
use Rattle.mysql_stmt.specs.ExecuteHead as heads
use Rattle.mysql_stmt.specs.LongData as data_of
use Rattle.mysql_stmt.specs.declared.execute_head.ComStmtExecuteHead.{ComStmtExecuteHead}
use Rattle.mysql_repl.specs.BinlogDump as dump
use Rattle.mysql_repl.specs.BinlogDumpGtid as gtids
use Rattle.mysql_repl.specs.SemiSyncAck.{position}
use Rattle.mysql_observer.specs.declared.client.ClientPacket.{ClientPacket}
use Rattle.mysql_observer.specs.declared.client.ClientPacket.TheVariants as packet
use Rattle.mysql_show.specs.CommandName.{name_of}
use Rattle.mysql_show.specs.Fields.{Said, said, Bytes, Flag, Number, Word}
use Rattle.mysql_show.specs.Logins.{change_user_fields, login_fields, ssl_request_fields}
use Rattle.mysql_show.specs.Replicas.{dump_fields, replica_fields}
use Rattle.mysql_recorder.specs.ServerFields.{length_field}
use Rattle.mysql_recorder.specs.ValueFields.{attribute_fields}

-- ---- commands

-- a command's name, or its number if it has none
abbrev pub named_command : Option ServerCommand → ℕ → Said
named_command (Some name) code = said (codes "command") (Word (name_of name))
named_command None code = said (codes "command") (Number code)

abbrev pub replication_fields : Command → List Said
replication_fields (command.BinlogDump d) = dump_fields (dump.server_id d) (dump.flags_of d).0 (dump.filename d) (dump.pos d)
replication_fields (command.BinlogDumpGtid d) = dump_fields (gtids.server_id (value d)) (gtids.flag_bits (value d)) (gtids.filename (value d)) (gtids.pos (value d))
replication_fields (command.RegisterSlave replica) = replica_fields replica
replication_fields _ = []

abbrev pub count_flag : Bool → List Said
count_flag true = said (codes "parameter_count_available") (Flag true) ∷ []
count_flag false = []

abbrev pub head_numbers : ComStmtExecuteHead → List Said
head_numbers head = said (codes "statement_id") (Number (heads.stmt_id head)) ∷ said (codes "cursor_flags") (Number (heads.cursor head)) ∷ []

-- the head of an execution, and the number of bytes after it
abbrev pub head_fields : ComStmtExecuteHead → ℕ → List Said
head_fields head left = head_numbers head ++ count_flag (heads.has_parameter_count head) ++ said (codes "length") (Number left) ∷ []

abbrev pub statement_fields : Command → List Said
statement_fields (command.StmtExecute e) = head_fields (executing.head e) (length (executing.params e))
statement_fields (command.StmtSendLongData d) =
    said (codes "statement_id") (Number (data_of.stmt_id d)) ∷ said (codes "param_index") (Number (data_of.param_index d)) ∷ said (codes "length") (Number (length (data_of.content d))) ∷ []
statement_fields (command.StmtClose c) = said (codes "statement_id") (Number c.stmt_id) ∷ []
statement_fields (command.StmtReset r) = said (codes "statement_id") (Number r.stmt_id) ∷ []
statement_fields (command.StmtFetch f) = said (codes "statement_id") (Number f.stmt_id) ∷ said (codes "num_rows") (Number f.num_rows) ∷ []
statement_fields (command.StmtBulkExecute b) =
    said (codes "statement_id") (Number (bulk.stmt_id b)) ∷ said (codes "bulk_flags") (Number (bulk.bulk_flags b).0) ∷ said (codes "length") (Number (length (bulk.rows b))) ∷ []
statement_fields other = replication_fields other

abbrev pub is_on : ServerOption → Bool
is_on option.MultiStatementsOn = true
is_on option.MultiStatementsOff = false

abbrev pub option_fields : Option ServerOption → List Said
option_fields (Some option) = said (codes "multi_statements") (Flag (is_on option)) ∷ []
option_fields None = []

abbrev pub number_fields : Command → List Said
number_fields (command.Refresh options) = said (codes "options") (Number options) ∷ []
number_fields (command.Shutdown (Some level)) = said (codes "level") (Number level) ∷ []
number_fields (command.ProcessKill id) = said (codes "connection_id") (Number id) ∷ []
number_fields (command.SetOption o) = option_fields (option_of o.code)
number_fields other = statement_fields other

-- the attributes of a query, if they are sent
abbrev pub sent_fields : Option (List Attribute) → List Said
sent_fields None = []
sent_fields (Some attributes) = attribute_fields attributes

-- the fields of a command, after its name
abbrev pub command_fields : Command → List Said
command_fields (command.InitDb schema) = said (codes "schema") (Bytes schema) ∷ []
command_fields (command.CreateDb schema) = said (codes "schema") (Bytes schema) ∷ []
command_fields (command.DropDb schema) = said (codes "schema") (Bytes schema) ∷ []
command_fields (command.Query q) = said (codes "query") (Bytes (query.text q)) ∷ sent_fields (option_map value (query.sent_attributes q))
command_fields (command.StmtPrepare text) = said (codes "query") (Bytes text) ∷ []
command_fields (command.FieldList l) = said (codes "table") (Bytes (listing.table l)) ∷ said (codes "wildcard") (Bytes (listing.wildcard l)) ∷ []
command_fields (command.ChangeUser change) = change_user_fields (value change)
command_fields (command.Unknown u) = said (codes "content") (Bytes (unknown.content u)) ∷ []
command_fields other = number_fields other

-- ---- packets

-- the fields of a packet: the client's authentication data is not among them
abbrev pub client_fields : ClientPacket → List Said
client_fields (packet.SslRequest request) = ssl_request_fields request
client_fields (packet.Login login) = login_fields login
client_fields (packet.AuthData it) = []
client_fields (packet.Command c) = command_fields c
client_fields (packet.InfileContent content) = length_field content
client_fields packet.InfileEnd = []
client_fields (packet.SemiSyncAck ack) = said (codes "position") (Number (position ack)) ∷ []
client_fields (packet.Clone bytes) = length_field bytes
