-- The fields of packets that replicas send.
use Rattle.std.specs.Prelude.{ℕ, List, [], ◌∷◌, codes}
use Rattle.mysql_repl.specs.RegisterSlave as replica
use Rattle.mysql_repl.specs.declared.register_slave.ComRegisterSlave.{ComRegisterSlave}
use Rattle.mysql_show.specs.Fields.{Said, said, Number, Bytes}

-- a binary log request, before its sids: the server id, the flags, the log's file name and the position
abbrev pub dump_fields : (server_id flags : ℕ) → (filename : List ℕ) → (pos : ℕ) → List Said
dump_fields server_id flags filename pos =
    said (codes "server_id") (Number server_id)
    ∷ said (codes "flags") (Number flags)
    ∷ said (codes "filename") (Bytes filename)
    ∷ said (codes "pos") (Number pos)
    ∷ []

-- without the password
abbrev pub replica_fields : ComRegisterSlave → List Said
replica_fields r =
    said (codes "server_id") (Number (replica.server_id r))
    ∷ said (codes "hostname") (Bytes (replica.hostname r))
    ∷ said (codes "user") (Bytes (replica.user r))
    ∷ said (codes "port") (Number (replica.port r))
    ∷ []
