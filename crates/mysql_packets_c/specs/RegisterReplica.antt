-- A replica's registration, in C.
use Rattle.std.specs.Prelude.{◌≡◌, ℕ, List}
use Rattle.mysql_repl.specs.RegisterSlave as slave
use Rattle.mysql_repl.specs.declared.register_slave.ComRegisterSlave.{ComRegisterSlave}
use Rattle.mysql_packets_c.specs.Input.{used_of}
use Rattle.mysql_packets_c.specs.declared.register_replica.CReplica.{CReplica}

-- the registration with the struct's fields; `used` is ignored
abbrev pub registration_of : CReplica → ComRegisterSlave
registration_of r =
    let names : ComRegisterSlave = slave.with_password r.password.now (slave.with_user r.user.now (slave.with_hostname r.hostname.now (slave.registration r.server_id))) in
    slave.with_master_id r.master_id (slave.with_replication_rank r.replication_rank (slave.with_port r.port names))

pub record IsReplica (packet : List ℕ) (p : ComRegisterSlave) (rest : List ℕ) (out : CReplica) : Type 0 where
  pub hostname : out.hostname.now ≡ slave.hostname p
  pub user : out.user.now ≡ slave.user p
  pub password : out.password.now ≡ slave.password p
  pub server_id : out.server_id ≡ slave.server_id p
  pub replication_rank : out.replication_rank ≡ slave.replication_rank p
  pub master_id : out.master_id ≡ slave.master_id p
  pub port : out.port ≡ slave.port p
  pub used : out.used ≡ used_of packet rest
