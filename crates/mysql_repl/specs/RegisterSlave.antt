-- A replica's registration.
use Rattle.std.specs.Prelude.{◌≡◌, ℕ, ◌<◌, ◌^◌, List, [], length, None, refl}
use Rattle.mysql_wire.specs.declared.int.RawInt.{RawInt}
use Rattle.mysql_wire.specs.declared.little_endian.LeU16.{LeU16}
use Rattle.mysql_wire.specs.declared.little_endian.LeU32.{LeU32}
use Rattle.mysql_wire.specs.Codec.{Codec, Fields}
use Rattle.mysql_wire.specs.Codecs.{◌>>=◌, give, field, block, packet, const_u8, string_u8, u16, u32}
use Rattle.mysql_wire.specs.CommandCodes.{COM_REGISTER_SLAVE}
use Rattle.mysql_wire.specs.Int.{raw_int}
use Rattle.mysql_wire.specs.declared.constant.ConstU8.{ConstU8}
use Rattle.mysql_repl.specs.declared.register_slave.ComRegisterSlave.{ComRegisterSlave}
use Rattle.mysql_repl.specs.declared.register_slave.InvalidComRegisterSlaveHeader.{InvalidComRegisterSlaveHeader}

-- ---- the layout

-- the port, the rank and the source's server id
abbrev pub register_slave_numbers : Fields (Unit {0}) ComRegisterSlave (RawInt LeU16 ℕ × RawInt LeU32 ℕ × RawInt LeU32 ℕ)
register_slave_numbers = do
  port ← field (λ p. p.port) u16
  replication_rank ← field (λ p. p.replication_rank) u32
  master_id ← field (λ p. p.master_id) u32
  give (port, replication_rank, master_id)

-- in ten bytes
unfoldable pub register_slave_end : Fields (Unit {0}) ComRegisterSlave (RawInt LeU16 ℕ × RawInt LeU32 ℕ × RawInt LeU32 ℕ)
register_slave_end = block 10 register_slave_numbers (λ p. refl)

-- 15 and the replica's server id
abbrev pub register_slave_front : Fields (Unit {0}) ComRegisterSlave (ConstU8 InvalidComRegisterSlaveHeader COM_REGISTER_SLAVE × RawInt LeU32 ℕ)
register_slave_front = do
  header ← field (λ p. p.header) (const_u8 COM_REGISTER_SLAVE)
  server_id ← field (λ p. p.server_id) u32
  give (header, server_id)

-- in five bytes
unfoldable pub register_slave_head : Fields (Unit {0}) ComRegisterSlave (ConstU8 InvalidComRegisterSlaveHeader COM_REGISTER_SLAVE × RawInt LeU32 ℕ)
register_slave_head = block 5 register_slave_front (λ p. refl)

-- five bytes; host, user and password; ten bytes
abbrev pub register_slave_fields : Fields (Unit {0}) ComRegisterSlave ComRegisterSlave
register_slave_fields = do
  head ← register_slave_head
  hostname ← field (λ p. p.hostname) string_u8
  user ← field (λ p. p.user) string_u8
  password ← field (λ p. p.password) string_u8
  end ← register_slave_end
  give (record {
    header = head.0;
    server_id = head.1;
    hostname = hostname;
    user = user;
    password = password;
    port = end.0;
    replication_rank = end.1;
    master_id = end.2;
  })

unfoldable pub register_slave : Codec (Unit {0}) ComRegisterSlave
unfolding register_slave_head register_slave_end
register_slave = packet register_slave_fields (λ p. refl)

pub size-register_slave : (register_slave.form tt).size ≡ None
unfolding register_slave
size-register_slave = refl

-- the registration of a replica with this server id; everything else is empty or 0
abbrev pub registration : ℕ → ComRegisterSlave
registration number = record {
  header = record { 0 = record {} };
  server_id = raw_int number;
  hostname = [];
  user = [];
  password = [];
  port = raw_int 0;
  replication_rank = raw_int 0;
  master_id = raw_int 0;
}

abbrev pub with_hostname : List ℕ → ComRegisterSlave → ComRegisterSlave
with_hostname hostname p = record p { hostname = hostname }

abbrev pub with_user : List ℕ → ComRegisterSlave → ComRegisterSlave
with_user user p = record p { user = user }

abbrev pub with_password : List ℕ → ComRegisterSlave → ComRegisterSlave
with_password password p = record p { password = password }

abbrev pub with_port : ℕ → ComRegisterSlave → ComRegisterSlave
with_port port p = record p { port = raw_int port }

abbrev pub with_replication_rank : ℕ → ComRegisterSlave → ComRegisterSlave
with_replication_rank rank p = record p { replication_rank = raw_int rank }

abbrev pub with_master_id : ℕ → ComRegisterSlave → ComRegisterSlave
with_master_id master_id p = record p { master_id = raw_int master_id }

-- ---- values

abbrev pub server_id : ComRegisterSlave → ℕ
server_id p = p.server_id.0

abbrev pub hostname : ComRegisterSlave → List ℕ
hostname p = p.hostname

abbrev pub user : ComRegisterSlave → List ℕ
user p = p.user

abbrev pub password : ComRegisterSlave → List ℕ
password p = p.password

abbrev pub port : ComRegisterSlave → ℕ
port p = p.port.0

abbrev pub replication_rank : ComRegisterSlave → ℕ
replication_rank p = p.replication_rank.0

abbrev pub master_id : ComRegisterSlave → ℕ
master_id p = p.master_id.0

-- ---- when a registration is read back, in plain words

-- numbers within their widths, as they always are; strings of at most 255 bytes
pub record RegisterSlaveFits (p : ComRegisterSlave) : Type 0 where
  pub server_id : server_id p < 2 ^ 32
  pub hostname : length (hostname p) < 2 ^ 8
  pub user : length (user p) < 2 ^ 8
  pub password : length (password p) < 2 ^ 8
  pub port : port p < 2 ^ 16
  pub replication_rank : replication_rank p < 2 ^ 32
  pub master_id : master_id p < 2 ^ 32
