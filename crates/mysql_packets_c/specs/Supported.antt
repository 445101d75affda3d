-- The flags under which each packet of a session can be read and written: all except for compression.
use Rattle.std.specs.Prelude.{ℕ}
use Rattle.bitflags.specs.Sets.{without}
use Rattle.mysql_wire.specs.FlagMasks.{CLIENT_COMPRESS, CLIENT_ZSTD_COMPRESSION_ALGORITHM, MARIADB_CLIENT_COM_MULTI}

-- the flags of enum myp_client_flag, except for these
abbrev pub supported : ℕ
supported = without 32 (without 32 0x7fff_ffff CLIENT_COMPRESS) CLIENT_ZSTD_COMPRESSION_ALGORITHM

-- the flags of enum myp_mariadb_client_flag, except for COM_MULTI
abbrev pub supported_of_mariadb : ℕ
supported_of_mariadb = without 32 0x3f MARIADB_CLIENT_COM_MULTI
