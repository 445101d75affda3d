-- The capabilities that a driver over these packets can support.
use Rattle.std.specs.Prelude.{ℕ, ◌+◌, ◌-◌, ◌^◌}
use Rattle.mysql_wire.specs.FlagMasks.{CLIENT_COMPRESS, CLIENT_SSL, CLIENT_ZSTD_COMPRESSION_ALGORITHM}

-- all of 32 bits except for these three
abbrev pub supported : ℕ
supported = 2 ^ 32 - 1 - (CLIENT_COMPRESS + CLIENT_SSL + CLIENT_ZSTD_COMPRESSION_ALGORITHM)
