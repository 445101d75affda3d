-- The setting of an option.
use Rattle.std.specs.Prelude.{ℕ, ◌==◌, if◌then◌else◌, Option, Some, None, refl}
use Rattle.mysql_wire.specs.Codecs.{Codec, Fields, ◌>>=◌, give, field, block, packet, const_u8, u16, raw_int}
use Rattle.mysql_wire.specs.CommandCodes.{COM_SET_OPTION}
use Rattle.mysql_commands.specs.declared.set_option.ComSetOption.{ComSetOption}
use Rattle.mysql_commands.specs.declared.set_option.InvalidComSetOptionHeader.{InvalidComSetOptionHeader}
use Rattle.mysql_commands.specs.declared.set_option.ServerOption.{ServerOption}
use Rattle.mysql_commands.specs.declared.set_option.ServerOption.TheVariants as option

-- the numbers of the options
abbrev pub option_code : ServerOption → ℕ
option_code option.MultiStatementsOn = 0
option_code option.MultiStatementsOff = 1

-- the option with this number
abbrev pub option_of : ℕ → Option ServerOption
option_of n = if n == 0 then Some option.MultiStatementsOn else if n == 1 then Some option.MultiStatementsOff else None

-- 1b, and the option's number
abbrev pub set_option_fields : Fields (Unit {0}) ComSetOption ComSetOption
set_option_fields = do
  header ← field (λ p. record { 0 = record {} }) (const_u8 {T = InvalidComSetOptionHeader} COM_SET_OPTION)
  code ← field (λ p. raw_int p.code) u16
  give (record { code = code.0 })

-- three bytes
unfoldable pub set_option : Codec (Unit {0}) ComSetOption
set_option = packet (block 3 set_option_fields (λ p. refl)) (λ p. refl)
