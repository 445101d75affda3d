-- A command without a record: its code, and the rest as bytes.
use Rattle.std.specs.Prelude.{◌≡◌, ℕ, List, Bool, true, false, Option, Some, None, refl}
use Rattle.mysql_wire.specs.Codecs.{Codec, Fields, ◌>>=◌, give, field, packet, u8, string_eof, raw_int}
use Rattle.mysql_wire.specs.Flags.{CapabilityFlags}
use Rattle.mysql_wire.specs.ServerCommand.{server_command_of}
use Rattle.mysql_wire.specs.declared.codes.server_command.ServerCommand.{ServerCommand}
use Rattle.mysql_wire.specs.declared.codes.server_command.ServerCommand.TheVariants as name
use Rattle.mysql_commands.specs.declared.unknown.UnknownCommand.{UnknownCommand}

abbrev pub code : UnknownCommand → ℕ
code p = p.code

abbrev pub content : UnknownCommand → List ℕ
content p = p.content

abbrev pub unknown_of : ℕ → List ℕ → UnknownCommand
unknown_of code content = record { code = code; content = content }

-- any byte, and the rest
abbrev pub unknown_fields : Fields (Unit {0}) UnknownCommand UnknownCommand
unknown_fields = do
  code ← field (λ p. raw_int (code p)) u8
  content ← field content string_eof
  give (unknown_of code.0 content)

unfoldable pub unknown : Codec (Unit {0}) UnknownCommand
unknown = packet unknown_fields (λ p. refl)

-- whether the command with this code has a record
abbrev pub has_record : Option ServerCommand → Bool
has_record None = false
has_record (Some name.COM_SLEEP) = false
has_record (Some name.COM_CONNECT) = false
has_record (Some name.COM_TIME) = false
has_record (Some name.COM_DELAYED_INSERT) = false
has_record (Some name.COM_CONNECT_OUT) = false
has_record (Some name.COM_DAEMON) = false
has_record (Some name.COM_CLONE) = false
has_record (Some name.COM_SUBSCRIBE_GROUP_REPLICATION_STREAM) = false
has_record (Some name.COM_SLAVE_WORKER) = false
has_record (Some name.COM_SLAVE_IO) = false
has_record (Some name.COM_SLAVE_SQL) = false
has_record (Some name.COM_MULTI) = false
has_record (Some other) = true

-- the same codec, which fits if no command with this code has a record
abbrev pub unknown_command : Codec CapabilityFlags UnknownCommand
unknown_command = record {
  form = λ c. unknown.form tt;
  bytes = unknown.bytes;
  len = unknown.len;
  fits = λ c p rest. (has_record (server_command_of (code p)) ≡ false) × unknown.fits tt p rest;
  exact = λ c p rest h. unknown.exact tt p rest h.1;
  again = λ c p rest h. unknown.again tt p rest h.1;
}
