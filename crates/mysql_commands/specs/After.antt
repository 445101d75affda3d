-- What follows a command's code.
use Rattle.std.specs.Prelude.{ℕ, List, [], ◌++◌, length, Option, refl}
use Rattle.std.proofs.Common.{append_assoc, arith}
use Rattle.mysql_wire.specs.Codec.{Codec}
use Rattle.mysql_wire.specs.Codecs.{u8, u32, string_eof, if_bytes_left}
use Rattle.mysql_wire.specs.ConstantValue.{const_of}
use Rattle.mysql_wire.specs.Form as form
use Rattle.mysql_wire.specs.ServerCommand.{server_command, server_command_code, server_command-again}
use Rattle.mysql_wire.specs.Writing.{le_bytes}
use Rattle.mysql_wire.specs.declared.codes.server_command.ServerCommand.{ServerCommand}
use Rattle.mysql_wire.specs.declared.int.RawInt.{RawInt}
use Rattle.mysql_wire.specs.declared.little_endian.LeU32.{LeU32}

-- the code that selects this form, and then the body
abbrev pub after_form : {A : Type 0} → form.Form A → form.Form A
after_form body = form.◌>>=◌ server_command (λ command. body)

-- a command's code
unfoldable pub code_bytes : ServerCommand → List ℕ
code_bytes command = le_bytes 1 (server_command_code command)

pub code-again : {A : Type 0} (command : ServerCommand) (body : form.Form A) (a : A) (bytes rest : List ℕ) → body.Spells a (bytes ++ rest) rest
    → (after_form body).Spells a ((code_bytes command ++ bytes) ++ rest) rest
unfolding code_bytes
code-again command body a bytes rest h = (const_of command, bytes ++ rest, rw append_assoc (server_command-again (const_of command) (bytes ++ rest)), h)

abbrev pub after : {C A : Type 0} → ServerCommand → Codec C A → Codec C A
after command body = record {
  form = λ c. after_form (body.form c);
  bytes = λ a. code_bytes command ++ body.bytes a;
  len = λ a. length (code_bytes command ++ body.bytes a);
  fits = body.fits;
  exact = λ c a rest h. refl;
  again = λ c a rest h. code-again command (body.form c) a (body.bytes a) rest (body.again c a rest h);
}

-- nothing
abbrev pub nothing : {C : Type 0} → Codec C (Unit {0})
nothing = record {
  form = λ c. form.give tt;
  bytes = λ a. [];
  len = λ a. 0;
  fits = λ c a rest. Unit {0};
  exact = λ c a rest h. refl;
  again = λ c a rest h. (refl, refl);
}

-- a command that consists of its code
abbrev pub fixed : {C : Type 0} → ServerCommand → Codec C (Unit {0})
fixed command = after command nothing

-- a command with one text
abbrev pub text : {C : Type 0} → ServerCommand → Codec C (List ℕ)
text command = after command string_eof

-- a command with one byte, with an optional byte, and with a number of four bytes
abbrev pub one_byte : {C : Type 0} → ServerCommand → Codec C (RawInt ℕ ℕ)
one_byte command = after command u8

abbrev pub optional_byte : {C : Type 0} → Codec C (Option (RawInt ℕ ℕ))
optional_byte = if_bytes_left u8 (λ n. omega arith)

abbrev pub one_number : {C : Type 0} → ServerCommand → Codec C (RawInt LeU32 ℕ)
one_number command = after command u32

-- a byte, if one is left
abbrev pub byte_left : form.Form (Option (RawInt ℕ ℕ))
byte_left = (optional_byte {C = Unit {0}}).form tt
