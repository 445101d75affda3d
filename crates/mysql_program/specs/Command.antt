-- The program's commands.
use Rattle.std.specs.Prelude.{ℕ, List, [], ◌∷◌, Bool, true, false, Option, Some, None, option_map, codes, if◌then◌else◌}
use Rattle.mysql_wire.specs.Flags.{CapabilityFlags}
use Rattle.mysql_program.specs.declared.command.Command.{Command}
use Rattle.mysql_program.specs.declared.command.Command.TheVariants as command
use Rattle.mysql_program.specs.declared.commands.change_layout.ChangeLayout.{ChangeLayout}
use Rattle.mysql_program.specs.declared.commands.change_layout.ChangeLayout.TheVariants as layout
use Rattle.mysql_program.specs.declared.commands.ok.OkKind.{OkKind}
use Rattle.mysql_program.specs.Capabilities.{capabilities_of}
use Rattle.mysql_program.specs.ChangeLayout.{layout_of}
use Rattle.mysql_program.specs.Digits.{bytes_of}
use Rattle.mysql_program.specs.OkKind.{kind_of}
use Rattle.mysql_program.specs.Named.{is_named}
use Rattle.mysql_program.specs.BulkCall.{bulk_call}

-- HEX
abbrev pub digits_in : List (List ℕ) → Option (List ℕ)
digits_in (digits ∷ []) = bytes_of digits
digits_in _ = None

-- TEXT
abbrev pub word_in : List (List ℕ) → Option (List ℕ)
word_in (word ∷ []) = Some word
word_in _ = None

abbrev pub err_command : Option CapabilityFlags → Option (List ℕ) → Option Command
err_command (Some capabilities) (Some bytes) = Some (command.Err capabilities bytes)
err_command (Some capabilities) None = None
err_command None bytes = None

-- CAPS HEX
abbrev pub err_call : List (List ℕ) → Option Command
err_call (capabilities ∷ digits ∷ []) = err_command (capabilities_of capabilities) (bytes_of digits)
err_call _ = None

abbrev pub ok_command : Option OkKind → Option CapabilityFlags → Option (List ℕ) → Option ChangeLayout → Option Command
ok_command (Some kind) (Some capabilities) (Some bytes) (Some layout) = Some (command.Ok kind capabilities bytes layout)
ok_command _ _ _ _ = None

-- KIND CAPS HEX [as-sent]
unfoldable pub ok_call : List (List ℕ) → Option Command
ok_call (kind ∷ capabilities ∷ digits ∷ []) = ok_command (kind_of kind) (capabilities_of capabilities) (bytes_of digits) (Some layout.Documented)
ok_call (kind ∷ capabilities ∷ digits ∷ word ∷ []) = ok_command (kind_of kind) (capabilities_of capabilities) (bytes_of digits) (layout_of word)
ok_call _ = None

abbrev pub call : (name : List ℕ) → (arguments : List (List ℕ)) → Option Command
call name arguments =
    if is_named name (codes "stmt") then option_map command.Stmt (digits_in arguments)
    else if is_named name (codes "infile") then option_map command.Infile (digits_in arguments)
    else if is_named name (codes "column") then option_map command.Column (digits_in arguments)
    else if is_named name (codes "handshake") then option_map command.Handshake (digits_in arguments)
    else if is_named name (codes "gtid") then option_map command.Gtid (digits_in arguments)
    else if is_named name (codes "gtidstrict") then option_map command.GtidStrict (digits_in arguments)
    else if is_named name (codes "sid") then option_map command.Sid (word_in arguments)
    else if is_named name (codes "gtidset") then option_map command.GtidSet (word_in arguments)
    else if is_named name (codes "ok") then ok_call arguments
    else if is_named name (codes "err") then err_call arguments
    else if is_named name (codes "bulk") then option_map command.Bulk (bulk_call arguments)
    else None

-- the command, unless it is a bad call
abbrev pub command_of : List (List ℕ) → Option Command
command_of [] = None
command_of (name ∷ arguments) = call name arguments

-- only `bulk` reads the input
abbrev pub reads_input : Option Command → Bool
reads_input (Some (command.Bulk call)) = true
reads_input _ = false
