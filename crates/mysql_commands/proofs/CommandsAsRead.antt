-- Commands are written as they were read.
use Rattle.std.proofs.Common.{◌≡◌, ℕ, Bool, true, false, List, [], ◌∷◌, ◌++◌, length, Option, Some, None, option_map, refl, sym, subst, ◌∙◌, arith}
use Rattle.mysql_wire.specs.ConstantValue.{coded}
use Rattle.mysql_wire.specs.Form.{Form, all_left, bytes, number, le_value, give, when}
use Rattle.mysql_wire.specs.Int.{raw_int, byte, le_u32}
use Rattle.mysql_wire.specs.Codes.{with_code-code}
use Rattle.mysql_wire.specs.Flags.{CapabilityFlags}
use Rattle.mysql_wire.specs.Optional.{optional_bytes}
use Rattle.mysql_wire.specs.ServerCommand.{server_command_code, server_command_of, server_commands}
use Rattle.mysql_wire.specs.declared.codes.server_command.ServerCommand.{ServerCommand}
use Rattle.mysql_wire.specs.declared.codes.server_command.ServerCommand.TheVariants as name
use Rattle.mysql_wire.specs.Writing.{le_bytes}
use Rattle.mysql_wire.specs.declared.int.RawInt.{RawInt}
use Rattle.mysql_wire.specs.declared.little_endian.LeU32.{LeU32}
use Rattle.mysql_auth.specs.ComChangeUser.{change_user_as_sent}
use Rattle.mysql_repl.specs.BinlogDumpGtid.{gtid_dump}
use Rattle.mysql_commands.specs.After.{after_form, byte_left, code_bytes}
use Rattle.mysql_commands.specs.WithRawBytes.{as_sent_form}
use Rattle.mysql_commands.specs.Command.{command, command_at, command_named, command_bytes}
use Rattle.mysql_commands.specs.Query.{query, sends_attributes}
use Rattle.mysql_commands.specs.QueryAttributes.{query_attributes}
use Rattle.mysql_commands.specs.declared.with_raw_bytes.WithRawBytes.{WithRawBytes}
use Rattle.mysql_commands.specs.declared.command.Command.{Command}
use Rattle.mysql_commands.specs.AsRead.{AreBytes, Exact}
use Rattle.mysql_commands.proofs.AsRead.{as-read, part, parts, no_part, const_part, left_part, bytes-left, then-exact, number-exact, raw-exact, left-exact}
use Rattle.mysql_commands.proofs.PacketsAsRead.{field_list-exact, bulk_execute-exact, long_data-exact, table_dump-exact, unknown-exact, close-exact, stmt_reset-exact, stmt_fetch-exact, set_option-exact, stmt_execute-exact, binlog_dump-exact, register_slave-exact}

-- ---- what is written as it was sent

pub sent-exact : {T : Type 0} (f : Form T) (p : WithRawBytes T) (before rest : List ℕ) → (as_sent_form f).Spells p before rest → p.bytes ++ rest ≡ before
sent-exact f p before rest s = sym s.1

attributes-exact : (flag : Bool) → Exact (when flag (as_sent_form query_attributes)) (optional_bytes (λ p. p.bytes))
attributes-exact true given before rest h s = rw (← s.1) (sent-exact query_attributes s.0 before rest s.2)
attributes-exact false given before rest h s = rw s.0 (sym s.1)

pub query-exact : (c : CapabilityFlags) → Exact (query.form c) query.bytes
unfolding query
query-exact c =
    as-read query c (parts (const_part 0x03) (λ header. parts (part (optional_bytes (λ p. p.bytes)) (attributes-exact (sends_attributes c))) (λ attributes. parts left_part (λ text. no_part _))))
    (λ v before rest s. rw s.3.3.3.0 refl)

-- ---- after a command's byte

nothing-exact : Exact (give {A = Unit {0}} tt) (λ u. [])
nothing-exact v before rest h s = sym s.1

byte_left-exact : Exact byte_left (optional_bytes (λ n. le_bytes 1 n.0))
byte_left-exact v [] rest h s = rw s.0 (sym s.1)
byte_left-exact v (b ∷ bs) rest h s = rw (← s.1) (raw-exact ℕ 1 s.0 (b ∷ bs) rest h s.2)

levels : (x : Option (RawInt ℕ ℕ)) → optional_bytes (λ (n : RawInt ℕ ℕ). le_bytes 1 n.0) (option_map raw_int (option_map (λ n. n.0) x)) ≡ optional_bytes (λ n. le_bytes 1 n.0) x
levels None = refl
levels (Some n) = refl

first-of : (c : List ℕ) (b : ℕ) (bs mid : List ℕ) → length c ≡ 1 → b ∷ bs ≡ c ++ mid → le_value c ≡ b
first-of [] b bs mid len e = absurd (omega (arith, len))
first-of (x ∷ []) b bs mid len e = let same : b ≡ x = cc in omega (arith, same)
first-of (x ∷ y ∷ c) b bs mid len e = absurd (omega (arith, len))

module _ {A : Type 0} (body : Form A) (written : A → List ℕ) (exact : Exact body written) (command : ServerCommand) (b : ℕ) (bs : List ℕ) (named : server_command_of b ≡ Some command) where
  pub after-exact : (v : A) (rest : List ℕ) → AreBytes (b ∷ bs) → (after_form body).Spells v (b ∷ bs) rest → (code_bytes command ++ written v) ++ rest ≡ b ∷ bs
  unfolding code_bytes coded number bytes server_command_of
  after-exact v rest h s =
      let code : server_command_code command ≡ b = with_code-code server_command_code server_commands b command named in
      let is : s.2.0 ≡ b = sym s.2.2.1 ∙ first-of s.2.2.0 b bs s.1 s.2.2.2.0 s.2.2.2.1 in
      let e : le_bytes 1 s.2.0 ++ s.1 ≡ b ∷ bs = number-exact 1 s.2.0 (b ∷ bs) s.1 h s.2.2 in
      let first : le_bytes 1 (server_command_code command) ++ s.1 ≡ b ∷ bs = subst (λ (n : ℕ). le_bytes 1 n ++ s.1 ≡ b ∷ bs) (is ∙ sym code) e in
      then-exact (le_bytes 1 (server_command_code command)) (written v) (b ∷ bs) s.1 rest first (exact v s.1 rest (bytes-left (le_bytes 1 (server_command_code command)) (b ∷ bs) s.1 h first) s.3)

-- ---- commands

named-exact : (c : CapabilityFlags) (o : Option ServerCommand) (v : Command) (b : ℕ) (bs rest : List ℕ) → server_command_of b ≡ o → AreBytes (b ∷ bs)
    → (command_named c o).Spells v (b ∷ bs) rest → command_bytes v ++ rest ≡ b ∷ bs
unfolding command_bytes
named-exact c (Some name.COM_QUIT) v b bs rest e h s = rw (← s.1) (after-exact (give {A = Unit {0}} tt) (λ u. []) nothing-exact name.COM_QUIT b bs e s.0 rest h s.2)
named-exact c (Some name.COM_INIT_DB) v b bs rest e h s = rw (← s.1) (after-exact all_left (λ t. t) left-exact name.COM_INIT_DB b bs e s.0 rest h s.2)
named-exact c (Some name.COM_QUERY) v b bs rest e h s = rw (← s.1) (query-exact c s.0 (b ∷ bs) rest h s.2)
named-exact c (Some name.COM_FIELD_LIST) v b bs rest e h s = rw (← s.1) (field_list-exact s.0 (b ∷ bs) rest h s.2)
named-exact c (Some name.COM_CREATE_DB) v b bs rest e h s = rw (← s.1) (after-exact all_left (λ t. t) left-exact name.COM_CREATE_DB b bs e s.0 rest h s.2)
named-exact c (Some name.COM_DROP_DB) v b bs rest e h s = rw (← s.1) (after-exact all_left (λ t. t) left-exact name.COM_DROP_DB b bs e s.0 rest h s.2)
named-exact c (Some name.COM_REFRESH) v b bs rest e h s = rw (← s.1) (after-exact byte (λ n. le_bytes 1 n.0) (raw-exact ℕ 1) name.COM_REFRESH b bs e s.0 rest h s.2)
named-exact c (Some name.COM_SHUTDOWN) v b bs rest e h s = rw (← s.1, levels s.0) (after-exact byte_left (optional_bytes (λ n. le_bytes 1 n.0)) byte_left-exact name.COM_SHUTDOWN b bs e s.0 rest h s.2)
named-exact c (Some name.COM_STATISTICS) v b bs rest e h s = rw (← s.1) (after-exact (give {A = Unit {0}} tt) (λ u. []) nothing-exact name.COM_STATISTICS b bs e s.0 rest h s.2)
named-exact c (Some name.COM_PROCESS_INFO) v b bs rest e h s = rw (← s.1) (after-exact (give {A = Unit {0}} tt) (λ u. []) nothing-exact name.COM_PROCESS_INFO b bs e s.0 rest h s.2)
named-exact c (Some name.COM_PROCESS_KILL) v b bs rest e h s = rw (← s.1) (after-exact le_u32 (λ n. le_bytes 4 n.0) (raw-exact LeU32 4) name.COM_PROCESS_KILL b bs e s.0 rest h s.2)
named-exact c (Some name.COM_DEBUG) v b bs rest e h s = rw (← s.1) (after-exact (give {A = Unit {0}} tt) (λ u. []) nothing-exact name.COM_DEBUG b bs e s.0 rest h s.2)
named-exact c (Some name.COM_PING) v b bs rest e h s = rw (← s.1) (after-exact (give {A = Unit {0}} tt) (λ u. []) nothing-exact name.COM_PING b bs e s.0 rest h s.2)
named-exact c (Some name.COM_CHANGE_USER) v b bs rest e h s = rw (← s.1) (sent-exact (change_user_as_sent.form c) s.0 (b ∷ bs) rest s.2)
named-exact c (Some name.COM_BINLOG_DUMP) v b bs rest e h s = rw (← s.1) (binlog_dump-exact s.0 (b ∷ bs) rest h s.2)
named-exact c (Some name.COM_TABLE_DUMP) v b bs rest e h s = rw (← s.1) (table_dump-exact s.0 (b ∷ bs) rest h s.2)
named-exact c (Some name.COM_REGISTER_SLAVE) v b bs rest e h s = rw (← s.1) (register_slave-exact s.0 (b ∷ bs) rest h s.2)
named-exact c (Some name.COM_STMT_PREPARE) v b bs rest e h s = rw (← s.1) (after-exact all_left (λ t. t) left-exact name.COM_STMT_PREPARE b bs e s.0 rest h s.2)
named-exact c (Some name.COM_STMT_EXECUTE) v b bs rest e h s = rw (← s.1) (stmt_execute-exact s.0 (b ∷ bs) rest h s.2)
named-exact c (Some name.COM_STMT_SEND_LONG_DATA) v b bs rest e h s = rw (← s.1) (long_data-exact s.0 (b ∷ bs) rest h s.2)
named-exact c (Some name.COM_STMT_CLOSE) v b bs rest e h s = rw (← s.1) (close-exact s.0 (b ∷ bs) rest h s.2)
named-exact c (Some name.COM_STMT_RESET) v b bs rest e h s = rw (← s.1) (stmt_reset-exact s.0 (b ∷ bs) rest h s.2)
named-exact c (Some name.COM_SET_OPTION) v b bs rest e h s = rw (← s.1) (set_option-exact s.0 (b ∷ bs) rest h s.2)
named-exact c (Some name.COM_STMT_FETCH) v b bs rest e h s = rw (← s.1) (stmt_fetch-exact s.0 (b ∷ bs) rest h s.2)
named-exact c (Some name.COM_BINLOG_DUMP_GTID) v b bs rest e h s = rw (← s.1) (sent-exact (gtid_dump.form false) s.0 (b ∷ bs) rest s.2)
named-exact c (Some name.COM_RESET_CONNECTION) v b bs rest e h s = rw (← s.1) (after-exact (give {A = Unit {0}} tt) (λ u. []) nothing-exact name.COM_RESET_CONNECTION b bs e s.0 rest h s.2)
named-exact c (Some name.COM_STMT_BULK_EXECUTE) v b bs rest e h s = rw (← s.1) (bulk_execute-exact s.0 (b ∷ bs) rest h s.2)
named-exact c _ v b bs rest e h s = rw (← s.1) (unknown-exact s.0 (b ∷ bs) rest h s.2)

at-exact : (c : CapabilityFlags) (v : Command) (before rest : List ℕ) → AreBytes before → (command_at c before).Spells v before rest → command_bytes v ++ rest ≡ before
unfolding command_bytes
at-exact c v [] rest h s = rw (← s.1) (unknown-exact s.0 [] rest h s.2)
at-exact c v (b ∷ bs) rest h s = named-exact c (server_command_of b) v b bs rest refl h s

pub command-exact : (c : CapabilityFlags) (v : Command) (before rest : List ℕ) → AreBytes before → (command c).Spells v before rest → command_bytes v ++ rest ≡ before
unfolding command
command-exact c v before rest h s = at-exact c v before rest h s

pub ruleset as_read = (command-exact)
