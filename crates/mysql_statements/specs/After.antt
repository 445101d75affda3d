-- The table after a packet.
use Rattle.std.specs.Prelude.{ℕ, ◌==◌, ◌||◌, List, Bool, Option, Some, None, if◌then◌else◌}
use Rattle.mysql_wire.specs.CommandCodes.{COM_CHANGE_USER, COM_STMT_PREPARE, COM_STMT_EXECUTE, COM_STMT_SEND_LONG_DATA, COM_STMT_CLOSE, COM_STMT_RESET, COM_STMT_FETCH, COM_RESET_CONNECTION, COM_STMT_BULK_EXECUTE}
use Rattle.mysql_conversation.specs.Agreements.{Agreed}
use Rattle.mysql_conversation.specs.declared.packet_kind.PacketKind.{PacketKind}
use Rattle.mysql_conversation.specs.declared.packet_kind.PacketKind.TheVariants as kind
use Rattle.mysql_statements.specs.declared.layout.Layout.TheVariants.{Single, Bulk}
use Rattle.mysql_statements.specs.Packets.{number_at, prepared_at, column_at, data_at}
use Rattle.mysql_statements.specs.Table.{Table, otherwise, preparing, prepared, failed, defined, executed, fetched, counted, sent_ahead, reset, closed, cleared}

abbrev pub for_data : Option (ℕ × ℕ) → Table → Table
for_data None t = otherwise t
for_data (Some x) t = sent_ahead x.0 x.1 t

-- a command on one statement
abbrev pub asked_one : Agreed → ℕ → List ℕ → Option ℕ → Table → Table
asked_one a code p None t = otherwise t
asked_one a code p (Some id) t =
    if code == COM_STMT_CLOSE then closed id t
    else (if code == COM_STMT_RESET then reset id t
    else (if code == COM_STMT_FETCH then fetched id t
    else (if code == COM_STMT_BULK_EXECUTE then executed Bulk p id t
    else executed (Single a.mysql) p id t)))  -- COM_STMT_EXECUTE

abbrev pub is_of_one : ℕ → Bool
is_of_one code = code == COM_STMT_EXECUTE || code == COM_STMT_BULK_EXECUTE || code == COM_STMT_FETCH || code == COM_STMT_CLOSE || code == COM_STMT_RESET

-- a command, by its first byte
abbrev pub asked : Agreed → ℕ → List ℕ → Table → Table
asked a code p t =
    if code == COM_STMT_PREPARE then preparing t
    else (if code == COM_CHANGE_USER then cleared t
    else (if code == COM_RESET_CONNECTION then cleared t
    else (if code == COM_STMT_SEND_LONG_DATA then for_data (data_at p) t
    else (if is_of_one code then asked_one a code p (number_at p) t
    else otherwise t))))

abbrev pub prepared_by : Bool → Option ℕ → (columns params : ℕ) → Bool → Table → Table
prepared_by memory None columns params follow t = otherwise t
prepared_by memory (Some id) columns params follow t = prepared memory id params columns follow t

-- the table after a packet of this kind; `memory` says whether an allocation succeeds
abbrev pub after : Bool → Agreed → PacketKind → List ℕ → Table → Table
after memory a (kind.Command code) p t = asked a code p t
after memory a (kind.PrepareOk columns params follow) p t = prepared_by memory (prepared_at p) columns params follow t
after memory a kind.Column p t = defined memory (column_at a p) t
after memory a (kind.ColumnCount count follow) p t = counted count follow t
after memory a kind.Error p t = failed t
after memory a _ p t = t
