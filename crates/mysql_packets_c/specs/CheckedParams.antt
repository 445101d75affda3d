-- Parameters of an execution that were checked, and their bytes, where they have no names.
use Rattle.std.specs.Prelude.{◌≡◌, ℕ, Bool, true, false, ◌&&◌, List, None, Option, MatchOption, map, length}
use Rattle.std.specs.List.{list_all, list_any}
use Rattle.mysql_stmt.specs.ExecuteParam.{contents, param_bytes, value_of}
use Rattle.mysql_stmt.specs.Execution.{Execution}
use Rattle.mysql_stmt.specs.NullMarks.{bitmap_of, is_null, null_bit}
use Rattle.mysql_stmt.specs.SentParam.{bytes_under, is_spelled_under}
use Rattle.mysql_stmt.specs.declared.execute_head.ComStmtExecuteHead.{ComStmtExecuteHead}
use Rattle.mysql_values.specs.ParamType.{param_type}
use Rattle.mysql_wire.specs.Writing.{saturated}
use Rattle.mysql_packets_c.specs.Execution.{param}
use Rattle.mysql_packets_c.specs.Parameter.{is_parameter, named_type, param_given, sent}
use Rattle.mysql_packets_c.specs.Value.{is_param}
use Rattle.mysql_packets_c.specs.declared.parameter.CParameter.{CParameter}
use Rattle.mysql_packets_c.specs.declared.value.CValue.{CValue}

-- ---- one of them

-- it is a parameter, whose type encodes it
abbrev pub may_be_sent : CParameter → Bool
may_be_sent p = is_parameter p && is_spelled_under (named_type p).param_type (param_given p)

-- what is sent of its value
abbrev pub sent_bytes : CParameter → List ℕ
sent_bytes p = bytes_under false (named_type p).param_type (param_given p)

-- its type, without a name
abbrev pub type_sent : CParameter → List ℕ
type_sent p = param_type.bytes (named_type p).param_type

abbrev pub is_null_sent : CParameter → Bool
is_null_sent p = is_null (value_of (param_given p))

-- the length of a value under the type of its kind, where a parameter may have it
abbrev pub IsOwnLen : CValue → Option ℕ → Type 0
IsOwnLen v len = MatchOption len (is_param v ≡ false) (λ n. (is_param v ≡ true) × (n ≡ saturated (length (param_bytes false (param v)))))

-- the length of what is sent of it, where it may be sent
abbrev pub IsCheckedLen : CParameter → Option ℕ → Type 0
IsCheckedLen p len = MatchOption len (may_be_sent p ≡ false) (λ n. (may_be_sent p ≡ true) × (n ≡ saturated (length (sent_bytes p))))

-- ---- all of them

abbrev pub may_send : List CParameter → Bool
may_send items = list_all may_be_sent items

abbrev pub has_null : List CParameter → Bool
has_null items = list_any is_null_sent items

-- the bits of the bitmap of NULLs
abbrev pub bits_of : List CParameter → List ℕ
bits_of items = map null_bit (contents param_given items)

abbrev pub bitmap_for : List CParameter → List ℕ
bitmap_for items = bitmap_of (contents param_given items)

-- an execution of these without names and attributes, and without long data
abbrev pub plainly : ComStmtExecuteHead → List CParameter → (sends_types : Bool) → Execution
plainly head items sends_types = record { head = head; params = sent items; attributes = None; sends_types = sends_types; as_long_data = false }
