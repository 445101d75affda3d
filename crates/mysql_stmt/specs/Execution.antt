-- The bytes of an execution of a prepared statement.
use Rattle.std.specs.Prelude.{ℕ, ◌+◌, ◌&&◌, ◌||◌, Bool, true, false, is_some, if◌then◌else◌, List, [], ◌∷◌, ◌++◌, length, map, Option, unwrap_or}
use Rattle.mysql_wire.specs.FlagMasks.{PARAMETER_COUNT_AVAILABLE}
use Rattle.mysql_wire.specs.Flags.{has}
use Rattle.mysql_wire.specs.LenEnc.{lenenc_bytes}
use Rattle.mysql_wire.specs.Writing.{saturated}
use Rattle.mysql_stmt.specs.ExecuteHead.{cursor_flags, execute_head}
use Rattle.mysql_stmt.specs.ExecuteParam.{value_of}
use Rattle.mysql_stmt.specs.ExecuteParams.{where_some}
use Rattle.mysql_stmt.specs.NullMarks.{bitmap_of}
use Rattle.mysql_stmt.specs.SentParam.{bound_bytes}
use Rattle.mysql_stmt.specs.ExecuteRead.{TypedParam}
use Rattle.mysql_stmt.specs.declared.execute_head.ComStmtExecuteHead.{ComStmtExecuteHead}

-- the content of an execution
pub record Execution : Type 0 where
  pub head : ComStmtExecuteHead
  pub params : List TypedParam
  -- whether CLIENT_QUERY_ATTRIBUTES is agreed on
  pub attributes : Option (List TypedParam)
  -- whether the parameters' types are sent; attributes require it
  pub sends_types : Bool
  -- whether parameters that are byte strings are left out, because they are sent as long data
  pub as_long_data : Bool

-- the attributes; none if the execution can't have any
abbrev pub listed : Execution → List TypedParam
listed e = unwrap_or e.attributes []

-- the attributes follow the parameters
abbrev pub all_params : Execution → List TypedParam
all_params e = e.params ++ listed e

-- if attributes are possible, each type has a name
abbrev pub has_names : Execution → Bool
has_names e = is_some e.attributes

abbrev pub has_some : {A : Type 0} → List A → Bool
has_some [] = false
has_some (x ∷ xs) = true

-- a server looks for a count if the statement has parameters, or if the flag says that there is one
abbrev pub has_count : Execution → Bool
has_count e = has_names e && (has_some (all_params e) || has (cursor_flags e.head) PARAMETER_COUNT_AVAILABLE)

abbrev pub types_follow : Execution → Bool
types_follow e = e.sends_types || has_some (listed e)

-- ---- bytes

-- the number of parameters and attributes
abbrev pub count_bytes : Execution → List ℕ
count_bytes e = if has_count e then lenenc_bytes (saturated (length e.params + length (listed e))) else []

-- the bitmap of NULLs
abbrev pub null_bytes : Execution → List ℕ
null_bytes e = bitmap_of (map (λ p. value_of p.param) (all_params e))

abbrev pub params_bytes : Execution → List ℕ
params_bytes e = bound_bytes (null_bytes e) (types_follow e) (has_names e) e.as_long_data e.params (listed e)

-- the head, the count, and the rest if there are parameters or attributes
abbrev pub execution_bytes : Execution → List ℕ
execution_bytes e = execute_head.bytes e.head ++ (count_bytes e ++ where_some (all_params e) (params_bytes e))
