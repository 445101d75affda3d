-- An execution of a prepared statement: the builder's settings, and the request.
use Rattle.std.specs.Prelude.{◌≡◌, ◌<◌, ◌↔◌, IsTrue, ℕ, bit_and, bit_or, nat_lt, Bool, true, false, List, length, Option, Some, None, if◌then◌else◌, ◌&&◌, not}
use Rattle.std.specs.Option.{option_copied, option_map}
use Rattle.mysql_wire.specs.FlagMasks.{PARAMETER_COUNT_AVAILABLE}
use Rattle.mysql_wire.specs.Flags.{CursorType}
use Rattle.mysql_stmt.specs.ExecuteHead as head
use Rattle.mysql_stmt.specs.ExecuteParam.{Param}
use Rattle.mysql_stmt.specs.Execution.{Execution, execution_bytes, has_some, listed as listed_params}
use Rattle.mysql_stmt.specs.Payload.{max_payload}
use Rattle.mysql_stmt.specs.SentParam.{first_unspelled, list_of, sent_params}
use Rattle.mysql_stmt.specs.ExecuteRead.{TypedParam}
use Rattle.mysql_stmt.specs.SentTypes.{NamedType}
use Rattle.mysql_stmt.specs.declared.execute_head.ComStmtExecuteHead.{ComStmtExecuteHead}
use Rattle.mysql_stmt.specs.declared.execute_with_options.ComStmtExecuteOptionsBuilder.{ComStmtExecuteOptionsBuilder}
use Rattle.mysql_stmt.specs.declared.execute_with_options.Cursor.{Cursor}
use Rattle.mysql_stmt.specs.declared.execute_with_options.Cursor.TheVariants as cursor
use Rattle.mysql_stmt.specs.declared.execution.ComStmtExecuteWithOptions.{ComStmtExecuteWithOptions}
use Rattle.mysql_stmt.specs.declared.typed_param.TypedExecutionError.{TypedExecutionError}
use Rattle.mysql_stmt.specs.declared.typed_param.TypedExecutionError.TheVariants as refusal

-- ---- flags

abbrev pub cursor_bits : Cursor → ℕ
cursor_bits cursor.ReadOnly = 1
cursor_bits cursor.ForUpdate = 2
cursor_bits cursor.Scrollable = 4

-- with another cursor; PARAMETER_COUNT_AVAILABLE is unchanged
abbrev pub with_cursor : ℕ → Cursor → ℕ
with_cursor flags cursor = bit_or (cursor_bits cursor) (bit_and flags PARAMETER_COUNT_AVAILABLE)

-- the flags of an execution that opens this cursor
abbrev pub opened : CursorType → Cursor → CursorType
opened flags cursor = record { 0 = with_cursor flags.0 cursor; 1 = record {} }

abbrev pub counted : ℕ → ℕ
counted flags = bit_or flags PARAMETER_COUNT_AVAILABLE

-- ---- settings

module _ {A : Type 0} where
  abbrev pub builder_attributes : ComStmtExecuteOptionsBuilder A → Option (List A)
  builder_attributes b = option_copied b.attributes

  abbrev pub builder_listed : ComStmtExecuteOptionsBuilder A → List A
  builder_listed b = list_of (builder_attributes b)

  -- Without parameters, a server looks for attributes only if the flags say that there is a count.
  abbrev pub flags_for : ComStmtExecuteOptionsBuilder A → (has_params : Bool) → CursorType
  flags_for b has_params = record { 0 = if has_some (builder_listed b) && not has_params then counted b.flags.0 else b.flags.0; 1 = record {} }

  abbrev pub head_for : ComStmtExecuteOptionsBuilder A → (has_params : Bool) → ComStmtExecuteHead
  head_for b has_params = head.with_count b.iteration_count (head.head_with b.stmt_id (flags_for b has_params))

  -- the execution that the builder makes of these parameters; `as_long_data` says whether byte strings are sent as long data
  abbrev pub asked : (attribute : A → Param) (attribute_type : A → NamedType) → ComStmtExecuteOptionsBuilder A → List TypedParam → (as_long_data : Bool) → Execution
  asked attribute attribute_type b params as_long_data = record {
    head = head_for b (has_some params);
    params = params;
    attributes = option_map (sent_params attribute attribute_type) (builder_attributes b);
    sends_types = b.sends_types;
    as_long_data = as_long_data;
  }

-- the same for a builder without options
abbrev pub asked_plainly : (stmt_id : ℕ) → List TypedParam → (as_long_data : Bool) → Execution
asked_plainly stmt_id params as_long_data =
    record { head = head.head_without_cursor stmt_id; params = params; attributes = None; sends_types = true; as_long_data = as_long_data }

module _ (execution : (as_long_data : Bool) → Execution) where
  -- byte strings become long data if the values don't fit in one packet
  abbrev pub IsAsLong : Bool → Type 0
  IsAsLong long = IsTrue long ↔ (max_payload < length (execution_bytes (execution false)))

  -- the bytes that are written
  abbrev pub written_bytes : List ℕ
  written_bytes = execution_bytes (execution (nat_lt max_payload (length (execution_bytes (execution false)))))

  -- every type can encode its value
  abbrev pub IsSpelled : Type 0
  IsSpelled = (first_unspelled (execution false).params ≡ None) × (first_unspelled (listed_params (execution false)) ≡ None)

  -- why the execution is refused: the first value that its type can't encode, parameters first; or memory
  abbrev pub Refuses : TypedExecutionError → Type 0
  Refuses (refusal.TypeMismatch place) = first_unspelled (execution false).params ≡ Some place
  Refuses (refusal.AttributeTypeMismatch place) = (first_unspelled (execution false).params ≡ None) × (first_unspelled (listed_params (execution false)) ≡ Some place)
  Refuses refusal.Memory = IsSpelled

-- ---- the request

module _ {V A : Type 0} where
  abbrev pub stmt_id : ComStmtExecuteWithOptions V A → ℕ
  stmt_id r = head.stmt_id r.head

  abbrev pub flags : ComStmtExecuteWithOptions V A → ℕ
  flags r = head.cursor_flags r.head

  abbrev pub iteration_count : ComStmtExecuteWithOptions V A → ℕ
  iteration_count r = head.iteration_count r.head

  abbrev pub params : ComStmtExecuteWithOptions V A → List V
  params r = r.params.now

  abbrev pub attributes : ComStmtExecuteWithOptions V A → Option (List A)
  attributes r = option_copied r.attributes

  abbrev pub listed : ComStmtExecuteWithOptions V A → List A
  listed r = list_of (attributes r)

  abbrev pub sends_types : ComStmtExecuteWithOptions V A → Bool
  sends_types r = r.sends_types

  abbrev pub as_long_data : ComStmtExecuteWithOptions V A → Bool
  as_long_data r = r.as_long_data

  module _ (param : V → Param) (named_type : V → NamedType) (attribute : A → Param) (attribute_type : A → NamedType) where
    abbrev pub execution_of : ComStmtExecuteWithOptions V A → Execution
    execution_of r = record {
      head = r.head;
      params = sent_params param named_type (params r);
      attributes = option_map (sent_params attribute attribute_type) (attributes r);
      sends_types = r.sends_types;
      as_long_data = r.as_long_data;
    }

    abbrev pub request_bytes : ComStmtExecuteWithOptions V A → List ℕ
    request_bytes r = execution_bytes (execution_of r)
