-- Writing an execution, in C.
use Rattle.std.specs.Prelude.{◌≡◌, ℕ, ◌==◌, ◌&&◌, Bool, false, if◌then◌else◌, List, Option, is_some, not}
use Rattle.std.specs.Option.{option_map}
use Rattle.mysql_stmt.specs.ExecuteWithOptions.{IsAsLong, asked, counted}
use Rattle.mysql_stmt.specs.Execution.{Execution, execution_bytes, listed}
use Rattle.mysql_stmt.specs.SentParam.{first_unspelled}
use Rattle.mysql_stmt.specs.declared.execute_with_options.ComStmtExecuteOptionsBuilder.{ComStmtExecuteOptionsBuilder}
use Rattle.mysql_packets_c.specs.Output.{PutsUnlessTooLong}
use Rattle.mysql_packets_c.specs.Parameter.{are_agreed, are_parameters, if_agreed, named_type, param_given, sent}
use Rattle.mysql_packets_c.specs.declared.parameter.CParameter.{CParameter}
use Rattle.mysql_packets_c.specs.declared.written_execution.CExecutionOptions.{CExecutionOptions}

-- ---- arguments

-- a count of parameters follows under CLIENT_QUERY_ATTRIBUTES
abbrev pub flags_sent : ℕ → ℕ → ℕ
flags_sent capabilities flags = if are_agreed capabilities then counted flags else flags

-- one iteration if no count is given
abbrev pub iterations_sent : ℕ → ℕ
iterations_sent count = if count == 0 then 1 else count

-- a builder with C's attributes, wherever they are
abbrev pub builder : (statement_id flags iteration_count : ℕ) → (sends_types : Bool) → Option (List CParameter) → ComStmtExecuteOptionsBuilder CParameter
builder statement_id flags iteration_count sends_types attributes = record {
  stmt_id = statement_id;
  flags = record { 0 = flags; 1 = record {} };
  iteration_count = iteration_count;
  sends_types = sends_types;
  attributes = option_map (λ l. record { ref_ptr = (0, 0); now = l }) attributes;
}

abbrev pub execution_of : ℕ → List CParameter → List CParameter → CExecutionOptions → ℕ → (as_long_data : Bool) → Execution
execution_of statement_id params attributes options capabilities =
    asked param_given named_type
    (builder statement_id (flags_sent capabilities options.flags) (iterations_sent options.iteration_count) (options.omits_types == 0) (if_agreed capabilities attributes))
    (sent params)

-- ---- what can be written

-- the types of all parameters and attributes can encode their values
abbrev pub is_spelled : (asked : Bool → Execution) → Bool
is_spelled asked = not (is_some (first_unspelled (asked false).params)) && not (is_some (first_unspelled (listed (asked false))))

abbrev pub may_write : (asked : Bool → Execution) → List CParameter → List CParameter → Bool
may_write asked params attributes = are_parameters params && (are_parameters attributes && is_spelled asked)

-- ---- answers

-- the execution is written; byte strings are left out if the request with them exceeds one packet
pub record PutsExecution (asked : Bool → Execution) (code : ℕ) (old new : List ℕ) (written as_long_data : ℕ) : Type 0 where
  pub is_long : Bool
  pub where_long : IsAsLong asked is_long
  pub puts : PutsUnlessTooLong (execution_bytes (asked is_long)) code old new written
  pub leaves_out : as_long_data ≡ (if is_long then 1 else 0)

-- nothing is written
pub record IsRefused (answer : ℕ) (old new : List ℕ) (written long_before as_long_data : ℕ) : Type 0 where
  pub code : answer ≡ 3
  pub buffer : new ≡ old
  pub none : written ≡ 0
  pub kept : as_long_data ≡ long_before
