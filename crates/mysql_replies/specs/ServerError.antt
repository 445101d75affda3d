-- An error from a server.
use Rattle.std.specs.Prelude.{◌≡◌, ℕ, List, ◌++◌, length, Option, Some, None, Bool, IsTrue, IsFalse, codes, decimal, refl}
use Rattle.mysql_wire.specs.Text.{lossy_text}
use Rattle.mysql_wire.specs.Codecs.{Codec, Fields, ◌>>=◌, give, field, packet, from_context, when, without_context, string_eof}
use Rattle.mysql_replies.specs.SqlState.{sql_state, state_bytes}
use Rattle.mysql_replies.specs.declared.sql_state.SqlState.{SqlState}
use Rattle.mysql_replies.specs.declared.server_error.ServerErrorOf.{ServerErrorOf}

-- the owned and the borrowed form in a clause
abbrev pub ServerError : Type 0
ServerError = ServerErrorOf SqlState (List ℕ)

-- the code, the SQL state, and the bytes of the message
abbrev pub error_code : {S B : Type 0} → ServerErrorOf S B → ℕ
error_code e = e.code

abbrev pub sql_state_of : ServerError → Option SqlState
sql_state_of e = e.state

abbrev pub message : ServerError → List ℕ
message e = e.message

-- the error with these fields
abbrev pub error_of : ℕ → Option SqlState → List ℕ → ServerError
error_of code state message = record { code = code; state = state; message = message }

-- the code that the reader gets, the SQL state if one is sent, and the message to the end
abbrev pub server_error_fields : Fields (ℕ × Bool) ServerError ServerError
server_error_fields = do
  code ← field error_code (from_context (λ c. c.0))
  state ← field sql_state_of (when (λ c. c.1) (without_context sql_state))
  message ← field message string_eof
  give (error_of code state message)

unfoldable pub server_error : Codec (ℕ × Bool) ServerError
server_error = packet server_error_fields (λ e. refl)

-- `ERROR 1096 (HY000): No tables used`, or without a state `ERROR 1096: No tables used`
abbrev pub error_text_of : ℕ → Option SqlState → List ℕ → List ℕ
error_text_of code None message = codes "ERROR " ++ (decimal code ++ (codes ": " ++ lossy_text message))
error_text_of code (Some state) message =
    codes "ERROR " ++ (decimal code ++ (codes " (" ++ (lossy_text (state_bytes state) ++ (codes "): " ++ lossy_text message))))

abbrev pub error_text : ServerError → List ℕ
error_text e = error_text_of e.code e.state e.message

-- the state is present exactly if the reader expects one, and has five bytes
abbrev pub StateFits : Bool → Option SqlState → Type 0
StateFits has_state None = IsFalse has_state
StateFits has_state (Some state) = IsTrue has_state × (length (state_bytes state) ≡ 5)
