-- Errors instead of the greeting.
use Rattle.std.proofs.Common.{◌≡◌, ◌↔◌, ◌<◌, ◌^◌, ℕ, List, [], ◌++◌, length, Option, Some, None, is_some, Bool, false, ◌+◌, ◌∙◌, IsTrue, refl, sym, ap, subst, arith}
use Rattle.std.proofs.lemmas.List.{append-nil, length-append}
use Rattle.std.proofs.lemmas.Bool.{lt-ltb}
use Rattle.mysql_wire.specs.CodecFits.{option_fits}
use Rattle.mysql_wire.specs.Codecs.{without_context}
use Rattle.mysql_replies.specs.ErrPacket.{StateHasWidth}
use Rattle.mysql_replies.specs.GreetingError.{GreetingError, GreetingErrorFits, HasPlainMessage, IsPlainOf, begins_with_state, error_of_greeting, greeting_error, greeting_error_of}
use Rattle.mysql_replies.specs.ServerError.{error_code, error_of, message, server_error, sql_state_of, StateFits}
use Rattle.mysql_replies.specs.SqlState.{sql_state}
use Rattle.mysql_replies.specs.declared.sql_state.SqlState.{SqlState}
use Rattle.mysql_replies.proofs.EqualReplies.{error_eq, errors-same}

state-fits : (c : ℕ × Bool) (state : Option SqlState) (rest : List ℕ) → StateFits c.1 state → option_fits (without_context sql_state) c.1 c state rest
unfolding sql_state
state-fits c None rest h = h
state-fits c (Some state) rest h = (h.0, (tt, (h.1, tt)))

-- the written error begins with a state exactly if it has one
begins : (code : ℕ) (state : Option SqlState) (message : List ℕ) → IsPlainOf state message → begins_with_state (server_error.bytes (error_of code state message) ++ []) ≡ is_some state
unfolding server_error sql_state
begins code None message h =
    let all : (message ++ []) ++ [] ≡ message = append-nil (message ++ []) ∙ append-nil message in
    subst (λ bytes. begins_with_state bytes ≡ false) (sym all) h
begins code (Some state) message h =
    let text : List ℕ = ((state.state ++ []) ++ (message ++ [])) ++ [] in
    let long : length text ≡ length state.state + length message =
    rw (append-nil ((state.state ++ []) ++ (message ++ [])), append-nil state.state, append-nil message) (length-append state.state message) in
    lt-ltb 4 (length text) (omega (arith, long, h))

has-state : (code : ℕ) (state : Option SqlState) (message : List ℕ) → IsPlainOf state message → StateFits (begins_with_state (server_error.bytes (error_of code state message) ++ [])) state
has-state code None message h = begins code None message h
has-state code (Some state) message h = (begins code (Some state) message h, h)

pub greeting_error-plain : (g : GreetingError) → GreetingErrorFits g → (greeting_error.form tt).Spells g (greeting_error.bytes g) []
unfolding greeting_error server_error
greeting_error-plain g h =
    rw (append-nil (greeting_error.bytes g)) at (greeting_error.again tt g []
    ((tt, (h.code, tt)), ((refl, (state-fits (error_code g.error, begins_with_state (server_error.bytes g.error ++ [])) _ _ (has-state (error_code g.error) (sql_state_of g.error) (message g.error) h.state), (refl, tt))), tt)))

plain-of : (state : Option SqlState) (message : List ℕ) → StateHasWidth state → (state ≡ None → begins_with_state message ≡ false) → IsPlainOf state message
plain-of None message width plain = plain refl
plain-of (Some state) message width plain = width

pub greeting_error-again : (g : GreetingError) → error_code (error_of_greeting g) < 2 ^ 16 → StateHasWidth (sql_state_of (error_of_greeting g)) → HasPlainMessage g
    → (greeting_error.form tt).Spells g (greeting_error.bytes g) []
greeting_error-again g code width plain =
    greeting_error-plain g (record { code = code; state = plain-of (sql_state_of g.error) (message g.error) width plain })

pub greeting_errors-same : (a b : GreetingError) → IsTrue (error_eq a.error b.error) ↔ (a ≡ b)
greeting_errors-same a b = (
  λ e. let s = (errors-same a.error b.error).0 e in λ i. greeting_error_of (s i),
  λ e. (errors-same a.error b.error).1 (ap error_of_greeting e),
)

pub ruleset greeting_errors = (greeting_error-plain, greeting_error-again, greeting_errors-same)
