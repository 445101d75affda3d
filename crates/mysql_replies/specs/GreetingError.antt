-- An error in place of the greeting.
use Rattle.std.specs.Prelude.{◌≡◌, ℕ, ◌<◌, ◌^◌, List, [], ◌∷◌, ◌++◌, length, Option, Some, None, Bool, false, ◌&&◌, ◌==◌, nat_lt, refl}
use Rattle.mysql_wire.specs.Codec.{Codec, Fields}
use Rattle.mysql_wire.specs.Codecs.{◌>>=◌, give, field, block, packet, with_context, const_u8, u16, raw_int}
use Rattle.mysql_wire.specs.Form as form
use Rattle.mysql_replies.specs.ServerError.{ServerError, error_code, message, server_error, sql_state_of}
use Rattle.mysql_replies.specs.SqlState.{state_bytes}
use Rattle.mysql_replies.specs.declared.faults.InvalidErrPacketHeader.{InvalidErrPacketHeader}
use Rattle.mysql_replies.specs.declared.greeting_error.GreetingErrorOf.{GreetingErrorOf}
use Rattle.mysql_replies.specs.declared.sql_state.SqlState.{SqlState}

-- the owned and the borrowed form in a clause
abbrev pub GreetingError : Type 0
GreetingError = GreetingErrorOf ServerError

abbrev pub error_of_greeting : {E : Type 0} → GreetingErrorOf E → E
error_of_greeting g = g.error

abbrev pub greeting_error_of : ServerError → GreetingError
greeting_error_of e = record { error = e }

-- `#` and five more bytes
abbrev pub begins_with_state : List ℕ → Bool
begins_with_state [] = false
begins_with_state (marker ∷ state) = (marker == 35) && nat_lt 4 (length state)

-- a part whose reader depends on the bytes there
abbrev pub looking_at : {C A : Type 0} → (List ℕ → Bool) → Codec (C × Bool) A → Codec C A
looking_at test f = record {
  form = λ c. form.looking (λ bytes. f.form (c, test bytes));
  bytes = f.bytes;
  len = f.len;
  fits = λ c a rest. f.fits (c, test (f.bytes a ++ rest)) a rest;
  exact = λ c a rest h. f.exact (c, test (f.bytes a ++ rest)) a rest h;
  again = λ c a rest h. f.again (c, test (f.bytes a ++ rest)) a rest h;
}

-- ff, and the code
abbrev pub greeting_error_head : Fields (Unit {0}) GreetingError ℕ
greeting_error_head = do
  header ← field (λ g. record { 0 = record {} }) (const_u8 {T = InvalidErrPacketHeader} 0xff)
  code ← field (λ g. raw_int (error_code (error_of_greeting g))) u16
  give code.0

-- three bytes with the code, and the error, with a state if the bytes begin with one
abbrev pub greeting_error_fields : Fields (Unit {0}) GreetingError GreetingError
greeting_error_fields = do
  code ← block 3 greeting_error_head (λ g. refl)
  error ← field error_of_greeting (looking_at begins_with_state (with_context (λ c. (code, c.1)) server_error))
  give (greeting_error_of error)

unfoldable pub greeting_error : Codec (Unit {0}) GreetingError
greeting_error = packet greeting_error_fields (λ g. refl)

-- ---- when it is read back, in plain words

-- without a state, the message doesn't begin like one
abbrev pub HasPlainMessage : GreetingError → Type 0
HasPlainMessage g = sql_state_of (error_of_greeting g) ≡ None → begins_with_state (message (error_of_greeting g)) ≡ false

-- a state has five bytes; without one, the message doesn't begin like one
abbrev pub IsPlainOf : Option SqlState → List ℕ → Type 0
IsPlainOf None message = begins_with_state message ≡ false
IsPlainOf (Some state) message = length (state_bytes state) ≡ 5

pub record GreetingErrorFits (g : GreetingError) : Type 0 where
  pub code : error_code (error_of_greeting g) < 2 ^ 16
  pub state : IsPlainOf (sql_state_of (error_of_greeting g)) (message (error_of_greeting g))
