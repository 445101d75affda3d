-- The SQL state of an error.
use Rattle.std.specs.Prelude.{ℕ, List, refl}
use Rattle.mysql_wire.specs.Codecs.{Codec, Fields, ◌>>=◌, give, field, block, packet, const_u8, byte_array}
use Rattle.mysql_replies.specs.declared.sql_state.SqlState.{SqlState}

-- the five bytes of the state
abbrev pub state_bytes : SqlState → List ℕ
state_bytes s = s.state

-- the state with these bytes
abbrev pub state_of : List ℕ → SqlState
state_of state = record { marker = record { 0 = record {} }; state = state }

abbrev pub sql_state_fields : Fields (Unit {0}) SqlState SqlState
sql_state_fields = do
  marker ← field (λ s. s.marker) (const_u8 35)
  state ← field state_bytes (byte_array 5)
  give (record { marker = marker; state = state })

-- six bytes: `#`, and any five bytes
unfoldable pub sql_state : Codec (Unit {0}) SqlState
sql_state = packet (block 6 sql_state_fields (λ s. refl)) (λ s. refl)
