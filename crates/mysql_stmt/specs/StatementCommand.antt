-- A command of a code and a statement's number.
use Rattle.std.specs.Prelude.{ℕ}
use Rattle.mysql_wire.specs.Codecs.{Fields, ◌>>=◌, give, field, const_u8, u32, raw_int}

abbrev pub statement_fields : {P : Type 0} (Fault : Type 0) (code : ℕ) (stmt_id : P → ℕ) (command : ℕ → P) → Fields (Unit {0}) P P
statement_fields Fault code stmt_id command = do
  header ← field (λ p. record { 0 = record {} }) (const_u8 {T = Fault} code)
  number ← field (λ p. raw_int (stmt_id p)) u32
  give (command number.0)
