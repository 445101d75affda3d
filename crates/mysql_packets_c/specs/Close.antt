-- The end of a prepared statement, in C.
use Rattle.std.specs.Prelude.{◌≡◌, ℕ, List}
use Rattle.mysql_stmt.specs.declared.close.ComStmtClose.{ComStmtClose}

-- the statement's number
abbrev pub IsClosed : ComStmtClose → List ℕ → ℕ → Type 0
IsClosed p rest out = out ≡ p.stmt_id
