-- Byte strings whose length is elsewhere.
use Rattle.std.specs.Prelude.{ℕ, List}
use Rattle.mysql_wire.specs.Form.{Form, bytes, unsized}

-- a given number of bytes
abbrev pub bare : ℕ → Form (List ℕ)
bare n = unsized (bytes n)
