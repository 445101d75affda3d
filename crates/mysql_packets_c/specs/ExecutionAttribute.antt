-- The attributes of an execution, in C.
use Rattle.std.specs.Prelude.{ℕ, List, Ok}
use Rattle.mysql_wire.specs.Flags.{CapabilityFlags}
use Rattle.mysql_wire.specs.Reading.{Reading, then_read}
use Rattle.mysql_stmt.specs.Attributes.{Attribute}
use Rattle.mysql_stmt.specs.ExecuteHead.{cursor_flags, execute_head}
use Rattle.mysql_stmt.specs.ExecuteRead.{execution}
use Rattle.mysql_stmt.specs.declared.execute_view.BoundParam.{BoundParam}

-- the attributes after the parameters
abbrev pub attributes_after : CapabilityFlags → (flags : ℕ) → List BoundParam → List ℕ → Reading (List Attribute)
attributes_after capabilities flags params bytes = then_read ((execution capabilities flags params).reads bytes) (λ x rest. Ok (x.1, rest))

-- those of an execution of these parameters
abbrev pub attributes_in : CapabilityFlags → List BoundParam → List ℕ → Reading (List Attribute)
attributes_in capabilities params bytes = then_read ((execute_head.form tt).reads bytes) (λ h after. attributes_after capabilities (cursor_flags h) params after)
