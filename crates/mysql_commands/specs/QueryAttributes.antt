-- The attributes of a query.
use Rattle.std.specs.Prelude.{ℕ, true, List}
use Rattle.mysql_wire.specs.Constant.{const_byte}
use Rattle.mysql_wire.specs.Form.{Form, ◌>>=◌}
use Rattle.mysql_wire.specs.Int.{raw}
use Rattle.mysql_wire.specs.LenEnc.{lenenc}
use Rattle.mysql_wire.specs.declared.int.RawInt.{RawInt}
use Rattle.mysql_wire.specs.declared.lenenc.LenEnc.{LenEnc}
use Rattle.mysql_stmt.specs.Attributes.{Attribute, values}
use Rattle.mysql_stmt.specs.BindFront.{bind_front}
use Rattle.mysql_commands.specs.declared.query_attributes.InvalidParameterSetCount.{InvalidParameterSetCount}

-- a length-encoded number
abbrev pub lenenc_int : Form (RawInt LenEnc ℕ)
lenenc_int = raw lenenc

-- the number of attributes, and the number of sets of them, which is always 1; then they are sent like the parameters of an execution:
-- nothing if there are none
abbrev pub query_attributes : Form (List Attribute)
query_attributes = do
  count ← lenenc_int
  sets ← const_byte {T = InvalidParameterSetCount} 1
  front ← bind_front true count.0 0
  values front.nulls 0 front.types
