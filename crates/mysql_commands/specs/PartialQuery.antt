-- A query, up to the values of its attributes.
use Rattle.std.specs.Prelude.{◌≡◌, ℕ, true, false, List, Result, Ok, Err}
use Rattle.mysql_wire.specs.CommandCodes.{COM_QUERY}
use Rattle.mysql_wire.specs.Constant.{const_byte}
use Rattle.mysql_wire.specs.Form.{Form, ◌>>=◌, give}
use Rattle.mysql_wire.specs.Reading.{Faults}
use Rattle.mysql_wire.specs.declared.fault.FaultOf.{FaultOf}
use Rattle.mysql_stmt.specs.Attributes.{AttributesLeft}
use Rattle.mysql_stmt.specs.BindFront.{AttributesThere, bind_front}
use Rattle.mysql_commands.specs.QueryAttributes.{lenenc_int}
use Rattle.mysql_commands.specs.declared.query.InvalidComQueryHeader.{InvalidComQueryHeader}
use Rattle.mysql_commands.specs.declared.query_attributes.InvalidParameterSetCount.{InvalidParameterSetCount}

-- 03, the number of attributes, and the number of sets of them, which is always 1
abbrev pub attribute_count : Form ℕ
attribute_count = do
  header ← const_byte {T = InvalidComQueryHeader} COM_QUERY
  count ← lenenc_int
  sets ← const_byte {T = InvalidParameterSetCount} 1
  give count.0

-- the attributes that follow, up to their types; or the first fault up to there
abbrev pub AttributesAt : List ℕ → Result AttributesLeft FaultOf → Type 0
AttributesAt p (Ok view) = (count : ℕ) × (after : List ℕ) × (attribute_count.reads p ≡ Ok (count, after)) × AttributesThere count after (Ok view)
AttributesAt p (Err e) = Faults false e ((attribute_count >>= (λ count. bind_front true count 0)).reads p)
