-- Attributes of a column, read in order.
use Rattle.std.proofs.Common.{◌≡◌, ◌<◌, ℕ, List, length, Ok}
use Rattle.mysql_wire.specs.Form.{Form, number, bytes as so_many_bytes}
use Rattle.mysql_wire.specs.Int.{raw}
use Rattle.mysql_wire.specs.declared.int.RawInt.{RawInt}
use Rattle.mysql_replies.specs.ColumnAttribute.{column_attribute}
use Rattle.mysql_replies.specs.declared.column_attribute.ColumnAttribute.{ColumnAttribute}
use Rattle.mysql_replies.proofs.AsSent.{coded_shorter}

code_form : Form (RawInt ℕ ℕ)
code_form = raw (number 1)

-- an attribute takes at least a byte
pub attribute_shorter : (bytes rest : List ℕ) (a : ColumnAttribute) → (column_attribute.form tt).reads bytes ≡ Ok (a, rest) → length rest < length bytes
unfolding column_attribute code_form raw number so_many_bytes
attribute_shorter bytes rest a e = coded_shorter code_form (λ t c. record { code = t; text = c }) code_form.sized.exact bytes rest a e

pub ruleset attributes = (attribute_shorter)
