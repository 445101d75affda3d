-- An attribute in a column's extended metadata, in C.
use Rattle.std.specs.Prelude.{◌≡◌}
use Rattle.mysql_replies.specs.ColumnAttribute.{attribute_code, attribute_text}
use Rattle.mysql_replies.specs.declared.column_attribute.ColumnAttribute.{ColumnAttribute}
use Rattle.mysql_packets_c.specs.declared.column_attribute.CColumnAttribute.{CColumnAttribute}

pub record IsAttribute (a : ColumnAttribute) (out : CColumnAttribute) : Type 0 where
  pub text : out.text.now ≡ attribute_text a
  pub kind : out.kind ≡ attribute_code a
