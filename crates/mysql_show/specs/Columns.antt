-- The fields of a column's definition.
use Rattle.std.specs.Prelude.{List, [], ◌∷◌, ◌++◌, Option, Some, None, codes}
use Rattle.mysql_wire.specs.ColumnType.{column_type_code}
use Rattle.mysql_replies.specs.declared.column.Column.{Column}
use Rattle.mysql_replies.specs.Column.{schema, table, org_table, name, org_name, character_set, column_length, column_type, flags, decimals}
use Rattle.mysql_show.specs.Fields.{Said, said, Number, Bytes}

abbrev pub column_names : Column → List Said
column_names c =
    said (codes "schema") (Bytes (schema c))
    ∷ said (codes "table") (Bytes (table c))
    ∷ said (codes "org_table") (Bytes (org_table c))
    ∷ said (codes "name") (Bytes (name c))
    ∷ said (codes "org_name") (Bytes (org_name c))
    ∷ []

abbrev pub column_numbers : Column → List Said
column_numbers c =
    said (codes "character_set") (Number (character_set c))
    ∷ said (codes "column_length") (Number (column_length c))
    ∷ said (codes "column_type") (Number (column_type_code (column_type c)))
    ∷ said (codes "flags") (Number (flags c).0)
    ∷ said (codes "decimals") (Number (decimals c))
    ∷ []
