-- Rows read from a bulk request.
use Rattle.std.specs.Prelude.{ℕ, List, length, map, Result, Ok, Err}
use Rattle.std.specs.Global.{Vec}
use Rattle.mysql_wire.specs.declared.fault.FaultOf.{FaultOf}
use Rattle.mysql_wire.specs.Form.{Form, ◌>>=◌}
use Rattle.mysql_wire.specs.Form as form
use Rattle.mysql_wire.specs.Each.{each}
use Rattle.mysql_wire.specs.Many.{many}
use Rattle.mysql_values.specs.declared.value.Value.{Value}
use Rattle.mysql_values.specs.Value.{Content, contents_of}
use Rattle.mysql_bulk.specs.ParamValues.{BulkColumn, value_of_column}
use Rattle.mysql_bulk.specs.Head.{head, value_columns}

-- the content of a column's value, without its indicator
abbrev pub content_of_column : ℕ → BulkColumn → Form Content
content_of_column place column = form.map (λ v. v.content) (value_of_column place column)

-- a value of each column
abbrev pub row_of_columns : List BulkColumn → Form (List Content)
row_of_columns columns = each content_of_column 0 columns

-- the head, and then rows up to the end
abbrev pub bulk_rows : List BulkColumn → Form (List (List Content))
bulk_rows columns = do
  h ← head.form (length columns)
  many (row_of_columns (value_columns columns h))

-- what the values that were read contain
abbrev pub row_read : Result (Vec Value) FaultOf → Result (List Content) FaultOf
row_read (Ok row) = Ok (contents_of row.items)
row_read (Err e) = Err e

abbrev pub rows_read : Result (Vec (Vec Value)) FaultOf → Result (List (List Content)) FaultOf
rows_read (Ok rows) = Ok (map (λ row. contents_of row.items) rows.items)
rows_read (Err e) = Err e
