-- A cell's bytes under its type.
use Rattle.std.specs.Prelude.{ℕ, ◌++◌, List, []}
use Rattle.std.specs.Option.{option_map_or}
use Rattle.mysql_values.specs.TypedValue.{typed_bytes}
use Rattle.mysql_bulk.specs.BulkValue.{indicator_bytes}
use Rattle.mysql_bulk.specs.declared.bulk_value.TypedCell.{TypedCell}

-- its indicator, and the value if one follows
abbrev pub typed_cell_bytes : TypedCell → List ℕ
typed_cell_bytes c = indicator_bytes c.indicator ++ option_map_or typed_bytes c.value []
