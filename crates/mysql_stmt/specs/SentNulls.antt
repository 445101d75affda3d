-- The NULL bitmap of parameters, and of attributes after them.
use Rattle.std.specs.Prelude.{ℕ, List, ◌++◌, map}
use Rattle.mysql_values.specs.Value.{Content}
use Rattle.mysql_stmt.specs.ExecuteParam.{Param, contents}
use Rattle.mysql_stmt.specs.NullMarks.{bitmap_of, null_bit}

module _ {V A : Type 0} (param : V → Param) (attribute : A → Param) where
  abbrev pub contents_with : List V → List A → List Content
  contents_with params attributes = contents param params ++ contents attribute attributes

  -- a bit for each
  abbrev pub bits_with : List V → List A → List ℕ
  bits_with params attributes = map null_bit (contents_with params attributes)

  abbrev pub bitmap_with : List V → List A → List ℕ
  bitmap_with params attributes = bitmap_of (contents_with params attributes)
