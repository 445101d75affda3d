-- The types that a caller declares for columns, and the values that they can encode.
use Rattle.std.specs.Prelude.{◌≡◌, ◌⊎◌, ◌^◌, Bool, true, false, not, ◌&&◌, ◌||◌, ◌==◌, nat_lt, IsTrue, List, [], ◌∷◌, Option, Some, None, fold, length}
use Rattle.std.specs.Int.{is_negative}
use Rattle.mysql_wire.specs.FlagMasks.{UNSIGNED}
use Rattle.mysql_wire.specs.Flags.{has}
use Rattle.mysql_wire.specs.declared.codes.column_type.ColumnType.{ColumnType}
use Rattle.mysql_wire.specs.declared.codes.column_type.ColumnType.TheVariants as column
use Rattle.mysql_values.specs.declared.param_type.ParamType.{ParamType}
use Rattle.mysql_values.specs.declared.value_kind.ValueKind.{ValueKind}
use Rattle.mysql_values.specs.declared.value_kind.ValueKind.TheVariants as kind
use Rattle.mysql_values.specs.Value.{Content, Int, UInt}
use Rattle.mysql_values.specs.ValueKind.{kind_of, is_longlong, matches_type}
use Rattle.mysql_bulk.specs.DeclaredTypes.{declared_types, types_with_row}

-- ---- types

abbrev pub is_unsigned : ParamType → Bool
is_unsigned t = has t.flags.0 UNSIGNED

-- values of the type are encoded as without declared types; BIT is a type of results only
abbrev pub is_declarable_kind : ValueKind → Bool
is_declarable_kind kind.Tiny = false
is_declarable_kind kind.Short = false
is_declarable_kind kind.Long = false
is_declarable_kind kind.Null = false
is_declarable_kind kind.Unsupported = false
is_declarable_kind k = true

abbrev pub is_declarable_type : ColumnType → Bool
is_declarable_type column.MYSQL_TYPE_BIT = false
is_declarable_type t = is_declarable_kind (kind_of t)

-- the type may be declared; only integers may be unsigned
abbrev pub is_declarable : ParamType → Bool
is_declarable t = is_declarable_type t.column_type && (t.flags.0 == 0 || (t.flags.0 == UNSIGNED && is_longlong (kind_of t.column_type)))

-- ---- the values that they can encode

-- the value has the same bytes under the type as under its own
abbrev pub can_encode : ParamType → Content → Bool
can_encode t (Int n) = is_longlong (kind_of t.column_type) && not (is_unsigned t && is_negative n)
can_encode t (UInt n) = is_longlong (kind_of t.column_type) && (is_unsigned t || nat_lt n (2 ^ 63))
can_encode t value = matches_type (kind_of t.column_type) value

-- the row has one value for each type, which can encode it
abbrev pub spell_row : List ParamType → List Content → Bool
spell_row [] [] = true
spell_row [] (value ∷ row) = false
spell_row (t ∷ types) [] = false
spell_row (t ∷ types) (value ∷ row) = can_encode t value && spell_row types row

-- if types are declared, they can encode the row
abbrev pub takes_types : Option (List ParamType) → List Content → Bool
takes_types None row = true
takes_types (Some types) row = spell_row types row

abbrev pub TakesTypes : Option (List ParamType) → List Content → Type 0
TakesTypes columns row = IsTrue (takes_types columns row)

-- ---- the types in a request

-- the types of the columns of rows: those that were declared, or those of their values; none without rows
abbrev pub types_of_rows : Option (List ParamType) → List (List Content) → List ParamType
types_of_rows None rows = declared_types rows
types_of_rows (Some types) [] = []
types_of_rows (Some types) (row ∷ rows) = types

-- the same so far, while rows are added
abbrev pub types_so_far : Option (List ParamType) → List (List Content) → List ParamType
types_so_far None rows = fold types_with_row [] rows
types_so_far (Some types) [] = []
types_so_far (Some types) (row ∷ rows) = types

-- the types so far, after one more row
abbrev pub types_after_row : Option (List ParamType) → List ParamType → List Content → List ParamType
types_after_row None so_far row = types_with_row so_far row
types_after_row (Some types) so_far row = types

-- these are the types so far of rows of this length: of none, or of some
abbrev pub MayFollow : Option (List ParamType) → List ParamType → List Content → Type 0
MayFollow None so_far row = (length so_far ≡ length row) ⊎ (so_far ≡ [])
MayFollow (Some types) so_far row = (length types ≡ length row) × ((so_far ≡ types) ⊎ (so_far ≡ []))
