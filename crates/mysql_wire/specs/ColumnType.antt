-- The types of columns and values: written by tools/tables.py from tables/column_types.txt.
use Rattle.std.specs.Prelude.{◌≡◌, ℕ, List, [], ◌∷◌, Option, Some, refl}
use Rattle.mysql_wire.specs.declared.codes.column_type.ColumnType.{ColumnType}
use Rattle.mysql_wire.specs.declared.codes.column_type.ColumnType.TheVariants as variant
use Rattle.mysql_wire.specs.declared.constant_value.Const.{Const}
use Rattle.mysql_wire.specs.Codes.{with_code, code-again}
use Rattle.mysql_wire.specs.ConstantValue.{coded}
use Rattle.mysql_wire.specs.Form.{Form, number}
use Rattle.mysql_wire.specs.Spelling.{IsSpelling}
use Rattle.mysql_wire.specs.Writing.{le_bytes}

unfoldable pub column_type_code : ColumnType → ℕ
column_type_code variant.MYSQL_TYPE_DECIMAL = 0
column_type_code variant.MYSQL_TYPE_TINY = 1
column_type_code variant.MYSQL_TYPE_SHORT = 2
column_type_code variant.MYSQL_TYPE_LONG = 3
column_type_code variant.MYSQL_TYPE_FLOAT = 4
column_type_code variant.MYSQL_TYPE_DOUBLE = 5
column_type_code variant.MYSQL_TYPE_NULL = 6
column_type_code variant.MYSQL_TYPE_TIMESTAMP = 7
column_type_code variant.MYSQL_TYPE_LONGLONG = 8
column_type_code variant.MYSQL_TYPE_INT24 = 9
column_type_code variant.MYSQL_TYPE_DATE = 10
column_type_code variant.MYSQL_TYPE_TIME = 11
column_type_code variant.MYSQL_TYPE_DATETIME = 12
column_type_code variant.MYSQL_TYPE_YEAR = 13
column_type_code variant.MYSQL_TYPE_CODE_14 = 14
column_type_code variant.MYSQL_TYPE_VARCHAR = 15
column_type_code variant.MYSQL_TYPE_BIT = 16
column_type_code variant.MYSQL_TYPE_CODE_17 = 17
column_type_code variant.MYSQL_TYPE_CODE_18 = 18
column_type_code variant.MYSQL_TYPE_CODE_19 = 19
column_type_code variant.MYSQL_TYPE_CODE_20 = 20
column_type_code variant.MYSQL_TYPE_VECTOR = 242
column_type_code variant.MYSQL_TYPE_CODE_243 = 243
column_type_code variant.MYSQL_TYPE_JSON = 245
column_type_code variant.MYSQL_TYPE_NEWDECIMAL = 246
column_type_code variant.MYSQL_TYPE_ENUM = 247
column_type_code variant.MYSQL_TYPE_SET = 248
column_type_code variant.MYSQL_TYPE_TINY_BLOB = 249
column_type_code variant.MYSQL_TYPE_MEDIUM_BLOB = 250
column_type_code variant.MYSQL_TYPE_LONG_BLOB = 251
column_type_code variant.MYSQL_TYPE_BLOB = 252
column_type_code variant.MYSQL_TYPE_VAR_STRING = 253
column_type_code variant.MYSQL_TYPE_STRING = 254
column_type_code variant.MYSQL_TYPE_GEOMETRY = 255

abbrev pub column_types : List ColumnType
column_types =
    variant.MYSQL_TYPE_DECIMAL
    ∷ variant.MYSQL_TYPE_TINY
    ∷ variant.MYSQL_TYPE_SHORT
    ∷ variant.MYSQL_TYPE_LONG
    ∷ variant.MYSQL_TYPE_FLOAT
    ∷ variant.MYSQL_TYPE_DOUBLE
    ∷ variant.MYSQL_TYPE_NULL
    ∷ variant.MYSQL_TYPE_TIMESTAMP
    ∷ variant.MYSQL_TYPE_LONGLONG
    ∷ variant.MYSQL_TYPE_INT24
    ∷ variant.MYSQL_TYPE_DATE
    ∷ variant.MYSQL_TYPE_TIME
    ∷ variant.MYSQL_TYPE_DATETIME
    ∷ variant.MYSQL_TYPE_YEAR
    ∷ variant.MYSQL_TYPE_CODE_14
    ∷ variant.MYSQL_TYPE_VARCHAR
    ∷ variant.MYSQL_TYPE_BIT
    ∷ variant.MYSQL_TYPE_CODE_17
    ∷ variant.MYSQL_TYPE_CODE_18
    ∷ variant.MYSQL_TYPE_CODE_19
    ∷ variant.MYSQL_TYPE_CODE_20
    ∷ variant.MYSQL_TYPE_VECTOR
    ∷ variant.MYSQL_TYPE_CODE_243
    ∷ variant.MYSQL_TYPE_JSON
    ∷ variant.MYSQL_TYPE_NEWDECIMAL
    ∷ variant.MYSQL_TYPE_ENUM
    ∷ variant.MYSQL_TYPE_SET
    ∷ variant.MYSQL_TYPE_TINY_BLOB
    ∷ variant.MYSQL_TYPE_MEDIUM_BLOB
    ∷ variant.MYSQL_TYPE_LONG_BLOB
    ∷ variant.MYSQL_TYPE_BLOB
    ∷ variant.MYSQL_TYPE_VAR_STRING
    ∷ variant.MYSQL_TYPE_STRING
    ∷ variant.MYSQL_TYPE_GEOMETRY
    ∷ []

-- the type with this code
unfoldable pub column_type_of : ℕ → Option ColumnType
column_type_of n = with_code column_type_code column_types n

pub column_type-back : (value : ColumnType) → column_type_of (column_type_code value) ≡ Some value
unfolding column_type_code column_type_of
column_type-back variant.MYSQL_TYPE_DECIMAL = refl
column_type-back variant.MYSQL_TYPE_TINY = refl
column_type-back variant.MYSQL_TYPE_SHORT = refl
column_type-back variant.MYSQL_TYPE_LONG = refl
column_type-back variant.MYSQL_TYPE_FLOAT = refl
column_type-back variant.MYSQL_TYPE_DOUBLE = refl
column_type-back variant.MYSQL_TYPE_NULL = refl
column_type-back variant.MYSQL_TYPE_TIMESTAMP = refl
column_type-back variant.MYSQL_TYPE_LONGLONG = refl
column_type-back variant.MYSQL_TYPE_INT24 = refl
column_type-back variant.MYSQL_TYPE_DATE = refl
column_type-back variant.MYSQL_TYPE_TIME = refl
column_type-back variant.MYSQL_TYPE_DATETIME = refl
column_type-back variant.MYSQL_TYPE_YEAR = refl
column_type-back variant.MYSQL_TYPE_CODE_14 = refl
column_type-back variant.MYSQL_TYPE_VARCHAR = refl
column_type-back variant.MYSQL_TYPE_BIT = refl
column_type-back variant.MYSQL_TYPE_CODE_17 = refl
column_type-back variant.MYSQL_TYPE_CODE_18 = refl
column_type-back variant.MYSQL_TYPE_CODE_19 = refl
column_type-back variant.MYSQL_TYPE_CODE_20 = refl
column_type-back variant.MYSQL_TYPE_VECTOR = refl
column_type-back variant.MYSQL_TYPE_CODE_243 = refl
column_type-back variant.MYSQL_TYPE_JSON = refl
column_type-back variant.MYSQL_TYPE_NEWDECIMAL = refl
column_type-back variant.MYSQL_TYPE_ENUM = refl
column_type-back variant.MYSQL_TYPE_SET = refl
column_type-back variant.MYSQL_TYPE_TINY_BLOB = refl
column_type-back variant.MYSQL_TYPE_MEDIUM_BLOB = refl
column_type-back variant.MYSQL_TYPE_LONG_BLOB = refl
column_type-back variant.MYSQL_TYPE_BLOB = refl
column_type-back variant.MYSQL_TYPE_VAR_STRING = refl
column_type-back variant.MYSQL_TYPE_STRING = refl
column_type-back variant.MYSQL_TYPE_GEOMETRY = refl

-- a byte that is a type's code
abbrev pub column_type : Form (Const ColumnType ℕ)
column_type = coded column_type_of (number 1)

-- a type is read back
pub column_type-again : (v : Const ColumnType ℕ) → IsSpelling column_type v (le_bytes 1 (column_type_code v.0))
unfolding column_type_code column_type_of
column_type-again v = code-again column_type_code column_types refl column_type-back v

pub ruleset column_type_again = (column_type-again)
