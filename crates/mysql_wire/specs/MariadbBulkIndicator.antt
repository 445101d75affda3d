-- How a value in a bulk request is sent: written by tools/tables.py from tables/mariadb_bulk_indicators.txt.
use Rattle.std.specs.Prelude.{◌≡◌, ℕ, List, [], ◌∷◌, Option, Some, refl}
use Rattle.mysql_wire.specs.declared.codes.mariadb_bulk_indicator.MariadbBulkIndicator.{MariadbBulkIndicator}
use Rattle.mysql_wire.specs.declared.codes.mariadb_bulk_indicator.MariadbBulkIndicator.TheVariants as variant
use Rattle.mysql_wire.specs.declared.constant_value.Const.{Const}
use Rattle.mysql_wire.specs.Codes.{with_code, code-again}
use Rattle.mysql_wire.specs.ConstantValue.{coded}
use Rattle.mysql_wire.specs.Form.{Form, number}
use Rattle.mysql_wire.specs.Spelling.{IsSpelling}
use Rattle.mysql_wire.specs.Writing.{le_bytes}

unfoldable pub mariadb_bulk_indicator_code : MariadbBulkIndicator → ℕ
mariadb_bulk_indicator_code variant.BULK_INDICATOR_NONE = 0
mariadb_bulk_indicator_code variant.BULK_INDICATOR_NULL = 1
mariadb_bulk_indicator_code variant.BULK_INDICATOR_DEFAULT = 2
mariadb_bulk_indicator_code variant.BULK_INDICATOR_IGNORE = 3

abbrev pub mariadb_bulk_indicators : List MariadbBulkIndicator
mariadb_bulk_indicators =
    variant.BULK_INDICATOR_NONE
    ∷ variant.BULK_INDICATOR_NULL
    ∷ variant.BULK_INDICATOR_DEFAULT
    ∷ variant.BULK_INDICATOR_IGNORE
    ∷ []

-- the indicator with this code
unfoldable pub mariadb_bulk_indicator_of : ℕ → Option MariadbBulkIndicator
mariadb_bulk_indicator_of n = with_code mariadb_bulk_indicator_code mariadb_bulk_indicators n

pub mariadb_bulk_indicator-back : (value : MariadbBulkIndicator) → mariadb_bulk_indicator_of (mariadb_bulk_indicator_code value) ≡ Some value
unfolding mariadb_bulk_indicator_code mariadb_bulk_indicator_of
mariadb_bulk_indicator-back variant.BULK_INDICATOR_NONE = refl
mariadb_bulk_indicator-back variant.BULK_INDICATOR_NULL = refl
mariadb_bulk_indicator-back variant.BULK_INDICATOR_DEFAULT = refl
mariadb_bulk_indicator-back variant.BULK_INDICATOR_IGNORE = refl

-- a byte that is an indicator's code
abbrev pub mariadb_bulk_indicator : Form (Const MariadbBulkIndicator ℕ)
mariadb_bulk_indicator = coded mariadb_bulk_indicator_of (number 1)

-- an indicator is read back
pub mariadb_bulk_indicator-again : (v : Const MariadbBulkIndicator ℕ) → IsSpelling mariadb_bulk_indicator v (le_bytes 1 (mariadb_bulk_indicator_code v.0))
unfolding mariadb_bulk_indicator_code mariadb_bulk_indicator_of
mariadb_bulk_indicator-again v = code-again mariadb_bulk_indicator_code mariadb_bulk_indicators refl mariadb_bulk_indicator-back v

pub ruleset mariadb_bulk_indicator_again = (mariadb_bulk_indicator-again)
