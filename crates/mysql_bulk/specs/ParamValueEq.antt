-- Equality of values as they are sent.
use Rattle.std.specs.Prelude.{Bool, ◌&&◌}
use Rattle.std.specs.Cmp.{IsPartialEquivalence, and_per, on_per}
use Rattle.mysql_wire.specs.declared.codes.mariadb_bulk_indicator.MariadbBulkIndicator.{MariadbBulkIndicator}
use Rattle.mysql_values.specs.ContentEq.{content_eq, content_per}
use Rattle.mysql_bulk.specs.ParamValue.{ParamValue}

module _ (same : MariadbBulkIndicator → MariadbBulkIndicator → Bool) where
  -- the same indicator with an equal content
  abbrev pub param_value_eq : ParamValue → ParamValue → Bool
  param_value_eq a b = same a.indicator b.indicator && content_eq a.content b.content

  pub param_value_per : IsPartialEquivalence same → IsPartialEquivalence param_value_eq
  param_value_per per = and_per (on_per (λ (v : ParamValue). v.indicator) per) (on_per (λ (v : ParamValue). v.content) content_per)
