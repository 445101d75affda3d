-- Values as they are in a request, with or without an indicator.
use Rattle.std.specs.Prelude.{List, [], ◌∷◌}
use Rattle.mysql_wire.specs.declared.codes.mariadb_bulk_indicator.MariadbBulkIndicator.{MariadbBulkIndicator}
use Rattle.mysql_values.specs.Value.{Content}
use Rattle.mysql_bulk.specs.ParamValue.{ParamValue, with_indicator}

-- each value with the indicator that was read for it, or with its own
abbrev pub sent_values : List MariadbBulkIndicator → List Content → List ParamValue
sent_values indicators [] = []
sent_values [] (value ∷ values) = with_indicator value ∷ sent_values [] values
sent_values (indicator ∷ indicators) (value ∷ values) = record { indicator = indicator; content = value } ∷ sent_values indicators values
