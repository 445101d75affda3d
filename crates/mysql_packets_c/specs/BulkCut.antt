-- The rule of bulk requests, in C.
use Rattle.mysql_cuts.specs.declared.rule.BulkRule.{BulkRule}
use Rattle.mysql_packets_c.specs.Given.{if_set, is_set}
use Rattle.mysql_packets_c.specs.declared.bulk_cut.CBulkRule.{CBulkRule}

-- types in every request or only in the first, and the most rows of a request, if bounded
abbrev pub rule_of : CBulkRule → BulkRule
rule_of c = record { types_always = is_set c.types_always; max_rows = if_set c.has_max_rows c.max_rows }
