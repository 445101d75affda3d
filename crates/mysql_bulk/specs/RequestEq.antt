-- Equality of requests.
use Rattle.std.specs.Prelude.{Bool, nat_eq, ◌&&◌}
use Rattle.std.specs.Cmp.{IsPartialEquivalence, and_per, on_per, partial_equiv_from_equiv, nat_eq_equiv}
use Rattle.std.specs.Cmp.Lexicographic.{pointwise, lists_per}
use Rattle.mysql_values.specs.declared.param_type.ParamType.{ParamType}
use Rattle.mysql_bulk.specs.ParamValue.{ParamValue}
use Rattle.mysql_bulk.specs.Request.{BulkRequest}

nat_per : IsPartialEquivalence nat_eq
nat_per = partial_equiv_from_equiv nat_eq_equiv

module _ (type_eq : ParamType → ParamType → Bool) (value_eq : ParamValue → ParamValue → Bool) where
  -- the same statement and flags, with equal types and values
  abbrev pub request_eq : BulkRequest → BulkRequest → Bool
  request_eq a b = nat_eq a.stmt_id b.stmt_id && (nat_eq a.bulk_flags.0 b.bulk_flags.0 && (pointwise type_eq a.types b.types && pointwise value_eq a.values b.values))

  pub request_per : IsPartialEquivalence type_eq → IsPartialEquivalence value_eq → IsPartialEquivalence request_eq
  request_per types values =
      and_per (on_per (λ (r : BulkRequest). r.stmt_id) nat_per)
      (and_per (on_per (λ (r : BulkRequest). r.bulk_flags.0) nat_per) (and_per (on_per (λ (r : BulkRequest). r.types) (lists_per types)) (on_per (λ (r : BulkRequest). r.values) (lists_per values))))
