-- Equality of builders.
use Rattle.std.specs.Prelude.{◌≡◌, ℕ, Bool, true, false, ◌&&◌, List, Option, Some, None, nat_eq, refl}
use Rattle.std.specs.Global.{Vec}
use Rattle.std.specs.Bool.{beq}
use Rattle.std.specs.Option.{option_eq}
use Rattle.std.specs.Cmp.{IsEquivalence, IsPartialEquivalence, and_per, on_per, on_equiv, partial_equiv_from_equiv, nat_eq_equiv, bool_eq_equiv}
use Rattle.std.specs.Cmp.Lexicographic.{pointwise, lists_equiv, lists_per, options_equiv, nat_list_eq_equiv}
use Rattle.mysql_cuts.specs.declared.rule.BulkRule.{BulkRule}
use Rattle.mysql_values.specs.declared.param_type.ParamType.{ParamType}
use Rattle.mysql_values.specs.Value.{Content}
use Rattle.mysql_values.specs.ContentEq.{content_eq, content_equiv}
use Rattle.mysql_bulk.specs.Builder.{BuilderState}

abbrev pub name_eq : Vec ℕ → Vec ℕ → Bool
name_eq a b = pointwise nat_eq a.items b.items

abbrev pub names_eq : Option (List (Vec ℕ)) → Option (List (Vec ℕ)) → Bool
names_eq = option_eq (pointwise name_eq)

-- rows whose values have the same contents
abbrev pub rows_eq : List (List Content) → List (List Content) → Bool
rows_eq = pointwise (pointwise content_eq)

of : {X : Type 0} {same : X → X → Bool} (part : BuilderState → X) → IsEquivalence same → IsPartialEquivalence (λ a b. same (part a) (part b))
of part e = on_per part (partial_equiv_from_equiv e)

module _ {X : Type 0} {same : X → X → Bool} (p : IsPartialEquivalence same) where
  flipped : (a b : Option X) → option_eq same a b ≡ option_eq same b a
  flipped None None = refl
  flipped None (Some y) = refl
  flipped (Some x) None = refl
  flipped (Some x) (Some y) = p.symm x y

  chained : (a b c : Option X) → option_eq same a b ≡ true → option_eq same b c ≡ true → option_eq same a c ≡ true
  chained None None c h g = g
  chained None (Some y) c h g = let e : false ≡ true = h in cc
  chained (Some x) None c h g = let e : false ≡ true = h in cc
  chained (Some x) (Some y) None h g = g
  chained (Some x) (Some y) (Some z) h g = p.trans x y z h g

  options_per : IsPartialEquivalence (option_eq same)
  options_per = record { symm = flipped; trans = chained }

-- the same names, and the same declared types
abbrev pub columns_eq : (ParamType → ParamType → Bool) → BuilderState → BuilderState → Bool
columns_eq type_eq a b = names_eq a.names b.names && option_eq (pointwise type_eq) a.columns b.columns

module _ (rule_eq : BulkRule → BulkRule → Bool) (type_eq : ParamType → ParamType → Bool) where
  -- the same settings, and waiting rows whose values have the same contents
  abbrev pub builder_eq : BuilderState → BuilderState → Bool
  builder_eq a b =
      nat_eq a.stmt_id b.stmt_id
      && (nat_eq a.limit b.limit
      && (beq a.results b.results
      && (rule_eq a.rule b.rule
      && (columns_eq type_eq a b
      && (beq a.types_due b.types_due
      && (option_eq nat_eq a.arity b.arity
      && rows_eq a.waiting b.waiting))))))

  pub builder_per : IsPartialEquivalence rule_eq → IsPartialEquivalence type_eq → IsPartialEquivalence builder_eq
  builder_per rules types =
      and_per (of (λ s. s.stmt_id) nat_eq_equiv)
      (and_per (of (λ s. s.limit) nat_eq_equiv)
      (and_per (of (λ s. s.results) bool_eq_equiv)
      (and_per (on_per (λ s. s.rule) rules)
      (and_per (and_per (of (λ s. s.names) (options_equiv (lists_equiv (on_equiv (λ (v : Vec ℕ). v.items) nat_list_eq_equiv)))) (on_per (λ s. s.columns) (options_per (lists_per types))))
      (and_per (of (λ s. s.types_due) bool_eq_equiv)
      (and_per (of (λ s. s.arity) (options_equiv nat_eq_equiv))
      (of (λ s. s.waiting) (lists_equiv (lists_equiv content_equiv)))))))))
