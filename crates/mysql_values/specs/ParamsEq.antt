-- Equality of parameters is symmetric and transitive.
use Rattle.std.specs.Prelude.{◌≡◌, ℕ, Bool, true, nat_eq, refl}
use Rattle.std.specs.Cmp.{IsPartialEquivalence, and_per, on_per, partial_equiv_from_equiv, nat_eq_equiv}
use Rattle.std.specs.Cmp.Lexicographic.{pointwise, lists_per}
use Rattle.std.specs.Global.{Vec}
use Rattle.mysql_values.specs.declared.params.Params.{Params}
use Rattle.mysql_values.specs.declared.params.Params.TheVariants as params
use Rattle.mysql_values.specs.declared.value.Value.{Value}
use Rattle.mysql_values.specs.Params.{params_eq, entry_eq}

module _ (eq : Value → Value → Bool) (per : IsPartialEquivalence eq) where
  name_per : IsPartialEquivalence (λ (x y : Vec ℕ). pointwise nat_eq x.items y.items)
  name_per = on_per (λ x. x.items) (lists_per (partial_equiv_from_equiv nat_eq_equiv))

  entries_per : IsPartialEquivalence (pointwise (entry_eq eq))
  entries_per = lists_per (and_per (on_per (λ p. p.0) name_per) (on_per (λ p. p.1) per))

  symm : (x y : Params) → params_eq eq x y ≡ params_eq eq y x
  symm params.Empty params.Empty = refl
  symm params.Empty (params.Named b) = refl
  symm params.Empty (params.Positional b) = refl
  symm (params.Named a) params.Empty = refl
  symm (params.Named a) (params.Named b) = entries_per.symm a.entries b.entries
  symm (params.Named a) (params.Positional b) = refl
  symm (params.Positional a) params.Empty = refl
  symm (params.Positional a) (params.Named b) = refl
  symm (params.Positional a) (params.Positional b) = (lists_per per).symm a.items b.items

  trans : (x y z : Params) → params_eq eq x y ≡ true → params_eq eq y z ≡ true → params_eq eq x z ≡ true
  trans params.Empty params.Empty z p q = q
  trans (params.Named a) (params.Named b) (params.Named c) p q = entries_per.trans a.entries b.entries c.entries p q
  trans (params.Positional a) (params.Positional b) (params.Positional c) p q = (lists_per per).trans a.items b.items c.items p q
  trans params.Empty (params.Named b) z p q = absurd cc
  trans params.Empty (params.Positional b) z p q = absurd cc
  trans (params.Named a) params.Empty z p q = absurd cc
  trans (params.Named a) (params.Positional b) z p q = absurd cc
  trans (params.Positional a) params.Empty z p q = absurd cc
  trans (params.Positional a) (params.Named b) z p q = absurd cc
  trans (params.Named a) (params.Named b) params.Empty p q = absurd cc
  trans (params.Named a) (params.Named b) (params.Positional c) p q = absurd cc
  trans (params.Positional a) (params.Positional b) params.Empty p q = absurd cc
  trans (params.Positional a) (params.Positional b) (params.Named c) p q = absurd cc

  pub params_per : IsPartialEquivalence (params_eq eq)
  params_per = record { symm = symm; trans = trans }
