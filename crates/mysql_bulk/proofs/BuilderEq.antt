-- The waiting rows are equal if their values are, which are kept in one list.
use Rattle.std.proofs.Common.{◌≡◌, ◌≢◌, ℕ, zero, suc, ◌+◌, ◌*◌, ◌≤◌, Bool, true, false, ◌&&◌, List, [], ◌∷◌, length, take, drop, unwrap_or, refl, sym, ◌∙◌, ap, subst, arith, inl, inr}
use Rattle.std.specs.Prelude.{nat_eq}
use Rattle.std.specs.Cmp.Lexicographic.{pointwise, unequal}
use Rattle.std.proofs.Math.Nat.{suc-mul}
use Rattle.std.proofs.Math.Bool.{and_assoc}
use Rattle.std.proofs.lemmas.Bool.Decides.{eqb_tells}
use Rattle.std.proofs.lemmas.List.{length-drop, nil_from_length}
use Rattle.mysql_values.specs.Value.{Content, contents_of}
use Rattle.mysql_values.specs.ContentEq.{content_eq}
use Rattle.mysql_values.specs.declared.value.Value.{Value}
use Rattle.mysql_values.specs.contracts.value.ValuePartialEq.TheImpl as value
use Rattle.mysql_values.proofs.ValueEq.{same_content}
use Rattle.mysql_bulk.specs.BuilderRows.{rows_of}
use Rattle.mysql_bulk.specs.Builder.{BuilderState, IsStoredAs}
use Rattle.mysql_bulk.specs.BuilderEq.{rows_eq}
use Rattle.mysql_values.specs.declared.param_type.ParamType.{ParamType}
use Rattle.mysql_bulk.proofs.BuilderRows.{length-rows_of}

-- values compare equal if their contents are equal
pub values_eq : (xs ys : List Value) → pointwise value.ghosts.eq xs ys ≡ pointwise content_eq (contents_of xs) (contents_of ys)
values_eq [] [] = refl
values_eq [] (y ∷ ys) = refl
values_eq (x ∷ xs) [] = refl
values_eq (x ∷ xs) (y ∷ ys) = λ i. same_content x y i && values_eq xs ys i

module _ {A : Type 0} (E : A → A → Bool) where
  -- the first values are compared, and then the others
  parts_eq : (n : ℕ) (xs ys : List A) → n ≤ length xs → n ≤ length ys → (pointwise E (take n xs) (take n ys) && pointwise E (drop n xs) (drop n ys)) ≡ pointwise E xs ys
  parts_eq zero xs ys p q = refl
  parts_eq (suc n) [] ys p q = absurd (omega (arith, p))
  parts_eq (suc n) (x ∷ xs) [] p q = absurd (omega (arith, q))
  parts_eq (suc n) (x ∷ xs) (y ∷ ys) p q =
      and_assoc (E x y) (pointwise E (take n xs) (take n ys)) (pointwise E (drop n xs) (drop n ys)) ∙ ap (λ b. E x y && b) (parts_eq n xs ys (omega (arith, p)) (omega (arith, q)))

rows_flat : (a n : ℕ) (xs ys : List Content) → length xs ≡ n * a → length ys ≡ n * a → rows_eq (rows_of a n xs) (rows_of a n ys) ≡ pointwise content_eq xs ys
rows_flat a zero xs ys p q =
    let N : List Content → List Content → Type 0 = λ xs ys. true ≡ pointwise content_eq xs ys in
    subst (N xs) (sym (nil_from_length ys (omega (arith, q)))) (subst (λ l. N l []) (sym (nil_from_length xs (omega (arith, p)))) refl)
rows_flat a (suc n) xs ys p q =
    let more : suc n * a ≡ n * a + a = suc-mul n a in
    let others = rows_flat a n (drop a xs) (drop a ys) (omega (arith, p, more, length-drop a xs)) (omega (arith, q, more, length-drop a ys)) in
    ap (λ b. pointwise content_eq (take a xs) (take a ys) && b) others ∙ parts_eq content_eq a xs ys (omega (arith, p, more)) (omega (arith, q, more))

module _ {s t : BuilderState} {n m size other : ℕ} (xs ys : List Value) {types further : List ParamType} (k : IsStoredAs s n size (contents_of xs) types) (l : IsStoredAs t m other (contents_of ys) further) (same : s.arity ≡ t.arity) where
  abbrev rows : List (List Content)
  rows = rows_of (unwrap_or s.arity 0) n (contents_of xs)

  others : t.waiting ≡ rows_of (unwrap_or s.arity 0) m (contents_of ys)
  others = l.rows_is ∙ ap (λ a. rows_of (unwrap_or a 0) m (contents_of ys)) (sym same)

  both : rows_eq s.waiting t.waiting ≡ rows_eq rows (rows_of (unwrap_or s.arity 0) m (contents_of ys))
  both = λ i. rows_eq (k.rows_is i) (others i)

  as_many : n ≡ m → rows_eq rows (rows_of (unwrap_or s.arity 0) m (contents_of ys)) ≡ pointwise content_eq (contents_of xs) (contents_of ys)
  as_many e =
      let long : length (contents_of ys) ≡ n * unwrap_or s.arity 0 = l.flat.lengths ∙ (λ i. sym e i * unwrap_or (sym same i) 0) in
      ap (λ c. rows_eq rows (rows_of (unwrap_or s.arity 0) c (contents_of ys))) (sym e) ∙ rows_flat (unwrap_or s.arity 0) n (contents_of xs) (contents_of ys) k.flat.lengths long

  not_as_many : n ≢ m → rows_eq rows (rows_of (unwrap_or s.arity 0) m (contents_of ys)) ≡ false
  not_as_many d =
      unequal (pointwise content_eq) rows (rows_of (unwrap_or s.arity 0) m (contents_of ys)) (λ e. d (sym (length-rows_of (unwrap_or s.arity 0) n (contents_of xs)) ∙ e ∙ length-rows_of (unwrap_or s.arity 0) m (contents_of ys)))

  pub same_count : n ≡ m → pointwise value.ghosts.eq xs ys ≡ rows_eq s.waiting t.waiting
  same_count e = values_eq xs ys ∙ sym (both ∙ as_many e)

  pub other_count : n ≢ m → nat_eq n m ≡ rows_eq s.waiting t.waiting
  other_count d = elim (eqb_tells n m) [ inl equal ↦ absurd (d equal.1) | inr differ ↦ differ.0 ∙ sym (both ∙ not_as_many d) ]
