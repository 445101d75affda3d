-- A loop that reads one of each form.
use Rattle.std.proofs.Common.{◌≡◌, ℕ, ◌+◌, ◌<◌, ◌≤◌, List, [], ◌∷◌, ◌++◌, length, drop, get_or, Ok, Err, Bool, true, refl, sym, ap, ◌∙◌}
use Rattle.std.proofs.lemmas.List.{append-nil, drop_more, drop_all}
use Rattle.mysql_wire.specs.declared.fault.FaultOf.{FaultOf}
use Rattle.mysql_wire.specs.Reading.{Reading, Faults, then_read}
use Rattle.mysql_wire.specs.Form.{Form}
use Rattle.mysql_wire.proofs.Counted.{with_front, regroup}
use Rattle.mysql_wire.specs.Each.{each}
use Rattle.mysql_wire.proofs.Refused.{fault-goes}

module _ {A C : Type 0} (f : ℕ → C → Form A) (front : List A) (cs : List C) (i : ℕ) (bytes : List ℕ) (total : Reading (List A)) (so_far : with_front front ((each f i (drop i cs)).reads bytes) ≡ total) where
  pub next-one : (d : C) (x : A) (after : List ℕ) → i < length cs → (f i (get_or cs i d)).reads bytes ≡ Ok (x, after) → with_front (front ++ x ∷ []) ((each f (i + 1) (drop (i + 1) cs)).reads after) ≡ total
  unfolding each
  next-one d x after lt h =
      let one : with_front front ((each f i (drop i cs)).reads bytes) ≡ with_front (front ++ x ∷ []) ((each f (i + 1) (drop (i + 1) cs)).reads after) =
      rw (drop_more cs i d lt, h) (regroup front x ((each f (i + 1) (drop (i + 1) cs)).reads after)) in
      sym one ∙ so_far

  fails-with : (d : C) (e : _) → i < length cs → (f i (get_or cs i d)).reads bytes ≡ Err e → total ≡ Err e
  unfolding each
  fails-with d e lt h =
      let one : with_front front ((each f i (drop i cs)).reads bytes) ≡ Err e = rw (drop_more cs i d lt, h) refl in
      sym so_far ∙ one

  pub one-fails : (d : C) (b : Bool) (e : FaultOf) → i < length cs → Faults b e ((f i (get_or cs i d)).reads bytes) → Faults true e total
  one-fails d b e lt h = fault-goes b true e ((f i (get_or cs i d)).reads bytes) total (λ _. refl) (λ k h. fails-with d k lt h) h

  pub none-left : length cs ≤ i → total ≡ Ok (front, bytes)
  unfolding each
  none-left le =
      let one : with_front front ((each f i (drop i cs)).reads bytes) ≡ Ok (front, bytes) = rw (drop_all i cs le) (ap (λ (xs : List A). Ok (xs, bytes)) (append-nil front)) in
      sym so_far ∙ one

-- a value made from what is read
pub mapped-fails : {A B : Type 0} (make : A → B) (b : Bool) (e : FaultOf) (r : Reading A) → Faults b e r → Faults b e (then_read r (λ x rest. Ok (make x, rest)))
mapped-fails make b e r h = fault-goes b b e r (then_read r (λ x rest. Ok (make x, rest))) (λ m. m) (λ k h. rw h refl) h
