-- A loop that reads values until the bytes end.
use Rattle.std.proofs.Common.{◌≡◌, ◌≢◌, ℕ, ◌+◌, ◌<◌, List, [], ◌∷◌, ◌++◌, length, Ok, Err, Bool, true, IsTrue, refl, sym, ap, ◌∙◌, arith}
use Rattle.std.proofs.lemmas.Bool.{lt-ltb, le-ltb}
use Rattle.std.proofs.lemmas.List.{append-nil, length-append}
use Rattle.mysql_wire.specs.declared.fault.FaultOf.{FaultOf}
use Rattle.mysql_wire.specs.declared.fault.FaultKind.TheVariants as kind
use Rattle.mysql_wire.specs.Reading.{Reading, IsTail, then_read, Faults}
use Rattle.mysql_wire.specs.Form.{Form}
use Rattle.mysql_wire.specs.Many.{many, many_asks, value_and_more}
use Rattle.mysql_wire.specs.Many.Laws.{many-next}
use Rattle.mysql_wire.proofs.Counted.{with_front, regroup, asks-more}
use Rattle.mysql_wire.proofs.Refused.{fault-goes}

pub tail-shorter : (tail bytes : List ℕ) → IsTail tail bytes → length tail ≢ length bytes → length tail < length bytes
tail-shorter tail bytes t ne = let e : length bytes ≡ length t.front + length tail = ap length t.parts ∙ length-append t.front tail in omega (arith, e, ne)

-- what is read if bytes are left
pub opened : {A : Type 0} (f : Form A) (bytes : List ℕ) → bytes ≢ [] → (many f).reads bytes ≡ then_read (f.reads bytes) (value_and_more (length bytes) (many f).reads)
unfolding many
opened f [] ne = absurd (ne refl)
opened f (b ∷ bs) ne = many-next f b bs

shorter-is_some : (after bytes : List ℕ) → length after < length bytes → bytes ≢ []
shorter-is_some after [] lt e = omega (arith, lt)
shorter-is_some after (b ∷ bs) lt e = absurd cc

module _ {A : Type 0} (f : Form A) (front : List A) (bytes : List ℕ) (total : Reading (List A)) (so_far : with_front front ((many f).reads bytes) ≡ total) where
  pub one-more : (x : A) (after : List ℕ) → length after < length bytes → f.reads bytes ≡ Ok (x, after) → with_front (front ++ x ∷ []) ((many f).reads after) ≡ total
  one-more x after lt h =
      let one : with_front front ((many f).reads bytes) ≡ with_front (front ++ x ∷ []) ((many f).reads after) =
      rw (opened f bytes (shorter-is_some after bytes lt), h, lt-ltb _ _ lt) (regroup front x ((many f).reads after)) in
      sym one ∙ so_far

  pub no-more : bytes ≡ [] → total ≡ Ok (front, [])
  unfolding many
  no-more e =
      let one : with_front front ((many f).reads bytes) ≡ Ok (front, []) = rw e (ap (λ (xs : List A). Ok (xs, [])) (append-nil front)) in
      sym so_far ∙ one

  pub takes-none : (x : A) (after : List ℕ) → bytes ≢ [] → length after ≡ length bytes → f.reads bytes ≡ Ok (x, after) → total ≡ Err kind.InvalidData
  takes-none x after ne same h =
      let one : with_front front ((many f).reads bytes) ≡ Err kind.InvalidData = rw (opened f bytes ne, h, le-ltb (length after) (length bytes) (omega (arith, same))) refl in
      sym so_far ∙ one

  fails-with : (e : _) → bytes ≢ [] → f.reads bytes ≡ Err e → total ≡ Err e
  fails-with e ne h =
      let one : with_front front ((many f).reads bytes) ≡ Err e = rw (opened f bytes ne, h) refl in
      sym so_far ∙ one

  -- the fault of a value, if the list may allocate whenever the value may
  pub one-fails-as : (b asks : Bool) (e : FaultOf) → bytes ≢ [] → (IsTrue b → IsTrue asks) → Faults b e (f.reads bytes) → Faults asks e total
  one-fails-as b asks e ne may h = fault-goes b asks e (f.reads bytes) total may (λ k h. fails-with k ne h) h

  pub one-fails : (b : Bool) (e : FaultOf) → bytes ≢ [] → Faults b e (f.reads bytes) → Faults true e total
  one-fails b e ne h = one-fails-as b true e ne (λ _. refl) h

-- a value that is read and takes a byte allocates, and so does one that may allocate
pub many-asks-read : {A : Type 0} (takes : List ℕ → Bool) (f : Form A) (x : A) (bytes after : List ℕ) → length after < length bytes → f.reads bytes ≡ Ok (x, after) → IsTrue (many_asks takes f bytes)
many-asks-read takes f x [] after lt h = absurd (omega (arith, lt))
many-asks-read takes f x (b ∷ bs) after lt h = rw (h, lt-ltb _ _ lt) refl

pub many-asks-more : {A : Type 0} (takes : List ℕ → Bool) (f : Form A) (bytes : List ℕ) → bytes ≢ [] → IsTrue (takes bytes) → IsTrue (many_asks takes f bytes)
many-asks-more takes f [] ne h = absurd (ne refl)
many-asks-more takes f (b ∷ bs) ne h = asks-more (takes (b ∷ bs)) (then_read (f.reads (b ∷ bs)) (value_and_more (length (b ∷ bs)) (λ mid. Ok ([], mid)))) h
