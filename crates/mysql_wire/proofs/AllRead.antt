-- Values that all of the bytes spell: if they are read, the first one is read, and so are the others.
use Rattle.std.proofs.Common.{◌≡◌, ◌≢◌, ℕ, ◌<◌, List, [], ◌∷◌, ◌++◌, length, Option, None, Result, Ok, Err, Bool, true, false, if◌then◌else◌, nat_lt, refl, sym, ◌∙◌}
use Rattle.std.specs.Result.{result_ok}
use Rattle.mysql_wire.specs.declared.fault.FaultOf.{FaultOf}
use Rattle.mysql_wire.specs.declared.fault.FaultKind.{FaultKind}
use Rattle.mysql_wire.specs.declared.fault.FaultKind.TheVariants as kind
use Rattle.mysql_wire.specs.Form.{Form}
use Rattle.mysql_wire.specs.Many.{many, items_read, items_in, AreItems, NextItem}
use Rattle.mysql_wire.specs.Reading.{Reading, Answers, Faults, then_read, done-value, done-rest, done-both}
use Rattle.mysql_wire.proofs.Counted.{with_front}
use Rattle.mysql_wire.proofs.ReadAll.{opened, one-more, no-more, takes-none, one-fails-as}
use Rattle.mysql_wire.proofs.Refused.{kind-in}

module _ {A : Type 0} (one : Form A) where
  abbrev Whole : Reading (List A) → Type 0
  Whole read = read ≡ Ok (items_read read, [])

  -- after one value follow others to the end
  abbrev Goes : A → Reading (List A) → Reading (List A) → Type 0
  Goes v total after = Whole after × (items_read total ≡ v ∷ items_read after)

  joined : (v : A) (total after : Reading (List A)) → total ≡ then_read after (λ xs rest. Ok (v ∷ xs, rest)) → Whole total → Goes v total after
  joined v total (Ok x) e w =
      let same : ◌≡◌ {A = Reading (List A)} (Ok (v ∷ x.0, x.1)) (Ok (items_read total, [])) = sym e ∙ w in
      let end : x.1 ≡ [] = done-rest (v ∷ x.0) (items_read total) x.1 [] same in
      let all : v ∷ x.0 ≡ items_read total = done-value (v ∷ x.0) (items_read total) x.1 [] same in
      (done-both x.0 x.0 x.1 [] refl end, sym all)
  joined v total (Err k) e w =
      let same : ◌≡◌ {A = Reading (List A)} (Err k) (Ok (items_read total, [])) = sym e ∙ w in
      absurd cc

  guarded : (v : A) (b : Bool) (total after : Reading (List A))
      → total ≡ (if b then then_read after (λ xs rest. Ok (v ∷ xs, rest)) else Err kind.InvalidData) → Whole total → Goes v total after
  guarded v true total after e w = joined v total after e w
  guarded v false total after e w =
      let same : ◌≡◌ {A = Reading (List A)} (Err kind.InvalidData) (Ok (items_read total, [])) = sym e ∙ w in
      absurd cc

  pub goes-on : (bytes after : List ℕ) (v : A) → bytes ≢ [] → AreItems one bytes → one.reads bytes ≡ Ok (v, after) → AreItems one after × (items_in one bytes ≡ v ∷ items_in one after)
  goes-on bytes after v some w e =
      guarded v (nat_lt (length after) (length bytes)) ((many one).reads bytes) ((many one).reads after) (rw (opened one bytes some, e) refl) w

  -- none of them is refused
  pub refused : (bytes : List ℕ) (k : FaultKind) → bytes ≢ [] → AreItems one bytes → one.reads bytes ≡ Err k → ⊥
  refused bytes k some w h =
      let e : (many one).reads bytes ≡ Err k = rw (opened one bytes some, h) refl in
      let same : ◌≡◌ {A = Reading (List A)} (Err k) (Ok (items_in one bytes, [])) = sym e ∙ w in
      absurd cc

  none-refused : (bytes : List ℕ) (e : FaultOf) → bytes ≢ [] → AreItems one bytes → Faults {A = A} false e (one.reads bytes) → ⊥
  none-refused bytes e some w h = let k = kind-in e (one.reads bytes) h in refused bytes k.0 some w k.1

  -- ---- the first one and the others

  pub next-taken : (bytes after : List ℕ) (r : Result A FaultOf) (next : Option A) → next ≡ result_ok r → bytes ≢ [] → AreItems one bytes → Answers false r after (one.reads bytes)
      → NextItem (items_in one bytes) next (items_in one after)
  next-taken bytes after (Ok v) next same some w h = rw same ((goes-on bytes after v some w h).1)
  next-taken bytes after (Err e) next same some w h = absurd (none-refused bytes e some w h)

  pub others-left : (bytes after : List ℕ) (r : Result A FaultOf) → bytes ≢ [] → AreItems one bytes → Answers false r after (one.reads bytes) → AreItems one after
  others-left bytes after (Ok v) some w h = (goes-on bytes after v some w h).0
  others-left bytes after (Err e) some w h = absurd (none-refused bytes e some w h)

  pub none-left : (bytes : List ℕ) → bytes ≡ [] → NextItem (items_in one bytes) None (items_in one bytes)
  unfolding many
  none-left bytes e = rw e (refl, refl)

  -- ---- a loop that reads all of them

  -- the values read before, and then those of the rest, are those of all bytes
  pub record HasRead (rest bytes : List ℕ) : Type 0 where
    pub before : List A
    pub same : with_front before ((many one).reads rest) ≡ (many one).reads bytes

  none-before : (read : Reading (List A)) → with_front [] read ≡ read
  none-before (Ok x) = refl
  none-before (Err e) = refl

  pub begun : (bytes : List ℕ) → HasRead bytes bytes
  begun bytes = record { before = []; same = none-before ((many one).reads bytes) }

  pub one-further : (v : A) (rest after bytes : List ℕ) → length after < length rest → one.reads rest ≡ Ok (v, after) → HasRead rest bytes → HasRead after bytes
  one-further v rest after bytes shorter e so_far = record { before = so_far.before ++ v ∷ []; same = one-more one so_far.before rest _ so_far.same v after shorter e }

  whole : (before : List A) (total : Reading (List A)) → total ≡ Ok (before, []) → Whole total
  whole before total e = rw e refl

  pub all-read : (rest bytes : List ℕ) → rest ≡ [] → HasRead rest bytes → AreItems one bytes
  all-read rest bytes none so_far = whole so_far.before _ (no-more one so_far.before rest _ so_far.same none)

  pub fault-read : (e : FaultOf) (rest bytes : List ℕ) → rest ≢ [] → Faults false e (one.reads rest) → HasRead rest bytes → Faults false e ((many one).reads bytes)
  fault-read e rest bytes some h so_far = one-fails-as one so_far.before rest _ so_far.same false false e some (λ m. m) h

  pub empty-read : (v : A) (rest after bytes : List ℕ) → rest ≢ [] → length after ≡ length rest → one.reads rest ≡ Ok (v, after) → HasRead rest bytes → (many one).reads bytes ≡ Err kind.InvalidData
  empty-read v rest after bytes some same e so_far = takes-none one so_far.before rest _ so_far.same v after some same e
