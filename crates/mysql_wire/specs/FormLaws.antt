-- What a form encodes and what it reads agree, for each combinator.
use Rattle.std.specs.Prelude.{◌≡◌, ℕ, ◌≤◌, List, [], ◌∷◌, ◌++◌, length, take, drop, Option, Some, None, Ok, Err, false, nat_lt, refl}
use Rattle.std.proofs.Common.{sym, ap, ◌∙◌, arith}
use Rattle.std.proofs.lemmas.Bool.{ltb-false, le-ltb, lt-ltb}
use Rattle.std.proofs.lemmas.List.{take_at, drop_at, take-append-drop, length-append, length-take, append-nil}
use Rattle.mysql_wire.specs.declared.fault.FaultKind.{FaultKind}
use Rattle.mysql_wire.specs.declared.fault.FaultKind.TheVariants as kind
use Rattle.mysql_wire.specs.Reading.{Reading, IsTail, IsTail-trans, IsSized, HasSize, then_read, then_read-ok, done-value, done-rest, done-both, guard_ok}
use Rattle.mysql_wire.specs.Grammar.{Form, then_Spells, then_reads, bytes_Spells, bytes_reads, map_Spells, map_reads, looked_up, decode_Spells, decode_reads, ended, whole, within_Spells, within_reads, beginning_Spells, beginning_reads}

-- ---- a value without bytes

pub give-found : {A : Type 0} (x v : A) (bytes rest : List ℕ) → ◌≡◌ {A = Reading A} (Ok (x, bytes)) (Ok (v, rest)) → (v ≡ x) × (bytes ≡ rest)
give-found x v bytes rest e = (sym (done-value x v bytes rest e), done-rest x v bytes rest e)

pub give-only : {A : Type 0} (x v : A) (bytes rest : List ℕ) → (v ≡ x) × (bytes ≡ rest) → ◌≡◌ {A = Reading A} (Ok (x, bytes)) (Ok (v, rest))
give-only x v bytes rest s = done-both x v bytes rest (sym s.0) s.1

pub give-front : {A : Type 0} (x v : A) (bytes rest : List ℕ) → ◌≡◌ {A = Reading A} (Ok (x, bytes)) (Ok (v, rest)) → IsTail rest bytes
give-front x v bytes rest e = record { front = []; parts = done-rest x v bytes rest e }

-- ---- one form, and then another that may depend on the first one's value

module _ {A B : Type 0} (f : Form A) (g : A → Form B) where
  pub then-found : (v : B) (bytes rest : List ℕ) → then_reads f g bytes ≡ Ok (v, rest) → then_Spells f g v bytes rest
  then-found v bytes rest e =
      let a = then_read-ok (f.reads bytes) (λ x mid. (g x).reads mid) (v, rest) e in
      (a.0, a.1, f.found a.0 bytes a.1 a.2, (g a.0).found v a.1 rest a.3)

  pub then-only : (v : B) (bytes rest : List ℕ) → then_Spells f g v bytes rest → then_reads f g bytes ≡ Ok (v, rest)
  then-only v bytes rest s = rw (f.only s.0 bytes s.1 s.2) ((g s.0).only v s.1 rest s.3)

  pub then-front : (v : B) (bytes rest : List ℕ) → then_reads f g bytes ≡ Ok (v, rest) → IsTail rest bytes
  then-front v bytes rest e =
      let a = then_read-ok (f.reads bytes) (λ x mid. (g x).reads mid) (v, rest) e in
      IsTail-trans rest a.1 bytes ((g a.0).front v a.1 rest a.3) (f.front a.0 bytes a.1 a.2)

-- ---- a given number of bytes

module _ (n : ℕ) where
  pub bytes-found : (c bytes rest : List ℕ) → bytes_reads n bytes ≡ Ok (c, rest) → bytes_Spells n c bytes rest
  bytes-found c bytes rest e =
      let g = guard_ok (nat_lt (length bytes) n) kind.UnexpectedEof (take n bytes, drop n bytes) (c, rest) e in
      let long : n ≤ length bytes = ltb-false _ _ g.0 in
      let front : take n bytes ≡ c = ap (λ (p : List ℕ × List ℕ). p.0) g.1 in
      let after : drop n bytes ≡ rest = ap (λ (p : List ℕ × List ℕ). p.1) g.1 in
      (rw (← front) (omega (arith, length-take n bytes)), rw (← front, ← after) (sym (take-append-drop n bytes)))

  pub bytes-only : (c bytes rest : List ℕ) → bytes_Spells n c bytes rest → bytes_reads n bytes ≡ Ok (c, rest)
  bytes-only c bytes rest s =
      let long : nat_lt (length (c ++ rest)) n ≡ false = le-ltb _ _ (omega (arith, length-append c rest, s.0)) in
      rw (s.1, long, take_at c rest n s.0, drop_at c rest n s.0) refl

  pub bytes-front : (c bytes rest : List ℕ) → bytes_reads n bytes ≡ Ok (c, rest) → IsTail rest bytes
  bytes-front c bytes rest e = record { front = c; parts = (bytes-found c bytes rest e).1 }

  pub bytes-sized : IsSized n (bytes_reads n)
  bytes-sized = record {
    exact = λ c bytes rest e. let s = bytes-found c bytes rest e in rw (s.1, length-append) (omega (arith, s.0));
    short = λ bytes lt. rw (lt-ltb _ _ lt) refl;
  }

-- ---- a value computed from another

module _ {A B : Type 0} (make : A → B) (f : Form A) where
  pub map-from : (v : B) (bytes rest : List ℕ) → map_reads make f bytes ≡ Ok (v, rest) → (x : A) × (make x ≡ v) × (f.reads bytes ≡ Ok (x, rest))
  map-from v bytes rest e =
      let a = then_read-ok (f.reads bytes) (λ x mid. Ok (make x, mid)) (v, rest) e in
      (a.0, done-value (make a.0) v a.1 rest a.3, a.2 ∙ done-both a.0 a.0 a.1 rest refl (done-rest (make a.0) v a.1 rest a.3))

  pub map-found : (v : B) (bytes rest : List ℕ) → map_reads make f bytes ≡ Ok (v, rest) → map_Spells make f v bytes rest
  map-found v bytes rest e = let a = map-from v bytes rest e in (a.0, a.1, f.found a.0 bytes rest a.2)

  pub map-only : (v : B) (bytes rest : List ℕ) → map_Spells make f v bytes rest → map_reads make f bytes ≡ Ok (v, rest)
  map-only v bytes rest s = rw (f.only s.0 bytes rest s.2, s.1) refl

  pub map-front : (v : B) (bytes rest : List ℕ) → map_reads make f bytes ≡ Ok (v, rest) → IsTail rest bytes
  map-front v bytes rest e = let a = map-from v bytes rest e in f.front a.0 bytes rest a.2

pub map-sized : {A B : Type 0} (make : A → B) (size : Option ℕ) (reads : List ℕ → Reading A) → HasSize size reads → HasSize size (λ bytes. then_read (reads bytes) (λ x rest. Ok (make x, rest)))
map-sized make None reads h = tt
map-sized make (Some n) reads h = record {
  exact = λ v bytes rest e.
      let a = then_read-ok (reads bytes) (λ x mid. Ok (make x, mid)) (v, rest) e in
      rw (← done-rest (make a.0) v a.1 rest a.3) (h.exact a.0 bytes a.1 a.2);
  short = λ bytes lt. rw (h.short bytes lt) refl;
}

-- ---- a value from a table

pub looked_up-ok : {B : Type 0} (o : Option B) (v : B) (mid rest : List ℕ) → looked_up o mid ≡ Ok (v, rest) → (o ≡ Some v) × (mid ≡ rest)
looked_up-ok None v mid rest e = absurd cc
looked_up-ok (Some w) v mid rest e = (ap Some (done-value w v mid rest e), done-rest w v mid rest e)

module _ {A B : Type 0} (table : A → Option B) (f : Form A) where
  pub decode-from : (v : B) (bytes rest : List ℕ) → decode_reads table f bytes ≡ Ok (v, rest) → (x : A) × (table x ≡ Some v) × (f.reads bytes ≡ Ok (x, rest))
  decode-from v bytes rest e =
      let a = then_read-ok (f.reads bytes) (λ x mid. looked_up (table x) mid) (v, rest) e in
      let b = looked_up-ok (table a.0) v a.1 rest a.3 in
      (a.0, b.0, a.2 ∙ done-both a.0 a.0 a.1 rest refl b.1)

  pub decode-found : (v : B) (bytes rest : List ℕ) → decode_reads table f bytes ≡ Ok (v, rest) → decode_Spells table f v bytes rest
  decode-found v bytes rest e = let a = decode-from v bytes rest e in (a.0, a.1, f.found a.0 bytes rest a.2)

  pub decode-only : (v : B) (bytes rest : List ℕ) → decode_Spells table f v bytes rest → decode_reads table f bytes ≡ Ok (v, rest)
  decode-only v bytes rest s = rw (f.only s.0 bytes rest s.2, s.1) refl

  pub decode-front : (v : B) (bytes rest : List ℕ) → decode_reads table f bytes ≡ Ok (v, rest) → IsTail rest bytes
  decode-front v bytes rest e = let a = decode-from v bytes rest e in f.front a.0 bytes rest a.2

pub decode-sized : {A B : Type 0} (table : A → Option B) (size : Option ℕ) (reads : List ℕ → Reading A) → HasSize size reads → HasSize size (λ bytes. then_read (reads bytes) (λ x rest. looked_up (table x) rest))
decode-sized table None reads h = tt
decode-sized table (Some n) reads h = record {
  exact = λ v bytes rest e.
      let a = then_read-ok (reads bytes) (λ x mid. looked_up (table x) mid) (v, rest) e in
      let b = looked_up-ok (table a.0) v a.1 rest a.3 in
      rw (← b.1) (h.exact a.0 bytes a.1 a.2);
  short = λ bytes lt. rw (h.short bytes lt) refl;
}

-- ---- a value whose bytes are the whole of a part, such as a block

pub ended-ok : {A : Type 0} (w v : A) (left mid rest : List ℕ) → ended w left mid ≡ Ok (v, rest) → (w ≡ v) × (left ≡ []) × (mid ≡ rest)
ended-ok w v [] mid rest e = (done-value w v mid rest e, refl, done-rest w v mid rest e)
ended-ok w v (b ∷ bs) mid rest e = absurd cc

pub whole-ok : {A : Type 0} (r : Reading A) (v : A) (mid rest : List ℕ) → whole r mid ≡ Ok (v, rest) → (r ≡ Ok (v, [])) × (mid ≡ rest)
whole-ok (Ok x) v mid rest e = let a = ended-ok x.0 v x.1 mid rest e in (done-both x.0 v x.1 [] a.0 a.1, a.2)
whole-ok (Err d) v mid rest e = absurd cc

module _ {A : Type 0} (part : Form (List ℕ)) (f : Form A) where
  pub within-from : (v : A) (bytes rest : List ℕ) → within_reads part f bytes ≡ Ok (v, rest) → (inside : List ℕ) × (part.reads bytes ≡ Ok (inside, rest)) × (f.reads inside ≡ Ok (v, []))
  within-from v bytes rest e =
      let a = then_read-ok (part.reads bytes) (λ inside mid. whole (f.reads inside) mid) (v, rest) e in
      let b = whole-ok (f.reads a.0) v a.1 rest a.3 in
      (a.0, a.2 ∙ done-both a.0 a.0 a.1 rest refl b.1, b.0)

  pub within-found : (v : A) (bytes rest : List ℕ) → within_reads part f bytes ≡ Ok (v, rest) → within_Spells part f v bytes rest
  within-found v bytes rest e = let a = within-from v bytes rest e in (a.0, part.found a.0 bytes rest a.1, f.found v a.0 [] a.2)

  pub within-only : (v : A) (bytes rest : List ℕ) → within_Spells part f v bytes rest → within_reads part f bytes ≡ Ok (v, rest)
  within-only v bytes rest s = rw (part.only s.0 bytes rest s.1, f.only v s.0 [] s.2) refl

  pub within-front : (v : A) (bytes rest : List ℕ) → within_reads part f bytes ≡ Ok (v, rest) → IsTail rest bytes
  within-front v bytes rest e = let a = within-from v bytes rest e in part.front a.0 bytes rest a.1

pub within-sized : {A : Type 0} (size : Option ℕ) (part : List ℕ → Reading (List ℕ)) (reads : List ℕ → Reading A) → HasSize size part → HasSize size (λ bytes. then_read (part bytes) (λ inside rest. whole (reads inside) rest))
within-sized None part reads h = tt
within-sized (Some n) part reads h = record {
  exact = λ v bytes rest e.
      let a = then_read-ok (part bytes) (λ inside mid. whole (reads inside) mid) (v, rest) e in
      let b = whole-ok (reads a.0) v a.1 rest a.3 in
      rw (← b.1) (h.exact a.0 bytes a.1 a.2);
  short = λ bytes lt. rw (h.short bytes lt) refl;
}

-- ---- a value whose bytes begin a part

module _ {A : Type 0} (part : Form (List ℕ)) (f : Form A) where
  pub beginning-from : (v : A) (bytes rest : List ℕ) → beginning_reads part f bytes ≡ Ok (v, rest)
      → (inside : List ℕ) × (ignored : List ℕ) × (part.reads bytes ≡ Ok (inside, rest)) × (f.reads inside ≡ Ok (v, ignored))
  beginning-from v bytes rest e =
      let a = then_read-ok (part.reads bytes) (λ inside mid. then_read (f.reads inside) (λ w ignored. Ok (w, mid))) (v, rest) e in
      let b = then_read-ok (f.reads a.0) (λ w ignored. Ok (w, a.1)) (v, rest) a.3 in
      let same : a.1 ≡ rest = done-rest b.0 v a.1 rest b.3 in
      (a.0, b.1, a.2 ∙ done-both a.0 a.0 a.1 rest refl same, b.2 ∙ done-both b.0 v b.1 b.1 (done-value b.0 v a.1 rest b.3) refl)

  pub beginning-found : (v : A) (bytes rest : List ℕ) → beginning_reads part f bytes ≡ Ok (v, rest) → beginning_Spells part f v bytes rest
  beginning-found v bytes rest e =
      let a = beginning-from v bytes rest e in (a.0, a.1, part.found a.0 bytes rest a.2, f.found v a.0 a.1 a.3)

  pub beginning-only : (v : A) (bytes rest : List ℕ) → beginning_Spells part f v bytes rest → beginning_reads part f bytes ≡ Ok (v, rest)
  beginning-only v bytes rest s = rw (part.only s.0 bytes rest s.2, f.only v s.0 s.1 s.3) refl

  pub beginning-front : (v : A) (bytes rest : List ℕ) → beginning_reads part f bytes ≡ Ok (v, rest) → IsTail rest bytes
  beginning-front v bytes rest e = let a = beginning-from v bytes rest e in part.front a.0 bytes rest a.2

  -- the whole of a part is also its beginning
  pub whole-beginning : (v : A) (bytes rest : List ℕ) → within_Spells part f v bytes rest → beginning_Spells part f v bytes rest
  whole-beginning v bytes rest s = (s.0, [], s.1, s.2)

-- ---- the rest of the bytes

pub rest-found : (c bytes rest : List ℕ) → ◌≡◌ {A = Reading (List ℕ)} (Ok (bytes, [])) (Ok (c, rest)) → (bytes ≡ c) × (rest ≡ [])
rest-found c bytes rest e = (done-value bytes c [] rest e, sym (done-rest bytes c [] rest e))

pub rest-only : (c bytes rest : List ℕ) → (bytes ≡ c) × (rest ≡ []) → ◌≡◌ {A = Reading (List ℕ)} (Ok (bytes, [])) (Ok (c, rest))
rest-only c bytes rest s = done-both bytes c [] rest s.0 (sym s.1)

pub rest-front : (c bytes rest : List ℕ) → ◌≡◌ {A = Reading (List ℕ)} (Ok (bytes, [])) (Ok (c, rest)) → IsTail rest bytes
rest-front c bytes rest e = record { front = bytes; parts = rw (← done-rest bytes c [] rest e) (sym (append-nil bytes)) }

-- ---- the form that no bytes have

pub refuse-none : {A : Type 0} {P : Type 0} (fault : FaultKind) (v : A) (bytes rest : List ℕ) → ◌≡◌ {A = Reading A} (Err fault) (Ok (v, rest)) → P
refuse-none fault v bytes rest e = absurd cc
