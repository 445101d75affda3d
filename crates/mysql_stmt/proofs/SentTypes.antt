-- Types are read one by one.
use Rattle.std.proofs.Common.{◌≡◌, ◌≢◌, ◌∙◌, sym, ap, subst, suc, ℕ, zero, ◌-◌, ◌+◌, ◌<◌, ◌≤◌, List, [], ◌∷◌, ◌++◌, append_assoc, get_or, set, drop, Ok, Bool, false, length, refl, arith}
use Rattle.std.proofs.lemmas.List.{drop_more, get_or_at, set_at, length-append}
use Rattle.mysql_wire.specs.declared.fault.FaultOf.{FaultOf}
use Rattle.mysql_wire.specs.Reading.{Faults, then_read, then_read-ok, done-rest, done-value}
use Rattle.mysql_wire.specs.Seq.{counted}
use Rattle.mysql_wire.proofs.Passed.{passed-fault}
use Rattle.mysql_wire.proofs.Refused.{no-fault}
use Rattle.mysql_stmt.specs.declared.execute_view.BoundParam.{BoundParam}
use Rattle.mysql_stmt.specs.SentTypes.{NamedType, HasTypes, passed_types, sent_type, under_types, types, types_in}

module _ (has_names : Bool) where
  -- ---- types that are present

  -- types that are passed are present
  pub are-there : (count : ℕ) (bytes rest : List ℕ) (x : Unit {0}) → (passed_types has_names count).reads bytes ≡ Ok (x, rest) → (types has_names count).reads bytes ≡ Ok (types_in has_names count bytes, rest)
  are-there count bytes rest x e =
      let r = then_read-ok ((types has_names count).reads bytes) (λ x rest. Ok (tt, rest)) (x, rest) e in
      let same : r.1 ≡ rest = done-rest tt x r.1 rest r.3 in
      let read : (types has_names count).reads bytes ≡ Ok (r.0, rest) = r.2 ∙ ap (λ (l : List ℕ). Ok (r.0, l)) same in
      rw read refl

  pub has-them : (count : ℕ) (bytes rest : List ℕ) → (types has_names count).reads bytes ≡ Ok (types_in has_names count bytes, rest) → HasTypes has_names count bytes
  has-them count bytes rest e = (types_in has_names count bytes, rest, e)

  -- the fault of passing them is that of reading them
  pub passing-fails : (count : ℕ) (bytes : List ℕ) (e : FaultOf) → Faults false e ((passed_types has_names count).reads bytes) → Faults false e ((types has_names count).reads bytes)
  passing-fails count bytes e h = passed-fault ((types has_names count).reads bytes) e h

  -- the requested number
  read-length : (count : ℕ) (bytes : List ℕ) (ts : List NamedType) (rest : List ℕ) → (types has_names count).reads bytes ≡ Ok (ts, rest) → length ts ≡ count
  unfolding counted
  read-length zero bytes ts rest e = let same : [] ≡ ts = done-value [] ts bytes rest e in ap length (sym same)
  read-length (suc n) bytes ts rest e =
      let one = then_read-ok ((sent_type has_names).reads bytes) (λ x mid. then_read ((types has_names n).reads mid) (λ xs rest. Ok (x ∷ xs, rest))) (ts, rest) e in
      let more = then_read-ok ((types has_names n).reads one.1) (λ xs rest. Ok (one.0 ∷ xs, rest)) (ts, rest) one.3 in
      ap length (sym (done-value (one.0 ∷ more.0) ts more.1 rest more.3)) ∙ ap suc (read-length n one.1 more.0 more.1 more.2)

  pub how-many : (count : ℕ) (bytes : List ℕ) → HasTypes has_names count bytes → length (types_in has_names count bytes) ≡ count
  how-many count bytes has = rw has.2 (read-length count bytes has.0 has.1 has.2)

  types-next : (count : ℕ) (bytes : List ℕ) (t : NamedType) (mid : List ℕ) → (sent_type has_names).reads bytes ≡ Ok (t, mid) → HasTypes has_names count mid
      → types_in has_names (suc count) bytes ≡ t ∷ types_in has_names count mid
  unfolding counted
  types-next count bytes t mid h has = rw (h, has.2) refl

  -- the first of the types is present, and the others follow it
  pub record FirstType (count : ℕ) (bytes : List ℕ) : Type 0 where
    pub t : NamedType
    pub mid : List ℕ
    pub read : (sent_type has_names).reads bytes ≡ Ok (t, mid)
    pub more : HasTypes has_names count mid
    pub parts : types_in has_names (suc count) bytes ≡ t ∷ types_in has_names count mid

  pub first-type : (count : ℕ) (bytes : List ℕ) → HasTypes has_names (suc count) bytes → FirstType count bytes
  unfolding counted
  first-type count bytes has =
      let one = then_read-ok ((sent_type has_names).reads bytes) (λ x mid. then_read ((types has_names count).reads mid) (λ xs rest. Ok (x ∷ xs, rest))) (has.0, has.1) has.2 in
      let more = then_read-ok ((types has_names count).reads one.1) (λ xs rest. Ok (one.0 ∷ xs, rest)) (has.0, has.1) one.3 in
      record { t = one.0; mid = one.1; read = one.2; more = (more.0, more.1, more.2); parts = types-next count bytes one.0 one.1 one.2 (more.0, more.1, more.2) }

  -- ---- one that is taken

  pub record Taken (left : ℕ) (bytes : List ℕ) (t : NamedType) (mid : List ℕ) : Type 0 where
    pub more : HasTypes has_names (left - 1) mid
    pub parts : types_in has_names left bytes ≡ t ∷ types_in has_names (left - 1) mid

  taken-first : (count : ℕ) (bytes : List ℕ) (t : NamedType) (mid : List ℕ) → HasTypes has_names (suc count) bytes → (sent_type has_names).reads bytes ≡ Ok (t, mid) → Taken (suc count) bytes t mid
  taken-first count bytes t mid has read =
      let f = first-type count bytes has in
      let same = sym f.read ∙ read in
      let one : suc count - 1 ≡ count = omega arith in
      let m = done-rest f.t t f.mid mid same in
      let v = done-value f.t t f.mid mid same in
      record {
        more = subst (λ (n : ℕ). HasTypes has_names n mid) (sym one) (subst (λ (l : List ℕ). HasTypes has_names count l) m f.more);
        parts = f.parts ∙ ap (λ (x : NamedType). x ∷ types_in has_names count f.mid) v ∙ ap (λ (l : List ℕ). t ∷ types_in has_names count l) m ∙ ap (λ (n : ℕ). t ∷ types_in has_names n mid) (sym one);
      }

  pub takes : (left : ℕ) (bytes at : List ℕ) (t : NamedType) (mid : List ℕ) → HasTypes has_names left bytes → left ≢ 0 → at ≡ bytes → (sent_type has_names).reads at ≡ Ok (t, mid) → Taken left bytes t mid
  takes zero bytes at t mid has some is read = absurd (some refl)
  takes (suc count) bytes at t mid has some is read = taken-first count bytes t mid has (subst (λ (l : List ℕ). (sent_type has_names).reads l ≡ Ok (t, mid)) is read)

  -- a type that is present is no fault
  pub never : (left : ℕ) (bytes at : List ℕ) (e : FaultOf) → HasTypes has_names left bytes → left ≢ 0 → at ≡ bytes → Faults false e ((sent_type has_names).reads at) → ⊥
  never zero bytes at e has some is f = absurd (some refl)
  never (suc count) bytes at e has some is f =
      let t = first-type count bytes has in
      no-fault e ((sent_type has_names).reads bytes) t.t t.mid t.read (subst (λ (l : List ℕ). Faults false e ((sent_type has_names).reads l)) is f)

  pub none-in : (left : ℕ) (bytes : List ℕ) → left ≡ 0 → types_in has_names left bytes ≡ []
  unfolding counted
  none-in zero bytes e = refl
  none-in (suc n) bytes e = absurd (omega (arith, e))

pub none-there : (has_names : Bool) (bytes : List ℕ) → HasTypes has_names 0 bytes
unfolding counted
none-there has_names bytes = ([], bytes, refl)

pub ruleset places = (are-there, has-them, passing-fails, how-many)

-- ---- parameters that get their types in order

-- these parameters have their types, and the others are unchanged
pub record Typed (init : List BoundParam) (start : List NamedType) (now : List BoundParam) (i : ℕ) (ts : List NamedType) : Type 0 where
  pub done : List BoundParam
  pub count : length done ≡ i
  pub now_is : now ≡ done ++ drop i init
  pub all : done ++ under_types (drop i init) ts ≡ under_types init start
  pub enough : length (drop i init) ≤ length ts

pub typed-more : (init : List BoundParam) (start : List NamedType) (now : List BoundParam) (i : ℕ) (ts more : List NamedType) (t : NamedType) (d : BoundParam)
    → i < length init → Typed init start now i ts → ts ≡ t ∷ more
    → Typed init start (set now i (record (get_or now i d) { param_type = t.param_type })) (i + 1) more
typed-more init start now i ts more t d lt h took =
    let p = get_or init i d in
    let q : BoundParam = record { param_type = t.param_type; is_sent_ahead = p.is_sent_ahead } in
    let ps = drop (i + 1) init in
    let e : drop i init ≡ p ∷ ps = drop_more init i d lt in
    let is : now ≡ h.done ++ p ∷ ps = h.now_is ∙ ap (λ (l : List BoundParam). h.done ++ l) e in
    let all : h.done ++ under_types (p ∷ ps) (t ∷ more) ≡ under_types init start = subst (λ (l : List BoundParam). h.done ++ under_types l (t ∷ more) ≡ under_types init start) e (subst (λ (l : List NamedType). h.done ++ under_types (drop i init) l ≡ under_types init start) took h.all) in
    let enough : length (p ∷ ps) ≤ length (t ∷ more) = subst (λ (l : List BoundParam). length l ≤ length (t ∷ more)) e (subst (λ (l : List NamedType). length (drop i init) ≤ length l) took h.enough) in
    record {
      done = h.done ++ q ∷ [];
      count = omega (arith, length-append h.done (q ∷ []), h.count);
      now_is = ap (λ (l : List BoundParam). set l i (record (get_or l i d) { param_type = t.param_type })) is
          ∙ ap (λ (x : BoundParam). set (h.done ++ p ∷ ps) i (record x { param_type = t.param_type })) (get_or_at h.done p ps d i h.count)
          ∙ set_at h.done p ps q i h.count ∙ sym (append_assoc h.done (q ∷ []) ps);
      all = append_assoc h.done (q ∷ []) (under_types ps more) ∙ all;
      enough = omega (arith, enough);
    }
