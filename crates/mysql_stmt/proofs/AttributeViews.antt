-- Attributes are read one by one.
use Rattle.std.proofs.Common.{◌≡◌, ℕ, ◌+◌, ◌==◌, ◌↔◌, IsTrue, Bool, false, List, [], ◌∷◌, length, Ok, Err, refl, ap, subst, ◌∙◌, arith}
use Rattle.mysql_wire.specs.Each.{each}
use Rattle.mysql_wire.specs.Reading.{Reading, Faults, done-rest, then_read}
use Rattle.mysql_wire.specs.declared.fault.FaultKind.{FaultKind}
use Rattle.mysql_wire.specs.declared.fault.FaultOf.{FaultOf}
use Rattle.mysql_wire.proofs.Passed.{same-kind}
use Rattle.mysql_wire.proofs.Refused.{fault-same}
use Rattle.mysql_values.specs.ParamValue.{ParamContent}
use Rattle.mysql_stmt.specs.Bitmap.{cell}
use Rattle.mysql_stmt.proofs.NullBits.{is-one}
use Rattle.mysql_stmt.specs.Attributes.{Attribute, attributes_read, value_of, values, more}
use Rattle.mysql_stmt.specs.SentTypes.{NamedType}

-- the same reading, which only tests whether the attributes are present
abbrev pub passed : Reading (List Attribute) → Reading (Unit {0})
passed r = then_read r (λ x rest. Ok (tt, rest))

-- none is left
pub none-left : (nulls : List ℕ) (place : ℕ) (types : List NamedType) (bytes : List ℕ) → length types ≡ 0 → (values nulls place types).reads bytes ≡ Ok ([], bytes)
unfolding each
none-left nulls place [] bytes e = refl
none-left nulls place (t ∷ ts) bytes e = absurd (omega (arith, e))

module _ (nulls : List ℕ) (place : ℕ) (t : NamedType) (ts types : List NamedType) (bytes : List ℕ) (is_null : Bool) (starts : types ≡ t ∷ ts) (bit : IsTrue is_null ↔ (cell nulls place ≡ 1)) where
  null-test : is_null ≡ (cell nulls place == 1)
  null-test = is-one is_null (cell nulls place) bit

  -- the first of them
  pub first-read : (v : ParamContent) (mid : List ℕ) → (value_of is_null t.param_type).reads bytes ≡ Ok (v, mid)
      → (values nulls place types).reads bytes ≡ more (record { named_type = t; value = v }) ((values nulls (place + 1) ts).reads mid)
  unfolding each
  first-read v mid r =
      let read : (value_of (cell nulls place == 1) t.param_type).reads bytes ≡ Ok (v, mid) = subst (λ (b : Bool). (value_of b t.param_type).reads bytes ≡ Ok (v, mid)) null-test r in
      rw (starts, read) refl

  first-fails : (k : FaultKind) → (value_of is_null t.param_type).reads bytes ≡ Err k → (values nulls place types).reads bytes ≡ Err k
  unfolding each
  first-fails k r =
      let read : (value_of (cell nulls place == 1) t.param_type).reads bytes ≡ Err k = subst (λ (b : Bool). (value_of b t.param_type).reads bytes ≡ Err k) null-test r in
      rw (starts, read) refl

  -- its fault is that of all
  pub first-refused : (e : FaultOf) → Faults false e ((value_of is_null t.param_type).reads bytes) → Faults false e ((values nulls place types).reads bytes)
  first-refused e r = fault-same false e ((value_of is_null t.param_type).reads bytes) ((values nulls place types).reads bytes) first-fails r

-- ---- a loop over all of them

-- after reading past the same bytes, the fault is the same
same-fault : (all left : Reading (List Attribute)) (k : FaultKind) → passed all ≡ passed left → left ≡ Err k → all ≡ Err k
same-fault all left k same e = same-kind all k (same ∙ ap (λ (r : Reading (List Attribute)). passed r) e)

pub past-fault : (all left : Reading (List Attribute)) (e : FaultOf) → passed all ≡ passed left → Faults false e left → Faults false e all
past-fault all left e same r = fault-same false e left all (λ k r. same-fault all left k same r) r

-- if nothing is left, everything was read
read-to : (all : Reading (List Attribute)) (rest : List ℕ) → passed all ≡ Ok (tt, rest) → all ≡ Ok (attributes_read all, rest)
read-to (Ok x) rest e = ap (λ (l : List ℕ). Ok (x.0, l)) (done-rest tt tt x.1 rest e)
read-to (Err k) rest e = absurd cc

pub all-read : (all left : Reading (List Attribute)) (rest : List ℕ) → passed all ≡ passed left → left ≡ Ok ([], rest) → all ≡ Ok (attributes_read all, rest)
all-read all left rest same e = read-to all rest (same ∙ ap (λ (r : Reading (List Attribute)). passed r) e)
