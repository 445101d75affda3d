-- The attributes of a query, one by one.
use Rattle.std.proofs.Common.{◌≡◌, ℕ, zero, suc, ◌<◌, ◌-◌, List, [], ◌∷◌, Option, Some, None, Ok, Err, false, refl, sym, subst, ap, ◌∙◌, arith}
use Rattle.mysql_stmt.specs.Attributes.{Attribute, AttributesLeft, IsGood, attributes_read, more}
use Rattle.mysql_wire.specs.declared.fault.FaultOf.{FaultOf}
use Rattle.mysql_wire.specs.declared.fault.FaultOf.TheVariants as fault
use Rattle.mysql_wire.specs.Reading.{Reading, Faults}
use Rattle.mysql_packets_c.specs.Code.{fault_code}
use Rattle.mysql_packets_c.specs.QueryAttribute.{AttributeInto, Gives, at}
use Rattle.mysql_packets_c.specs.declared.parameter.CParameter.{CParameter}

good-later : (later : Reading (List Attribute)) (a : Attribute) (items : List Attribute) (rest : List ℕ) → more a later ≡ Ok (items, rest)
    → (items ≡ a ∷ attributes_read later) × ((r : List ℕ) × (later ≡ Ok (attributes_read later, r)))
good-later (Ok x) a items rest e =
    let h : (a ∷ x.0, x.1) ≡ (items, rest) = cc in
    (sym (ap (λ (p : List Attribute × List ℕ). p.0) h), (x.1, refl))
good-later (Err k) a items rest e = absurd cc

-- the first of the rest, and the others
pub next-first : (old new : AttributesLeft) (a : Attribute) → IsGood old → old.all ≡ more a new.all → attributes_read old.all ≡ a ∷ attributes_read new.all
next-first old new a good e = (good-later new.all a (attributes_read old.all) good.0 (sym e ∙ good.1)).0

pub next-good : (old new : AttributesLeft) (a : Attribute) → IsGood old → old.all ≡ more a new.all → IsGood new
next-good old new a good e = (good-later new.all a (attributes_read old.all) good.0 (sym e ∙ good.1)).1

-- nothing is left
pub none-first : (old : AttributesLeft) (rest : List ℕ) → old.all ≡ Ok ([], rest) → attributes_read old.all ≡ []
none-first old rest e = ap attributes_read e

-- a valid one isn't refused
pub good-fault : (old : AttributesLeft) (e : FaultOf) → IsGood old → Faults false e old.all → ⊥
good-fault old fault.UnexpectedEof good h = cc (good.1, h)
good-fault old (fault.InvalidData text) good h = cc (good.1, h)
good-fault old (fault.InvalidInput text) good h = cc (good.1, h)
good-fault old fault.Memory good h = cc (h)

-- a later place
pub at-later : (list : List Attribute) (a : Attribute) (xs : List Attribute) (n : ℕ) → list ≡ a ∷ xs → 0 < n → at list n ≡ at xs (n - 1)
at-later list a xs zero e some = absurd (omega arith)
at-later list a xs (suc n) e some = rw e (ap (at xs) (omega arith))

pub at-first : (list : List Attribute) (a : Attribute) (xs : List Attribute) (n : ℕ) → list ≡ a ∷ xs → n ≡ 0 → at list n ≡ Some a
at-first list a xs n e none = rw (e, none) refl

pub at-none : (list : List Attribute) (n : ℕ) → list ≡ [] → at list n ≡ None
at-none list n e = rw e refl

-- the result
pub attribute-into : {A : Type 0} (attributes : A → List Attribute) (i : ℕ) (read : Reading A) (a : A) (rest : List ℕ) (x : Option Attribute) (code : ℕ) (old new : CParameter)
    → read ≡ Ok (a, rest) → at (attributes a) i ≡ x → Gives x code old new → AttributeInto attributes i read code old new
attribute-into attributes i read a rest x code old new e is h =
    subst (λ (r : _). AttributeInto attributes i r code old new) (sym e) (subst (λ (o : Option Attribute). Gives o code old new) (sym is) h)

pub attribute-fault : {A : Type 0} (attributes : A → List Attribute) (i : ℕ) (read : Reading A) (e : FaultOf) (old : CParameter) → Faults false e read → AttributeInto attributes i read (fault_code e) old old
attribute-fault attributes i read fault.UnexpectedEof old h = subst (λ (r : _). AttributeInto attributes i r 1 old old) (sym h) (refl, refl)
attribute-fault attributes i read (fault.InvalidData text) old h = subst (λ (r : _). AttributeInto attributes i r 2 old old) (sym h) (refl, refl)
attribute-fault attributes i read (fault.InvalidInput text) old h = subst (λ (r : _). AttributeInto attributes i r 3 old old) (sym h) (refl, refl)
attribute-fault attributes i read fault.Memory old h = absurd cc

pub ruleset attributes = (next-first, next-good, none-first, good-fault, at-later, at-first, at-none, attribute-into, attribute-fault)
