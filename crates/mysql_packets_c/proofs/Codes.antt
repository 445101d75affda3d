-- The result of a reading.
use Rattle.std.proofs.Common.{◌≡◌, ℕ, List, Option, Ok, false, refl, sym, subst}
use Rattle.mysql_wire.specs.declared.fault.FaultOf.{FaultOf}
use Rattle.mysql_wire.specs.declared.fault.FaultOf.TheVariants as fault
use Rattle.mysql_wire.specs.Reading.{Reading, Faults}
use Rattle.mysql_packets_c.specs.Code.{ReadsInto, fault_code}
use Rattle.mysql_packets_c.specs.Input.{used_of}
use Rattle.mysql_packets_c.specs.Rows.{values_held, RowInto}
use Rattle.mysql_packets_c.specs.declared.value.CValue.{CValue}
use Rattle.mysql_values.specs.Value.{Content}

-- a value that was read into the struct's fields
pub read-into : {A S : Type 0} (Holds : A → List ℕ → S → Type 0) (read : Reading A) (old new : S) (v : A) (rest : List ℕ)
    → read ≡ Ok (v, rest) → Holds v rest new → ReadsInto Holds read 0 old new
read-into Holds read old new v rest e h = subst (λ (r : _). ReadsInto Holds r 0 old new) (sym e) (refl, h)

-- a fault of a reader that doesn't allocate
pub fault-into : {A S : Type 0} (Holds : A → List ℕ → S → Type 0) (read : Reading A) (old : S) (e : FaultOf)
    → Faults false e read → ReadsInto Holds read (fault_code e) old old
fault-into Holds read old fault.UnexpectedEof h = subst (λ (r : _). ReadsInto Holds r 1 old old) (sym h) (refl, refl)
fault-into Holds read old (fault.InvalidData text) h = subst (λ (r : _). ReadsInto Holds r 2 old old) (sym h) (refl, refl)
fault-into Holds read old (fault.InvalidInput text) h = subst (λ (r : _). ReadsInto Holds r 3 old old) (sym h) (refl, refl)
fault-into Holds read old fault.Memory h = absurd cc

-- the same for a row
pub row-into : (packet : List ℕ) (values : List CValue) (read : Reading (List (Option Content))) (old used : ℕ) (rest : List ℕ)
    → read ≡ Ok (values_held values, rest) → used ≡ used_of packet rest → RowInto packet values read 0 old used
row-into packet values read old used rest e u = subst (λ (r : _). RowInto packet values r 0 old used) (sym e) (refl, refl, u)

pub row-fault : (packet : List ℕ) (values : List CValue) (read : Reading (List (Option Content))) (old : ℕ) (e : FaultOf)
    → Faults false e read → RowInto packet values read (fault_code e) old old
row-fault packet values read old fault.UnexpectedEof h = subst (λ (r : _). RowInto packet values r 1 old old) (sym h) (refl, refl)
row-fault packet values read old (fault.InvalidData text) h = subst (λ (r : _). RowInto packet values r 2 old old) (sym h) (refl, refl)
row-fault packet values read old (fault.InvalidInput text) h = subst (λ (r : _). RowInto packet values r 3 old old) (sym h) (refl, refl)
row-fault packet values read old fault.Memory h = absurd cc

pub ruleset codes = (read-into, fault-into, row-into, row-fault)
