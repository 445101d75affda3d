-- A fault that is appended.
use Rattle.std.proofs.Common.{◌≡◌, ℕ, List, [], ◌++◌, Result, Ok, Err, OnOk, refl, ap, append_assoc, append-nil, sym, ◌∙◌}
use Rattle.mysql_wire.specs.declared.fault.FaultOf.{FaultOf}
use Rattle.mysql_show.specs.Fields.{Said}
use Rattle.mysql_recorder.specs.RecordFields.{BeginsWith, HasFault}
use Rattle.mysql_recorder.specs.ValueFields.{fault_text, refused_at, unread_fields}

pub begins_none : (first : List Said) → BeginsWith first first
begins_none first = ([], sym (append-nil first))

-- fields, and then a fault with the bytes from there on
pub fault_after : {E : Type 0} (r : Result (Unit {0}) E) (e : FaultOf) (first mid all : List Said) (rest : List ℕ) → BeginsWith first mid → OnOk r (all ≡ mid ++ refused_at (fault_text e) rest)
    → OnOk r ((fields : List Said) × HasFault e fields × (all ≡ first ++ fields))
fault_after (Ok u) e first mid all rest begins end = (
  begins.0 ++ refused_at (fault_text e) rest,
  (begins.0, unread_fields rest, refl),
  end ∙ ap (λ q. q ++ refused_at (fault_text e) rest) begins.1 ∙ append_assoc first begins.0 (refused_at (fault_text e) rest),
)
fault_after (Err d) e first mid all rest begins end = tt

-- a fault alone
pub fault_alone : {E : Type 0} (r : Result (Unit {0}) E) (e : FaultOf) (first all : List Said) (rest : List ℕ) → OnOk r (all ≡ first ++ refused_at (fault_text e) rest)
    → OnOk r ((fields : List Said) × HasFault e fields × (all ≡ first ++ fields))
fault_alone r e first all rest end = fault_after r e first first all rest (begins_none first) end
