-- The result for a value at the front of some bytes.
use Rattle.std.proofs.Common.{◌≡◌, ℕ, List, [], Ok, false, refl, sym, subst, ap, ◌∙◌}
use Rattle.mysql_wire.specs.declared.fault.FaultOf.{FaultOf}
use Rattle.mysql_wire.specs.declared.fault.FaultOf.TheVariants as fault
use Rattle.mysql_wire.specs.Reading.{Reading, Faults}
use Rattle.mysql_replies.specs.SessionStateChanges.{decoded_as_sent}
use Rattle.mysql_replies.specs.declared.session_state_info.SessionStateInfo.{SessionStateInfo}
use Rattle.mysql_session.specs.declared.session_state_change.SessionStateChange.{SessionStateChange}
use Rattle.mysql_packets_c.specs.Code.{fault_code}
use Rattle.mysql_packets_c.specs.SessionChange.{Entry, NextInto, entry_of, with_change}
use Rattle.mysql_packets_c.specs.declared.text.CBytes.{CBytes}

pub next-into : {A S : Type 0} (Holds : A → S → Type 0) (read : Reading A) (rest_old rest : CBytes) (old new : S) (v : A) (left : List ℕ)
    → read ≡ Ok (v, left) → rest.bytes.now ≡ left → Holds v new → NextInto Holds read 0 rest_old rest old new
next-into Holds read rest_old rest old new v left e r h = subst (λ (r : _). NextInto Holds r 0 rest_old rest old new) (sym e) (refl, r, h)

pub next-fault : {A S : Type 0} (Holds : A → S → Type 0) (read : Reading A) (rest : CBytes) (old : S) (e : FaultOf)
    → Faults false e read → NextInto Holds read (fault_code e) rest rest old old
next-fault Holds read rest old fault.UnexpectedEof h = subst (λ (r : _). NextInto Holds r 1 rest rest old old) (sym h) (refl, refl, refl)
next-fault Holds read rest old (fault.InvalidData text) h = subst (λ (r : _). NextInto Holds r 2 rest rest old old) (sym h) (refl, refl, refl)
next-fault Holds read rest old (fault.InvalidInput text) h = subst (λ (r : _). NextInto Holds r 3 rest rest old old) (sym h) (refl, refl, refl)
next-fault Holds read rest old fault.Memory h = absurd cc

-- an entry and its change
pub entry-read : (read : Reading SessionStateInfo) (info : SessionStateInfo) (left : List ℕ) (c : SessionStateChange)
    → read ≡ Ok (info, left) → decoded_as_sent info ≡ Ok (c, []) → entry_of read ≡ Ok ((info, c), left)
entry-read read info left c e d = ap entry_of e ∙ ap (λ r. with_change info left r) d

-- a refused entry
pub entry-fault : (read : Reading SessionStateInfo) (e : FaultOf) → Faults false e read → Faults {A = Entry} false e (entry_of read)
entry-fault read fault.UnexpectedEof h = ap entry_of h
entry-fault read (fault.InvalidData text) h = ap entry_of h
entry-fault read (fault.InvalidInput text) h = ap entry_of h
entry-fault read fault.Memory h = absurd cc

-- and a refused change
change-after : (info : SessionStateInfo) (left : List ℕ) (e : FaultOf) → Faults false e (decoded_as_sent info) → Faults {A = Entry} false e (with_change info left (decoded_as_sent info))
change-after info left fault.UnexpectedEof h = ap (λ r. with_change info left r) h
change-after info left (fault.InvalidData text) h = ap (λ r. with_change info left r) h
change-after info left (fault.InvalidInput text) h = ap (λ r. with_change info left r) h
change-after info left fault.Memory h = absurd cc

pub change-fault : (read : Reading SessionStateInfo) (info : SessionStateInfo) (left : List ℕ) (e : FaultOf)
    → read ≡ Ok (info, left) → Faults false e (decoded_as_sent info) → Faults {A = Entry} false e (entry_of read)
change-fault read info left e is h = subst (λ (r : Reading SessionStateInfo). Faults {A = Entry} false e (entry_of r)) (sym is) (change-after info left e h)

pub ruleset changes = (next-into, next-fault, entry-read, entry-fault, change-fault)
