-- Changes in the layouts that servers send.
use Rattle.std.proofs.Common.{◌≡◌, ◌≢◌, ◌==◌, ◌&&◌, ◌+◌, ◌<◌, ◌≤◌, ℕ, List, [], length, Some, Result, Ok, Err, IfOk, Bool, true, false, if◌then◌else◌, refl, sym, ◌∙◌, ap, subst, arith}
use Rattle.std.proofs.lemmas.List.{length-append}
use Rattle.mysql_wire.specs.declared.fault.FaultOf.{FaultOf}
use Rattle.mysql_wire.specs.declared.fault.FaultOf.TheVariants as fault
use Rattle.mysql_wire.specs.LenEnc.{lenenc_string}
use Rattle.mysql_wire.specs.Form.{Form, number, bytes as so_many_bytes}
use Rattle.mysql_wire.specs.ConstantValue.{coded as coded_value}
use Rattle.mysql_wire.specs.Codecs.{coded}
use Rattle.mysql_wire.specs.SessionStateType.{session_state_type_code, session_state_type_of, session_state_type-again}
use Rattle.mysql_wire.specs.declared.codes.session_state_type.SessionStateType.{SessionStateType}
use Rattle.mysql_wire.specs.declared.constant_value.Const.{Const}
use Rattle.mysql_wire.specs.Reading.{Reading, Answers, Faults, IsTail, then_read, then_read-ok, done-rest}
use Rattle.mysql_session.specs.declared.session_state_change.SessionStateChange.{SessionStateChange}
use Rattle.mysql_session.specs.SessionStateChange.{session_state_change}
use Rattle.mysql_replies.specs.SentGtids.{sent_gtids}
use Rattle.mysql_replies.specs.declared.session_state_info.SessionStateInfo.{SessionStateInfo}
use Rattle.mysql_replies.specs.SessionStateInfo.{session_state_info, decoded, front_of, data_type, data_bytes}
use Rattle.mysql_replies.specs.SessionStateChanges.{is_state_change, is_gtids, gtids_of, sent_unless_read, decoded_as_sent, after_entry, ChangeOf, NextOf}

-- ---- the next change

no-longer : (tail bytes : List ℕ) → IsTail tail bytes → length tail ≤ length bytes
no-longer tail bytes t = rw (t.parts, length-append) (omega arith)

-- a string leaves no more bytes than there are
pub string_shorter : (bytes content rest : List ℕ) → lenenc_string.reads bytes ≡ Ok (content, rest) → length rest ≤ length bytes
string_shorter bytes content rest e = no-longer rest bytes (lenenc_string.front content bytes rest e)

-- a code of one byte and a string take at least a byte
pub coded_shorter : {K A : Type 0} (code : Form K) (make : K → List ℕ → A) → ((k : K) (bytes rest : List ℕ) → code.reads bytes ≡ Ok (k, rest) → length bytes ≡ 1 + length rest)
    → (bytes rest : List ℕ) (a : A) → then_read (code.reads bytes) (λ t mid. then_read (lenenc_string.reads mid) (λ c left. Ok (make t c, left))) ≡ Ok (a, rest) → length rest < length bytes
coded_shorter code make exact bytes rest a e =
    let r = then_read-ok (code.reads bytes) (λ t mid. then_read (lenenc_string.reads mid) (λ c left. Ok (make t c, left))) (a, rest) e in
    let s = then_read-ok (lenenc_string.reads r.1) (λ c left. Ok (make r.0 c, left)) (a, rest) r.3 in
    let same : s.1 ≡ rest = done-rest (make r.0 s.0) a s.1 rest s.3 in
    omega (arith, exact r.0 bytes r.1 r.2, string_shorter r.1 s.0 s.1 s.2, ap length same)

type_form : Form (Const SessionStateType ℕ)
type_form = (coded session_state_type_code session_state_type_of session_state_type-again).form (tt {0})

-- an entry takes at least a byte
pub entry_shorter : (bytes rest : List ℕ) (i : SessionStateInfo) → (session_state_info.form tt).reads bytes ≡ Ok (i, rest) → length rest < length bytes
unfolding session_state_info type_form coded_value number so_many_bytes
entry_shorter bytes rest i e = coded_shorter type_form (λ t c. record { data_type = t; content = c }) type_form.sized.exact bytes rest i e

goes-on : (takes : SessionStateInfo → Bool) (bytes rest : List ℕ) (read : Reading SessionStateInfo) (i : SessionStateInfo) (r : Result SessionStateChange FaultOf) → read ≡ Ok (i, rest)
    → Answers (takes i) r [] (decoded_as_sent i) → ChangeOf takes bytes read r rest
goes-on takes bytes rest read i r e answers = subst (λ x. ChangeOf takes bytes x r rest) (sym e) (answers, refl)

faulty : (takes : SessionStateInfo → Bool) (bytes rest : List ℕ) (read : Reading SessionStateInfo) (e : FaultOf) → Faults {A = SessionStateInfo} false e read → rest ≡ after_entry bytes
    → ChangeOf takes bytes read (Err e) rest
faulty takes bytes rest read fault.Memory h goes = absurd cc
faulty takes bytes rest read fault.UnexpectedEof h goes = subst (λ x. ChangeOf takes bytes x (Err fault.UnexpectedEof) rest) (sym h) (refl, goes)
faulty takes bytes rest read (fault.InvalidData text) h goes = subst (λ x. ChangeOf takes bytes x (Err (fault.InvalidData text)) rest) (sym h) (refl, goes)
faulty takes bytes rest read (fault.InvalidInput text) h goes = subst (λ x. ChangeOf takes bytes x (Err (fault.InvalidInput text)) rest) (sym h) (refl, goes)

pub read-next : (takes : SessionStateInfo → Bool) (bytes rest : List ℕ) (i : SessionStateInfo) (r : Result SessionStateChange FaultOf) → bytes ≢ []
    → (session_state_info.form tt).reads bytes ≡ Ok (i, rest) → Answers (takes i) r [] (decoded_as_sent i) → NextOf takes bytes (Some r) rest
read-next takes bytes rest i r some e answers = (some, goes-on takes bytes rest ((session_state_info.form tt).reads bytes) i r e answers)

pub fault-next : (takes : SessionStateInfo → Bool) (bytes rest : List ℕ) (e : FaultOf) → bytes ≢ [] → Faults {A = SessionStateInfo} false e ((session_state_info.form tt).reads bytes)
    → rest ≡ after_entry bytes → NextOf takes bytes (Some (Err e)) rest
fault-next takes bytes rest e some h goes = (some, faulty takes bytes rest ((session_state_info.form tt).reads bytes) e h goes)

pub ruleset entries_shorter = (string_shorter, entry_shorter)

pub ruleset next_changes = (read-next, fault-next)

-- ---- a change in the written layout

kept : (one : Bool) (bytes : List ℕ) (read : Reading SessionStateChange) (change : SessionStateChange) → read ≡ Ok (change, []) → sent_unless_read one bytes read ≡ Ok (change, [])
kept one bytes read change e = subst (λ r. sent_unless_read one bytes r ≡ Ok (change, [])) (sym e) refl

not-gtids : (b : Bool) (gtids other : Reading SessionStateChange) → b ≡ false → ◌≡◌ {A = Reading SessionStateChange} (if b then gtids else other) other
not-gtids true gtids other e = absurd cc
not-gtids false gtids other e = refl

pub as_sent : (i : SessionStateInfo) (change : SessionStateChange) → is_gtids (data_type i) ≡ false → decoded i ≡ Ok (change, []) → decoded_as_sent i ≡ Ok (change, [])
as_sent i change other e =
    not-gtids (is_gtids (data_type i)) (gtids_of ((sent_gtids.form tt).reads (data_bytes i))) _ other
    ∙ kept (is_state_change (data_type i) && (length (data_bytes i) == 1)) (data_bytes i) (front_of ((session_state_change (data_type i)).reads (data_bytes i))) change e

-- ---- a value read from a front is spelled there

pub front-spelled : (kind : SessionStateType) (i : SessionStateInfo) (r : Result SessionStateChange FaultOf) (old new : List ℕ) → data_type i ≡ kind → data_bytes i ≡ old
    → IfOk r (λ change. (session_state_change kind).Spells change old new)
    → IfOk r (λ change. (rest : List ℕ) × (session_state_change (data_type i)).Spells change (data_bytes i) rest)
front-spelled kind i (Ok change) old new p q h = rw (p, q) (new, h)
front-spelled kind i (Err e) old new p q h = tt
