-- A loop that reads pairs into a map.
use Rattle.std.proofs.Common.{◌≡◌, ◌≢◌, ℕ, zero, suc, ◌+◌, ◌/◌, ◌<◌, ◌≤◌, List, [], ◌∷◌, ◌++◌, length, Ok, Err, Bool, true, false, refl, sym, ap, ◌∙◌, arith}
use Rattle.std.proofs.lemmas.Bool.{lt-ltb}
use Rattle.std.proofs.lemmas.List.{length-append}
use Rattle.std.specs.Cmp.Lexicographic.{pointwise}
use Rattle.std.specs.List.{list_any}
use Rattle.std.specs.Prelude.{nat_eq}
use Rattle.indexmap.specs.IndexMap.{insert_entry, insert_all}
use Rattle.mysql_wire.specs.declared.fault.FaultOf.{FaultOf}
use Rattle.mysql_wire.specs.declared.fault.FaultKind.{FaultKind}
use Rattle.mysql_wire.specs.Reading.{Reading, IsTail, then_read, Faults}
use Rattle.mysql_wire.specs.Form.{Form, bytes, number}
use Rattle.mysql_wire.specs.Int.{raw, byte}
use Rattle.mysql_wire.specs.LenEnc.{lenenc, lenenc_from, lenenc_string}
use Rattle.mysql_wire.specs.Many.{many}
use Rattle.mysql_wire.specs.Seq.{is_any}
use Rattle.mysql_auth.specs.AttributeBytes.{pairs_room}
use Rattle.mysql_auth.specs.Attributes.{Attribute, attribute}
use Rattle.mysql_auth.proofs.Merging.{new-last}
use Rattle.mysql_wire.proofs.ReadAll.{opened}
use Rattle.mysql_wire.proofs.Refused.{fault-same}

abbrev same : List ℕ → List ℕ → Bool
same = pointwise nat_eq

-- the pairs that are read, inserted into a map after these entries
abbrev pub put_after : List Attribute → Reading (List Attribute) → Reading (List Attribute)
put_after entries read = then_read read (λ pairs rest. Ok (insert_all same entries pairs, rest))

tail-not-longer : (tail bytes : List ℕ) → IsTail tail bytes → length tail ≤ length bytes
tail-not-longer tail bytes t = let e : length bytes ≡ length t.front + length tail = ap length t.parts ∙ length-append t.front tail in omega (arith, e)

-- a length-encoded string takes at least a byte
number-shorter : (n : ℕ) (bytes rest : List ℕ) → lenenc.Spells n bytes rest → length rest < length bytes
unfolding lenenc raw number bytes
number-shorter n bytes rest s =
    let first = byte.sized.exact s.0 bytes s.1 (byte.only s.0 bytes s.1 s.2) in
    let later = (lenenc_from s.0.0).front n s.1 rest ((lenenc_from s.0.0).only n s.1 rest s.3) in
    omega (arith, first, tail-not-longer rest s.1 later)

string-shorter : (content bytes rest : List ℕ) → lenenc_string.Spells content bytes rest → length rest < length bytes
unfolding lenenc_string raw bytes
string-shorter content bytes rest s =
    let content_after : length s.1 ≡ length content + length rest = ap length s.3.1 ∙ length-append content rest in
    omega (arith, number-shorter _ bytes s.1 s.2.2.2, content_after)

-- so a pair takes at least two
pub pair-takes-two : (p : Attribute) (bytes rest : List ℕ) → (attribute.form tt).reads bytes ≡ Ok (p, rest) → length rest + 2 ≤ length bytes
unfolding attribute
pair-takes-two p bytes rest e =
    let s = (attribute.form tt).found p bytes rest e in
    omega (arith, string-shorter s.0 bytes s.1 s.2, string-shorter s.3.0 s.1 s.3.1 s.3.2, ap length s.3.3.1)

pub pair-shorter : (p : Attribute) (bytes rest : List ℕ) → (attribute.form tt).reads bytes ≡ Ok (p, rest) → length rest < length bytes
pair-shorter p bytes rest e = omega (arith, pair-takes-two p bytes rest e)

abbrev pub f : Form Attribute
f = attribute.form tt

regroup : (entries : List Attribute) (p : Attribute) (read : Reading (List Attribute))
    → put_after entries (then_read read (λ pairs rest. Ok (p ∷ pairs, rest))) ≡ put_after (insert_entry same entries p.0 p.1) read
regroup entries p (Ok x) = refl
regroup entries p (Err e) = refl

-- one pair, and those after it
pub one-pair : (entries : List Attribute) (p : Attribute) (bytes after : List ℕ) → bytes ≢ [] → f.reads bytes ≡ Ok (p, after)
    → put_after (insert_entry same entries p.0 p.1) ((many f).reads after) ≡ put_after entries ((many f).reads bytes)
one-pair entries p bytes after some e = sym (rw (opened f bytes some, e, lt-ltb _ _ (pair-shorter p bytes after e)) (regroup entries p ((many f).reads after)))

-- no byte is left
pub no-pair : (entries : List Attribute) → put_after entries ((many f).reads []) ≡ Ok (entries, [])
unfolding many
no-pair entries = refl

pair-fails : (entries : List Attribute) (bytes : List ℕ) (e : FaultKind) → bytes ≢ [] → f.reads bytes ≡ Err e → put_after entries ((many f).reads bytes) ≡ Err e
pair-fails entries bytes e some h = rw (opened f bytes some, h) refl

-- the first pair with a fault
pub pair-faults : (entries : List Attribute) (bytes : List ℕ) (takes_memory : Bool) (e : FaultOf) → bytes ≢ [] → Faults false e (f.reads bytes) → Faults takes_memory e (put_after entries ((many f).reads bytes))
pair-faults entries bytes takes_memory e some h = fault-same takes_memory e (f.reads bytes) (put_after entries ((many f).reads bytes)) (λ k h. pair-fails entries bytes k some h) h

-- if bytes are left, there were some before
pub any-left : (bytes whole : List ℕ) → bytes ≢ [] → length bytes ≤ length whole → is_any (length whole) ≡ true
any-left [] whole some le = absurd (some refl)
any-left (b ∷ bytes) [] some le = absurd (omega (arith, le))
any-left (b ∷ bytes) (w ∷ whole) some le = refl

-- if a pair was read, the bytes can hold one
any-above : (n : ℕ) → 0 < n → is_any n ≡ true
any-above zero lt = absurd (omega (arith, lt))
any-above (suc n) lt = refl

pub any-held : (p : Attribute) (bytes rest whole : List ℕ) → length bytes ≤ length whole → f.reads bytes ≡ Ok (p, rest) → is_any (pairs_room (length whole)) ≡ true
any-held p bytes rest whole le e = any-above (length whole / 2) (omega (arith, pair-takes-two p bytes rest e, le))

-- a pair with a new key, and those after it
pub new-pair : (entries : List Attribute) (p : Attribute) (bytes after : List ℕ) → bytes ≢ [] → f.reads bytes ≡ Ok (p, after) → list_any (λ e. same p.0 e.0) entries ≡ false
    → put_after (entries ++ p ∷ []) ((many f).reads after) ≡ put_after entries ((many f).reads bytes)
new-pair entries p bytes after some e new =
    ap (λ (es : List Attribute). put_after es ((many f).reads after)) (sym (new-last entries p.0 p.1 new)) ∙ one-pair entries p bytes after some e

pub ruleset pair_loops = (one-pair, no-pair, pair-faults, pair-shorter, any-left)

pub ruleset new_pairs = (new-pair, no-pair, pair-faults, pair-shorter, any-left)
