-- If a value of a list was read, or refused for memory, the bytes have space for one.
use Rattle.std.proofs.Common.{◌≡◌, ℕ, zero, suc, ◌+◌, ◌*◌, ◌/◌, ◌-◌, ◌^◌, ◌<◌, ◌≤◌, List, length, min, inl, inr, Option, Ok, Err, Bool, true, false, refl, ap, ◌∙◌, arith}
use Rattle.std.proofs.lemmas.List.{length-append}
use Rattle.mysql_wire.specs.declared.fault.FaultOf.{FaultOf}
use Rattle.mysql_wire.specs.declared.fault.FaultOf.TheVariants as fault
use Rattle.mysql_wire.specs.Form.{bytes, number}
use Rattle.mysql_wire.specs.Int.{le_u64, number_of, raw}
use Rattle.mysql_wire.specs.Reading.{Reading, IsTail, Faults}
use Rattle.mysql_wire.specs.Seq.{counted, counts_any, is_any, seq}
use Rattle.mysql_wire.specs.Varlen.{varlen, varlen_string}
use Rattle.mysql_repl.specs.declared.gno_interval.GnoInterval.{GnoInterval}
use Rattle.mysql_repl.specs.declared.sid.Sid.{Sid}
use Rattle.mysql_repl.specs.GnoInterval.{interval}
use Rattle.mysql_repl.specs.Space.{interval_space, least_len, space_in_sid}
use Rattle.mysql_repl.specs.Sid.{sid, tagged_sid, sid_as}
use Rattle.mysql_repl.specs.TagString.{tag_form}

any-above : (n : ℕ) → 0 < n → is_any n ≡ true
any-above zero lt = absurd (omega (arith, lt))
any-above (suc n) lt = refl

-- a fault is returned unchanged, and Memory if it is allowed
pub answered-as : {A B : Type 0} (b takes : Bool) (e : FaultOf) (one : Reading A) (read : Reading B) → (b ≡ true → takes ≡ true) → Faults b e one → Faults true e read → Faults takes e read
answered-as b takes fault.Memory one read may h k = may h
answered-as b takes fault.UnexpectedEof one read may h k = k
answered-as b takes (fault.InvalidData text) one read may h k = k
answered-as b takes (fault.InvalidInput text) one read may h k = k

-- ---- the number of bytes read

not-longer : (tail whole : List ℕ) → IsTail tail whole → length tail ≤ length whole
not-longer tail whole t = let e : length whole ≡ length t.front + length tail = ap length t.parts ∙ length-append t.front tail in omega (arith, e)

bytes-take : (n : ℕ) (c from rest : List ℕ) → (bytes n).Spells c from rest → length from ≡ n + length rest
unfolding bytes
bytes-take n c from rest s = let e : length from ≡ length c + length rest = ap length s.1 ∙ length-append c rest in omega (arith, e, s.0)

number-takes : (width n : ℕ) (from rest : List ℕ) → (number width).Spells n from rest → length from ≡ width + length rest
unfolding number
number-takes width n from rest s = bytes-take width s.0 from rest s.2

count-takes : (n : ℕ) (from rest : List ℕ) → (number_of le_u64).Spells n from rest → length from ≡ 8 + length rest
unfolding raw
count-takes n from rest s = number-takes 8 s.2.0 from rest s.2.2

varlen-takes : (n : ℕ) (from rest : List ℕ) → varlen.Spells n from rest → length rest < length from
unfolding varlen
varlen-takes n from rest s =
    elim s [
      | inl low ↦ omega (arith, number-takes (suc low.0) (n * 2 ^ suc low.0 + (2 ^ low.0 - 1)) from rest low.2)
      | inr nine ↦ omega (arith, number-takes 8 n nine.0 rest nine.2, ap length nine.1)
    ]

tag-takes : (tag : Option (List ℕ)) (from rest : List ℕ) → tag_form.Spells tag from rest → length rest < length from
unfolding tag_form varlen_string
tag-takes tag from rest s =
    let content = s.2 in
    omega (arith, varlen-takes content.0 from content.1 content.2, bytes-take content.0 s.0 content.1 rest content.3)

intervals-take : (list : List GnoInterval) (from rest : List ℕ) → (seq (number_of le_u64) (interval.form tt)).Spells list from rest → 8 + length rest ≤ length from
intervals-take list from rest s =
    let each = counted s.0 (interval.form tt) in
    omega (arith, count-takes s.0 from s.1 s.2, not-longer rest s.1 (each.front list s.1 rest (each.only list s.1 rest s.3)))

-- ---- a sid takes at least its own bytes

untagged-takes : (s : Sid) (from rest : List ℕ) → (sid.form tt).reads from ≡ Ok (s, rest) → 24 + length rest ≤ length from
unfolding sid
untagged-takes s from rest e =
    let p = (sid.form tt).found s from rest e in
    let named = p.3 in
    let list = named.3 in
    omega (arith, bytes-take 16 p.0 from p.1 p.2, ap length named.2.1, intervals-take list.0 named.1 list.1 list.2, ap length list.3.1)

tagged-takes : (s : Sid) (from rest : List ℕ) → (tagged_sid.form tt).reads from ≡ Ok (s, rest) → 25 + length rest ≤ length from
unfolding tagged_sid
tagged-takes s from rest e =
    let p = (tagged_sid.form tt).found s from rest e in
    let named = p.3 in
    let list = named.3 in
    omega (arith, bytes-take 16 p.0 from p.1 p.2, tag-takes named.0 p.1 named.1 named.2, intervals-take list.0 named.1 list.1 list.2, ap length list.3.1)

pub sid-takes : (tagged : Bool) (s : Sid) (from rest : List ℕ) → ((sid_as tagged).form tt).reads from ≡ Ok (s, rest) → least_len tagged + length rest ≤ length from
sid-takes true s from rest e = tagged-takes s from rest e
sid-takes false s from rest e = untagged-takes s from rest e

-- ---- if one may be refused for memory, its bytes are present

ok-of : (r : Reading ℕ) → counts_any r ≡ true → (x : ℕ × List ℕ) × (r ≡ Ok x)
ok-of (Ok x) h = (x, refl)
ok-of (Err e) h = absurd cc

some-above : (n : ℕ) → is_any n ≡ true → 0 < n
some-above zero h = absurd cc
some-above (suc n) h = omega arith

-- p: the count, the rest, the spelling of the count, and the space
interval_space-takes : (n : ℕ) (from rest : List ℕ) → interval_space.Spells n from rest → is_any n ≡ true → 24 ≤ length from
interval_space-takes n from rest p some =
    omega (arith, count-takes p.0 from p.1 p.2, some-above n some, p.3.0)

pub sid-space : (tagged : Bool) (from : List ℕ) → counts_any ((space_in_sid tagged).reads from) ≡ true → least_len tagged ≤ length from
sid-space false from h =
    let x = ok-of ((space_in_sid false).reads from) h in
    let some : is_any x.0.0 ≡ true = rw x.1 at h in
    let p = (space_in_sid false).found x.0.0 from x.0.1 x.1 in
    omega (arith, bytes-take 16 p.0 from p.1 p.2, interval_space-takes x.0.0 p.1 x.0.1 p.3 some)
sid-space true from h =
    let x = ok-of ((space_in_sid true).reads from) h in
    let some : is_any x.0.0 ≡ true = rw x.1 at h in
    let p = (space_in_sid true).found x.0.0 from x.0.1 x.1 in
    let named = p.3 in
    omega (arith, bytes-take 16 p.0 from p.1 p.2, tag-takes named.0 p.1 named.1 named.2, interval_space-takes x.0.0 named.1 x.0.1 named.3 some)

-- ---- so there is space for one

pub space-for_one : (tagged : Bool) (count at : ℕ) (left whole : List ℕ) → at < count → length left ≤ length whole → least_len tagged ≤ length left
    → is_any (min count (length whole / least_len tagged)) ≡ true
space-for_one true count at left whole lt le held = any-above (min count (length whole / 25)) (omega (arith, lt, le, held))
space-for_one false count at left whole lt le held = any-above (min count (length whole / 24)) (omega (arith, lt, le, held))
