-- Values that are skipped, and then read one by one.
use Rattle.std.proofs.Common.{◌≡◌, ℕ, suc, zero, ◌+◌, ◌-◌, ◌≤◌, List, [], ◌∷◌, ◌++◌, take, drop, length, Ok, Err, false, refl, sym, ap, subst, ◌∙◌, arith}
use Rattle.std.proofs.lemmas.List.{length-append, length-drop, take-append-drop}
use Rattle.std.proofs.Math.Seq.{drop-append_seam}
use Rattle.mysql_wire.specs.declared.fault.FaultOf.{FaultOf}
use Rattle.mysql_wire.specs.declared.fault.FaultKind.{FaultKind}
use Rattle.mysql_wire.specs.Form.{Form}
use Rattle.mysql_wire.specs.Reading.{Reading, Faults, IsTail, then_read, then_read-ok, done-value, done-rest}
use Rattle.mysql_wire.specs.Seq.{counted}
use Rattle.mysql_wire.proofs.Passed.{passed-fault}
use Rattle.mysql_wire.proofs.Refused.{kind-in}
use Rattle.mysql_repl.specs.InPlace.{items_read, items_in, passed, AreThere, StandIn}

-- ---- their places

passed-read : {A : Type 0} (f : Form A) (count : ℕ) (bytes rest : List ℕ) → passed ((counted count f).reads bytes) ≡ Ok (tt, rest) → (xs : List A) × ((counted count f).reads bytes ≡ Ok (xs, rest))
passed-read f count bytes rest e =
    let r = then_read-ok ((counted count f).reads bytes) (λ x rest. Ok (tt, rest)) (tt, rest) e in
    let same : r.1 ≡ rest = done-rest tt tt r.1 rest r.3 in
    (r.0, r.2 ∙ ap (λ (l : List ℕ). Ok (r.0, l)) same)

-- a tail is what is left after dropping some bytes
tail-dropped : (tail bytes : List ℕ) (n : ℕ) → IsTail tail bytes → n ≡ length bytes - length tail → (n ≤ length bytes) × (drop n bytes ≡ tail)
tail-dropped tail bytes n t is =
    let whole : length bytes ≡ length t.front + length tail = ap length t.parts ∙ length-append t.front tail in
    let front : n ≡ length t.front = omega (arith, whole, is) in
    (omega (arith, whole, is), ap (λ (l : List ℕ). drop n l) t.parts ∙ ap (λ (m : ℕ). drop m (t.front ++ tail)) front ∙ drop-append_seam t.front tail)

pub read-past : {A : Type 0} (f : Form A) (count : ℕ) (bytes rest : List ℕ) → passed ((counted count f).reads bytes) ≡ Ok (tt, rest)
    → (counted count f).reads bytes ≡ Ok (items_in f count bytes, rest)
read-past f count bytes rest e = let r = passed-read f count bytes rest e in rw r.1 refl

pub there : {A : Type 0} (f : Form A) (count n : ℕ) (bytes rest : List ℕ) → passed ((counted count f).reads bytes) ≡ Ok (tt, rest) → n ≡ length bytes - length rest
    → AreThere f count n bytes
there f count n bytes rest e is =
    let read = read-past f count bytes rest e in
    let d = tail-dropped rest bytes n ((counted count f).front (items_in f count bytes) bytes rest read) is in
    (d.0, read ∙ ap (λ (l : List ℕ). Ok (items_in f count bytes, l)) (sym d.1))

pub past-fault : {A : Type 0} (f : Form A) (count : ℕ) (bytes : List ℕ) (e : FaultOf) → Faults false e (passed ((counted count f).reads bytes)) → Faults false e ((counted count f).reads bytes)
past-fault f count bytes e h = passed-fault ((counted count f).reads bytes) e h

-- ---- one by one

opened : {A : Type 0} (f : Form A) (n : ℕ) (bytes mid : List ℕ) (x : A) → f.reads bytes ≡ Ok (x, mid) → (counted (suc n) f).reads bytes ≡ then_read ((counted n f).reads mid) (λ xs rest. Ok (x ∷ xs, rest))
unfolding counted
opened f n bytes mid x h = rw h refl

parts-of : {A : Type 0} (x : A) (total after : Reading (List A)) (end : List ℕ) → total ≡ then_read after (λ xs rest. Ok (x ∷ xs, rest)) → total ≡ Ok (items_read total, end)
    → (after ≡ Ok (items_read after, end)) × (items_read total ≡ x ∷ items_read after)
parts-of {A} x total (Ok y) end e w =
    let same : ◌≡◌ {A = Reading (List A)} (Ok (x ∷ y.0, y.1)) (Ok (items_read total, end)) = sym e ∙ w in
    (ap (λ (l : List ℕ). Ok (y.0, l)) (done-rest (x ∷ y.0) (items_read total) y.1 end same), sym (done-value (x ∷ y.0) (items_read total) y.1 end same))
parts-of {A} x total (Err k) end e w =
    let same : ◌≡◌ {A = Reading (List A)} (Err k) (Ok (items_read total, end)) = sym e ∙ w in
    absurd cc

parts : {A : Type 0} (f : Form A) (n len : ℕ) (bytes mid : List ℕ) (x : A) → AreThere f (suc n) len bytes → f.reads bytes ≡ Ok (x, mid)
    → ((counted n f).reads mid ≡ Ok (items_in f n mid, drop len bytes)) × (items_in f (suc n) bytes ≡ x ∷ items_in f n mid)
parts f n len bytes mid x h e = parts-of x ((counted (suc n) f).reads bytes) ((counted n f).reads mid) (drop len bytes) (opened f n bytes mid x e) h.1

others-there : {A : Type 0} (f : Form A) (n len left : ℕ) (bytes mid : List ℕ) (x : A) → AreThere f (suc n) len bytes → f.reads bytes ≡ Ok (x, mid) → left ≡ len - (length bytes - length mid)
    → AreThere f n left mid
others-there f n len left bytes mid x h e is =
    let p = parts f n len bytes mid x h e in
    let front : IsTail mid bytes = f.front x bytes mid e in
    let whole : length bytes ≡ length front.front + length mid = ap length front.parts ∙ length-append front.front mid in
    let t : IsTail (drop len bytes) mid = (counted n f).front (items_in f n mid) mid (drop len bytes) p.0 in
    let others : length mid ≡ length t.front + length (drop len bytes) = ap length t.parts ∙ length-append t.front (drop len bytes) in
    let dropped : length (drop len bytes) ≡ length bytes - len = length-drop len bytes in
    let taken : left ≡ length mid - length (drop len bytes) = omega (arith, whole, others, dropped, is, h.0) in
    let d = tail-dropped (drop len bytes) mid left t taken in
    (d.0, p.0 ∙ ap (λ (l : List ℕ). Ok (items_in f n mid, l)) (sym d.1))

pub first-item : {A : Type 0} (f : Form A) (count len m : ℕ) (bytes mid : List ℕ) (x : A) → (count ≡ 0 → ⊥) → m ≡ count - 1 → AreThere f count len bytes → f.reads bytes ≡ Ok (x, mid)
    → items_in f count bytes ≡ x ∷ items_in f m mid
first-item f zero len m bytes mid x some less h e = absurd (some refl)
first-item {A} f (suc n) len m bytes mid x some less h e =
    let one : n ≡ m = omega (arith, less) in
    (parts f n len bytes mid x h e).1 ∙ ap (λ (k : ℕ). x ∷ items_in f k mid) one

pub other-items : {A : Type 0} (f : Form A) (count len m left : ℕ) (bytes mid : List ℕ) (x : A) → (count ≡ 0 → ⊥) → m ≡ count - 1 → AreThere f count len bytes → f.reads bytes ≡ Ok (x, mid)
    → left ≡ len - (length bytes - length mid) → AreThere f m left mid
other-items f zero len m left bytes mid x some less h e is = absurd (some refl)
other-items f (suc n) len m left bytes mid x some less h e is =
    let one : n ≡ m = omega (arith, less) in
    subst (λ (k : ℕ). AreThere f k left mid) one (others-there f n len left bytes mid x h e is)

pub no-item : {A : Type 0} (f : Form A) (count : ℕ) (bytes : List ℕ) → count ≡ 0 → items_in f count bytes ≡ []
unfolding counted
no-item f count bytes none = rw none refl

not-there : {A : Type 0} (f : Form A) (n len : ℕ) (bytes : List ℕ) (k : FaultKind) → AreThere f (suc n) len bytes → f.reads bytes ≡ Err k → ⊥
unfolding counted
not-there {A} f n len bytes k h e =
    let fails : (counted (suc n) f).reads bytes ≡ Err k = rw e refl in
    let same : ◌≡◌ {A = Reading (List A)} (Err k) (Ok (items_in f (suc n) bytes, drop len bytes)) = sym fails ∙ h.1 in
    absurd cc

never-fails : {A : Type 0} (f : Form A) (n len : ℕ) (bytes : List ℕ) (e : FaultOf) → AreThere f (suc n) len bytes → Faults false e (f.reads bytes) → ⊥
never-fails f n len bytes e h r = let k = kind-in e (f.reads bytes) r in not-there f n len bytes k.0 h k.1

-- if there are values, the first one is no fault
pub none-refused : {A : Type 0} (f : Form A) (count len : ℕ) (bytes : List ℕ) (e : FaultOf) → (count ≡ 0 → ⊥) → AreThere f count len bytes → Faults false e (f.reads bytes) → ⊥
none-refused f zero len bytes e some h r = absurd (some refl)
none-refused f (suc n) len bytes e some h r = never-fails f n len bytes e h r

-- ---- their number

longer : {A : Type 0} (x : A) (after : Reading (List A)) (y : List A × List ℕ) → then_read after (λ xs rest. Ok (x ∷ xs, rest)) ≡ Ok y → (xs : List A) × (after ≡ Ok (xs, y.1)) × (y.0 ≡ x ∷ xs)
longer x after y e =
    let r = then_read-ok after (λ xs rest. Ok (x ∷ xs, rest)) y e in
    (r.0, r.2 ∙ ap (λ (l : List ℕ). Ok (r.0, l)) (done-rest (x ∷ r.0) y.0 r.1 y.1 r.3), sym (done-value (x ∷ r.0) y.0 r.1 y.1 r.3))

pub length-counted : {A : Type 0} (f : Form A) (n : ℕ) (bytes rest : List ℕ) (xs : List A) → (counted n f).reads bytes ≡ Ok (xs, rest) → length xs ≡ n
unfolding counted
length-counted f zero bytes rest xs e = ap length (sym (done-value [] xs bytes rest e))
length-counted f (suc n) bytes rest xs e =
    let r = then_read-ok (f.reads bytes) (λ x mid. then_read ((counted n f).reads mid) (λ ys left. Ok (x ∷ ys, left))) (xs, rest) e in
    let p = longer r.0 ((counted n f).reads r.1) (xs, rest) r.3 in
    ap length p.2 ∙ ap suc (length-counted f n r.1 rest p.0 p.1)

pub many-there : {A : Type 0} (f : Form A) (count len : ℕ) (bytes : List ℕ) → AreThere f count len bytes → length (items_in f count bytes) ≡ count
many-there f count len bytes h = length-counted f count bytes (drop len bytes) (items_in f count bytes) h.1

-- they are at their place, whatever follows
pub in-place : {A : Type 0} (f : Form A) (count len : ℕ) (bytes : List ℕ) (items : List A) (place : List ℕ) → AreThere f count len bytes → place ≡ take len bytes → items_in f count bytes ≡ items
    → StandIn f (length items) place items
in-place f count len bytes items place h is same =
    let whole : place ++ drop len bytes ≡ bytes = ap (λ (l : List ℕ). l ++ drop len bytes) is ∙ take-append-drop len bytes in
    let many : length items ≡ count = ap length (sym same) ∙ many-there f count len bytes h in
    (drop len bytes, ap (λ (n : ℕ). (counted n f).reads (place ++ drop len bytes)) many ∙ ap (counted count f).reads whole ∙ h.1 ∙ ap (λ (l : List _). Ok (l, drop len bytes)) same)

-- no values are at any place
pub none-stand : {A : Type 0} (f : Form A) (items : List A) (place : List ℕ) → items ≡ [] → place ≡ [] → StandIn f (length items) place items
unfolding counted
none-stand f items place none empty = rw (none, empty) ([], refl)

-- if some are left there is one
pub some-left : {A : Type 0} (f : Form A) (count len : ℕ) (bytes : List ℕ) → (count ≡ 0 → ⊥) → AreThere f count len bytes → items_in f count bytes ≡ [] → ⊥
some-left f count len bytes some h none = some (sym (many-there f count len bytes h) ∙ ap length none)

pub ruleset standing = (some-left)

pub ruleset places = (read-past, there, past-fault)

pub ruleset how_many = (many-there)

pub ruleset one_by_one = (first-item, other-items, no-item, none-refused)
