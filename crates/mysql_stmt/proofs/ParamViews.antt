-- An execution read parameter by parameter: one parameter, and those after it.
use Rattle.std.proofs.Common.{◌≡◌, ◌≢◌, ◌∙◌, sym, ap, subst, suc, zero, ℕ, ◌+◌, ◌==◌, ◌↔◌, List, [], ◌∷◌, Result, Ok, Err, Bool, true, false, IsTrue, length, drop, replicate, refl, arith, zero-add}
use Rattle.std.proofs.lemmas.List.{length-replicate}
use Rattle.mysql_wire.specs.Flags.{CapabilityFlags}
use Rattle.mysql_wire.specs.declared.fault.FaultOf.{FaultOf}
use Rattle.mysql_wire.specs.declared.fault.FaultKind.{FaultKind}
use Rattle.mysql_wire.specs.Reading.{Reading, Faults, IsTail, then_read}
use Rattle.mysql_wire.specs.Each.{each}
use Rattle.mysql_wire.proofs.Refused.{fault-same, kind-in}
use Rattle.mysql_values.specs.declared.param_type.ParamType.{ParamType}
use Rattle.mysql_stmt.specs.BindFront.{BindFront}
use Rattle.mysql_stmt.specs.Bitmap.{cell}
use Rattle.mysql_stmt.specs.ExecuteBytes.{Suffice}
use Rattle.mysql_stmt.specs.ExecuteParam.{Param}
use Rattle.mysql_stmt.specs.ExecuteRead.{BoundType, Gives, ParamsBytes, ParamsLeft, RefusesParam, TakesInForce, TypedParam, bytes_after, execution, execution_front, execution_of, in_force, left_of, param_form, params_left, params_of, params_to, typed_param}
use Rattle.mysql_stmt.specs.SentTypes.{NamedType}
use Rattle.mysql_stmt.specs.declared.execute_view.BoundParam.{BoundParam}
use Rattle.mysql_stmt.specs.OneByOne.{Several, several_in, then_several}
use Rattle.mysql_stmt.proofs.OneByOne.{none-before, one-more, same-end, same-tails}
use Rattle.mysql_stmt.proofs.NullBits.{is-one}

-- no parameter is left
pub no-param : (s : Bool) (nulls : List ℕ) (place : ℕ) (ps : List BoundParam) (ts : List NamedType) (bytes : List ℕ) → length ps ≡ 0
    → ((several_in (typed_param nulls) place (in_force s ps ts) bytes).read ≡ []) × ((several_in (typed_param nulls) place (in_force s ps ts) bytes).end ≡ Ok bytes)
unfolding several_in
no-param s nulls place [] ts bytes e = (refl, refl)
no-param s nulls place (p ∷ ps) ts bytes e = absurd (omega (arith, e))

-- ---- all of them

pushed : (v : TypedParam) (params : List TypedParam) (end : Result (List ℕ) FaultKind) → then_read (params_to params end) (λ xs rest. Ok (v ∷ xs, rest)) ≡ params_to (v ∷ params) end
pushed v params (Ok rest) = refl
pushed v params (Err e) = refl

step : (read : Reading TypedParam) (next : List ℕ → Several TypedParam) (tail : List ℕ → Reading (List TypedParam)) → ((bytes : List ℕ) → tail bytes ≡ params_to (next bytes).read (next bytes).end)
    → then_read read (λ x mid. then_read (tail mid) (λ xs rest. Ok (x ∷ xs, rest))) ≡ params_to (then_several read next).read (then_several read next).end
step (Ok x) next tail h = rw (h x.1) (pushed x.0 (next x.1).read (next x.1).end)
step (Err e) next tail h = refl

-- reading one by one is reading all
pub all-params : (nulls : List ℕ) (place : ℕ) (ps : List BoundType) (bytes : List ℕ)
    → (each (typed_param nulls) place ps).reads bytes ≡ params_to (several_in (typed_param nulls) place ps bytes).read (several_in (typed_param nulls) place ps bytes).end
unfolding each several_in
all-params nulls place [] bytes = refl
all-params nulls place (p ∷ ps) bytes = step ((typed_param nulls place p).reads bytes) (several_in (typed_param nulls) (place + 1) ps) (λ mid. (each (typed_param nulls) (place + 1) ps).reads mid) (λ mid. all-params nulls (place + 1) ps mid)

-- ---- the types that are in force

abbrev pub under : BoundParam → NamedType → BoundType
under p t = record { named_type = t; is_sent_ahead = p.is_sent_ahead }

-- the first type is the same if the lists are
pub in-force : {ts again : List NamedType} {t named : NamedType} (s : Bool) (earlier : ParamType) (left : List NamedType) → again ≡ ts → named ≡ t → TakesInForce s earlier again named left → TakesInForce s earlier ts t left
in-force {again} {t} s earlier left same is takes =
    subst (λ (l : List NamedType). TakesInForce s earlier l t left) same (subst (λ (x : NamedType). TakesInForce s earlier again x left) is takes)

force-next : (s : Bool) (p : BoundParam) (ps : List BoundParam) (ts more : List NamedType) (t : NamedType) → TakesInForce s p.param_type ts t more → in_force s (p ∷ ps) ts ≡ under p t ∷ in_force s ps more
force-next true p ps ts more t h = rw h refl
force-next false p ps ts more t h = rw (h.0, h.1) refl

drop-none : (n : ℕ) → drop n (let l : List NamedType = [] in l) ≡ []
drop-none zero = refl
drop-none (suc n) = refl

drop-next : (s : Bool) (earlier : ParamType) (n : ℕ) (left : ℕ) (ts more : List NamedType) (t : NamedType) → Suffice s left ts → TakesInForce s earlier ts t more → drop n more ≡ drop (suc n) ts
drop-next true earlier n left ts more t enough h = rw h refl
drop-next false earlier n left ts more t none h = ap (λ (l : List NamedType). drop n l) (h.1 ∙ none) ∙ drop-none n ∙ sym (ap (λ (l : List NamedType). drop (suc n) l) none ∙ drop-none (suc n))

module _ (nulls : List ℕ) (place : ℕ) (s : Bool) (p : BoundParam) (ps : List BoundParam) (ts more : List NamedType) (t : NamedType) (buf : List ℕ) (left count : ℕ) (len : left ≡ suc count)
    (enough : Suffice s left ts) (takes : TakesInForce s p.param_type ts t more) where
  abbrev q : BoundType
  q = under p t

  abbrev bound : List BoundType
  bound = in_force s ps more

  force : in_force s (p ∷ ps) ts ≡ q ∷ bound
  force = force-next s p ps ts more t takes

  abbrev pub before_all : ParamsLeft
  before_all = params_left s left nulls place (p ∷ ps) ts buf

  gives-one : (x : TypedParam) (after : List ℕ) → (typed_param nulls place q).reads buf ≡ Ok (x, after) → Gives before_all x (params_left s count nulls (place + 1) ps more after)
  gives-one x after read =
      let here : place + 1 + length ps ≡ place + suc (length ps) = omega arith in
      let rest = drop-next s p.param_type (length ps) left ts more t enough takes in
      record {
        left = len;
        params = ap (λ (l : List BoundType). (several_in (typed_param nulls) place l buf).read) force ∙ one-more (typed_param nulls) place q bound buf x after read;
        end = same-end (typed_param nulls) place q bound buf x after read ∙ sym (ap (λ (l : List BoundType). (several_in (typed_param nulls) place l buf).end) force);
        sends_types = refl;
        tails = ap (λ (l : List BoundType). (several_in (typed_param nulls) place l buf).tails) force ∙ same-tails (typed_param nulls) place q bound buf x after read;
        attributes = rw (here, rest) refl;
      }

  fails-so : (e : FaultKind) → (typed_param nulls place q).reads buf ≡ Err e → (before_all.params ≡ []) × (params_of before_all ≡ Err e)
  fails-so e read =
      let n = none-before (typed_param nulls) place q bound buf e read in
      let params = ap (λ (l : List BoundType). (several_in (typed_param nulls) place l buf).read) force ∙ n.0 in
      let end = ap (λ (l : List BoundType). (several_in (typed_param nulls) place l buf).end) force ∙ n.1 in
      (params, ap (λ (r : Result (List ℕ) FaultKind). params_to before_all.params r) end)

  module _ (is_null : Bool) (bit : IsTrue is_null ↔ (cell nulls place ≡ 1)) (at : List ℕ) (at_is : at ≡ buf) where
    null-test : is_null ≡ (cell nulls place == 1)
    null-test = is-one is_null (cell nulls place) bit

    abbrev read_at : Bool → List ℕ → Reading Param
    read_at null bytes = (param_form p.is_sent_ahead null t.param_type).reads bytes

    read-here : read_at is_null at ≡ read_at (cell nulls place == 1) buf
    read-here = ap (λ (b : Bool). read_at b at) null-test ∙ ap (λ (l : List ℕ). read_at (cell nulls place == 1) l) at_is

    pub gives : (v : Param) (after : List ℕ) → (param_form p.is_sent_ahead is_null t.param_type).reads at ≡ Ok (v, after)
        → Gives before_all (record { named_type = t; param = v }) (params_left s count nulls (place + 1) ps more after)
    gives v after r =
        let here = sym read-here ∙ r in
        let read : (typed_param nulls place q).reads buf ≡ Ok (record { named_type = t; param = v }, after) = rw here refl in
        gives-one (record { named_type = t; param = v }) after read

    fails : (e : FaultKind) → (param_form p.is_sent_ahead is_null t.param_type).reads at ≡ Err e → (before_all.params ≡ []) × (params_of before_all ≡ Err e)
    fails e r =
        let here = sym read-here ∙ r in
        let read : (typed_param nulls place q).reads buf ≡ Err e = rw here refl in
        fails-so e read

    -- the fault of a parameter is that of the view
    pub refuses : (e : FaultOf) → Faults false e ((param_form p.is_sent_ahead is_null t.param_type).reads at) → RefusesParam e before_all
    refuses e r =
        let read = (param_form p.is_sent_ahead is_null t.param_type).reads at in
        ((fails _ (kind-in e read r).1).0, fault-same false e read (params_of before_all) (λ k h. (fails k h).1) r)

-- ---- the invariant of a reader

-- ---- the whole execution

module _ (c : CapabilityFlags) (flags : ℕ) (params : List BoundParam) (bytes : List ℕ) where
  -- reading one by one gives what the grammar reads
  pub read-all : (f : BindFront) (after : List ℕ) → (execution_front c flags (length params)).reads bytes ≡ Ok (f, after)
      → execution_of (left_of (bytes_after (length params) f after) params) ≡ (execution c flags params).reads bytes
  read-all f after h = rw (h, zero-add (length params), all-params f.nulls 0 (in_force f.sends_types params f.types) after) refl

  refused-so : (e : FaultKind) → (execution_front c flags (length params)).reads bytes ≡ Err e → (execution c flags params).reads bytes ≡ Err e
  refused-so e h = rw h refl

  -- a fault before the values is the execution's
  pub front-fault : (e : FaultOf) → Faults false e ((execution_front c flags (length params)).reads bytes) → Faults false e ((execution c flags params).reads bytes)
  front-fault e h = fault-same false e ((execution_front c flags (length params)).reads bytes) ((execution c flags params).reads bytes) refused-so h

-- the same for a statement with a given number of parameters
pub read-counted : (c : CapabilityFlags) (flags : ℕ) (params : List BoundParam) (bytes : List ℕ) (count : ℕ) → length params ≡ count → (f : BindFront) (after : List ℕ)
    → (execution_front c flags count).reads bytes ≡ Ok (f, after) → execution_of (left_of (bytes_after count f after) params) ≡ (execution c flags params).reads bytes
read-counted c flags params bytes count len f after =
    let P : ℕ → Type 0 = λ n. (execution_front c flags n).reads bytes ≡ Ok (f, after) → execution_of (left_of (bytes_after n f after) params) ≡ (execution c flags params).reads bytes in
    subst P len (read-all c flags params bytes f after)

-- ---- as it was sent

first-of : (nulls : List ℕ) (place : ℕ) (p : BoundType) (ps : List BoundType) (bytes : List ℕ) (read : Reading TypedParam) (after : List ℕ) (tails : List (List ℕ)) → (typed_param nulls place p).reads bytes ≡ read
    → (then_several read (several_in (typed_param nulls) (place + 1) ps)).tails ≡ after ∷ tails → IsTail after bytes
first-of nulls place p ps bytes (Ok x) after tails e h =
    let here : x.1 ≡ after = cc in
    subst (λ (l : List ℕ). IsTail l bytes) here ((typed_param nulls place p).front x.0 bytes x.1 e)
first-of nulls place p ps bytes (Err k) after tails e h = absurd cc

-- the bytes after the first parameter are a tail of all
tail-first : (nulls : List ℕ) (place : ℕ) (ps : List BoundType) (bytes after : List ℕ) (tails : List (List ℕ)) → (several_in (typed_param nulls) place ps bytes).tails ≡ after ∷ tails → IsTail after bytes
unfolding several_in
tail-first nulls place [] bytes after tails h = absurd cc
tail-first nulls place (p ∷ ps) bytes after tails h = first-of nulls place p ps bytes ((typed_param nulls place p).reads bytes) after tails refl h

pub tail-given : (old new : ParamsBytes) (bound : BoundParam) (others : List BoundParam) (x : TypedParam) → Gives (left_of old (bound ∷ others)) x (left_of new others) → IsTail new.values old.values
tail-given old new bound others x g =
    tail-first old.nulls old.place (in_force old.sends_types (bound ∷ others) old.types) old.values new.values (left_of new others).tails g.tails

-- a given number of others
pub others-of : (b : BoundParam) (left : ℕ) → left ≢ 0 → (others : List BoundParam) × (length (b ∷ others) ≡ left)
others-of b zero some = absurd (some refl)
others-of b (suc n) some = (replicate n b, ap suc (length-replicate n b))
