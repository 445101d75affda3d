-- Values, parameters and attributes as fields, one after another.
use Rattle.std.proofs.Common.{◌≡◌, ℕ, Bool, true, false, List, [], ◌∷◌, ◌++◌, map, Result, Ok, Err, OnOk, refl, sym, ap, subst, ◌∙◌, append_assoc, append-nil}
use Rattle.mysql_wire.specs.Reading.{Reading, Faults}
use Rattle.mysql_wire.specs.declared.fault.FaultKind.{FaultKind}
use Rattle.mysql_wire.specs.declared.fault.FaultKind.TheVariants as kind
use Rattle.mysql_wire.specs.declared.fault.FaultOf.{FaultOf}
use Rattle.mysql_wire.specs.declared.fault.FaultOf.TheVariants as fault
use Rattle.mysql_values.specs.Value.{Content}
use Rattle.mysql_stmt.specs.Attributes.{Attribute, AttributesLeft, more}
use Rattle.mysql_stmt.specs.ExecuteRead as reads
use Rattle.mysql_stmt.specs.ExecuteRead.{AttributesAhead, HasNoParam, ParamsLeft, RefusesParam, TypedParam, attributes_at, params_to}
use Rattle.mysql_stmt.specs.RowView.{Gives, IsDone, RefusesNext, RowLeft, read_to}
use Rattle.mysql_show.specs.Fields.{Said}
use Rattle.mysql_recorder.specs.ValueFields.{AreAfterParams, AreAttributes, AreParams, after_values, attribute_fields, fault_fields, fault_text, faulty_fields, kind_text, param_said, refused_at, row_fields, unread_fields, value_said}

-- ---- faults

-- the fault of a reading has a kind, and its name
pub kind_in : {A : Type 0} (e : FaultOf) (r : Reading A) → Faults false e r → (d : FaultKind) × (r ≡ Err d) × (kind_text d ≡ fault_text e)
kind_in fault.UnexpectedEof r f = (kind.UnexpectedEof, f, refl)
kind_in (fault.InvalidData text) r f = (kind.InvalidData, f, refl)
kind_in (fault.InvalidInput text) r f = (kind.InvalidInput, f, refl)
kind_in fault.Memory r f = absurd (let no : false ≡ true = f in cc)

-- ---- rows

pub row_step : (old : RowLeft) (x : Content) (new : RowLeft) → Gives old x new → row_fields old ≡ value_said x ∷ row_fields new
unfolding row_fields
row_step old x new h =
    ap (λ vs. map value_said vs ++ fault_fields old.end (after_values vs old.rest old.tails)) h.1
    ∙ ap (λ end. map value_said (x ∷ new.values) ++ fault_fields end (after_values (x ∷ new.values) old.rest old.tails)) (sym h.2)
    ∙ ap (λ ts. map value_said (x ∷ new.values) ++ fault_fields new.end (after_values (x ∷ new.values) old.rest ts)) h.3

pub row_done : (row : RowLeft) (rest : List ℕ) → IsDone row → row.end ≡ Ok rest → row_fields row ≡ []
unfolding row_fields
row_done row rest h e =
    ap (λ vs. map value_said vs ++ fault_fields row.end (after_values vs row.rest row.tails)) h.1 ∙ ap (λ end. fault_fields end row.rest) e

fault_of_read : (e : FaultOf) (values : List Content) (end : Result (List ℕ) FaultKind) (rest : List ℕ) → Faults false e (read_to values end) → fault_fields end rest ≡ refused_at (fault_text e) rest
fault_of_read e values (Ok after) rest f = let k = kind_in e (read_to values (Ok after)) f in absurd (let no : read_to values (Ok after) ≡ Err k.0 = k.1 in cc)
fault_of_read e values (Err d) rest f =
    let k = kind_in e (read_to values (Err d)) f in
    let same : d ≡ k.0 = (let both : read_to values (Err d) ≡ Err k.0 = k.1 in cc) in ap (λ name. refused_at name rest) (ap kind_text same ∙ k.2)

pub row_refused : (row : RowLeft) (e : FaultOf) → RefusesNext e row → row_fields row ≡ refused_at (fault_text e) row.rest
unfolding row_fields
row_refused row e h =
    ap (λ vs. map value_said vs ++ fault_fields row.end (after_values vs row.rest row.tails)) h.0 ∙ fault_of_read e row.values row.end row.rest h.1

-- fields that are appended one by one
pub appended_one : {A : Type 0} (first now next : List A) (x : A) (left more whole : List A) → next ≡ now ++ x ∷ [] → left ≡ x ∷ more → now ++ left ≡ first ++ whole → next ++ more ≡ first ++ whole
appended_one first now next x left more whole e l h =
    ap (λ q. q ++ more) e ∙ append_assoc now (x ∷ []) more ∙ ap (λ q. now ++ q) (sym l) ∙ h

pub appended_last : {A : Type 0} (first now next last left whole : List A) → next ≡ now ++ last → left ≡ last → now ++ left ≡ first ++ whole → next ≡ first ++ whole
appended_last first now next last left whole e l h = e ∙ ap (λ q. now ++ q) (sym l) ∙ h

pub appended_all : {A : Type 0} (first now left whole : List A) → left ≡ [] → now ++ left ≡ first ++ whole → now ≡ first ++ whole
appended_all first now left whole l h = sym (append-nil now) ∙ ap (λ q. now ++ q) (sym l) ∙ h

pub ruleset values = (row_step, row_done, row_refused, appended_one, appended_last, appended_all)

-- ---- attributes

-- several attributes, followed by those that are read after them
abbrev pub several : List Attribute → Reading (List Attribute) → Reading (List Attribute)
several [] later = later
several (a ∷ others) later = more a (several others later)

several_more : (xs : List Attribute) (a : Attribute) (later : Reading (List Attribute)) → several (xs ++ a ∷ []) later ≡ several xs (more a later)
several_more [] a later = refl
several_more (b ∷ bs) a later = ap (more b) (several_more bs a later)

several_all : (xs : List Attribute) (rest : List ℕ) → several xs (Ok ([], rest)) ≡ Ok (xs, rest)
several_all [] rest = refl
several_all (x ∷ xs) rest = ap (more x) (several_all xs rest)

several_fault : (xs : List Attribute) (e : FaultKind) → several xs (Err e) ≡ Err e
several_fault [] e = refl
several_fault (x ∷ xs) e = ap (more x) (several_fault xs e)

fields_more : (xs : List Attribute) (a : Attribute) → attribute_fields (xs ++ a ∷ []) ≡ attribute_fields xs ++ attribute_fields (a ∷ [])
fields_more [] a = refl
fields_more (b ∷ bs) a = ap (λ q. attribute_fields (b ∷ []) ++ q) (fields_more bs a)

-- these attributes are appended, and the others are left
pub record ShowsAttributes (whole now : AttributesLeft) (first fields : List Said) : Type 0 where
  pub done : List Attribute
  pub all : whole.all ≡ several done now.all
  pub shown : fields ≡ first ++ attribute_fields done

pub attributes_step : (whole old new : AttributesLeft) (a : Attribute) (first before named after : List Said) (x y : Said) → ShowsAttributes whole old first before → old.all ≡ more a new.all
    → named ≡ before ++ x ∷ [] → after ≡ named ++ y ∷ [] → x ∷ y ∷ [] ≡ attribute_fields (a ∷ []) → ShowsAttributes whole new first after
attributes_step whole old new a first before named after x y h one e g is = record {
  done = h.done ++ a ∷ [];
  all = h.all ∙ ap (several h.done) one ∙ sym (several_more h.done a new.all);
  shown = g ∙ ap (λ q. q ++ y ∷ []) e ∙ append_assoc before (x ∷ []) (y ∷ []) ∙ ap (λ q. q ++ x ∷ y ∷ []) h.shown ∙ append_assoc first (attribute_fields h.done) (x ∷ y ∷ [])
      ∙ ap (λ q. first ++ (attribute_fields h.done ++ q)) is ∙ ap (λ q. first ++ q) (sym (fields_more h.done a));
}

pub attributes_end : (is_refused : Bool) (whole now : AttributesLeft) (first last : List Said) (rest : List ℕ) → ShowsAttributes whole now first last → now.all ≡ Ok ([], rest)
    → (shown : List Said) × AreAttributes is_refused whole.all shown × (last ≡ first ++ shown)
attributes_end is_refused whole now first last rest h none = (
  attribute_fields h.done,
  subst (λ r. AreAttributes is_refused r (attribute_fields h.done)) (sym (h.all ∙ ap (several h.done) none ∙ several_all h.done rest)) refl,
  h.shown,
)

-- the fields end with a fault
pub attributes_refused : (is_refused : Bool) (whole now : AttributesLeft) (d : FaultKind) (first mid last : List Said) (rest : List ℕ) → ShowsAttributes whole now first mid → now.all ≡ Err d
    → last ≡ mid ++ faulty_fields is_refused d rest → (shown : List Said) × AreAttributes is_refused whole.all shown × (last ≡ first ++ shown)
attributes_refused is_refused whole now d first mid last rest h f is = (
  attribute_fields h.done ++ faulty_fields is_refused d rest,
  subst (λ r. AreAttributes is_refused r (attribute_fields h.done ++ faulty_fields is_refused d rest)) (sym (h.all ∙ ap (several h.done) f ∙ several_fault h.done d)) (h.done, rest, refl),
  is ∙ ap (λ q. q ++ faulty_fields is_refused d rest) h.shown ∙ append_assoc first (attribute_fields h.done) (faulty_fields is_refused d rest),
)

pub attributes_faulty : {E : Type 0} (r : Result (Unit {0}) E) (is_refused : Bool) (whole now : AttributesLeft) (e : FaultOf) (first mid last : List Said) (rest : List ℕ) → ShowsAttributes whole now first mid
    → Faults false e now.all → is_refused ≡ false → OnOk r (last ≡ mid ++ refused_at (fault_text e) rest) → OnOk r ((shown : List Said) × AreAttributes is_refused whole.all shown × (last ≡ first ++ shown))
attributes_faulty (Ok u) is_refused whole now e first mid last rest h f is more =
    let k = kind_in e now.all f in
    attributes_refused is_refused whole now k.0 first mid last rest h k.1 (more ∙ ap (λ name. mid ++ refused_at name rest) (sym k.2) ∙ ap (λ b. mid ++ faulty_fields b k.0 rest) (sym is))
attributes_faulty (Err x) is_refused whole now e first mid last rest h f is more = tt

pub attributes_unread : {E : Type 0} (r : Result (Unit {0}) E) (is_refused : Bool) (whole now : AttributesLeft) (e : FaultOf) (first mid last : List Said) (rest : List ℕ) → ShowsAttributes whole now first mid
    → Faults false e now.all → is_refused ≡ true → OnOk r (last ≡ mid ++ unread_fields rest) → OnOk r ((shown : List Said) × AreAttributes is_refused whole.all shown × (last ≡ first ++ shown))
attributes_unread (Ok u) is_refused whole now e first mid last rest h f is more =
    let k = kind_in e now.all f in attributes_refused is_refused whole now k.0 first mid last rest h k.1 (more ∙ ap (λ b. mid ++ faulty_fields b k.0 rest) (sym is))
attributes_unread (Err x) is_refused whole now e first mid last rest h f is more = tt

-- ---- parameters

map_more : (ps : List TypedParam) (p : TypedParam) → map param_said (ps ++ p ∷ []) ≡ map param_said ps ++ param_said p ∷ []
map_more [] p = refl
map_more (q ∷ qs) p = ap (λ fs. param_said q ∷ fs) (map_more qs p)

-- these parameters of an execution are appended, and the others are left
pub record ShowsParams (whole now : ParamsLeft) (first fields : List Said) : Type 0 where
  pub done : List TypedParam
  pub params : whole.params ≡ done ++ now.params
  pub end : now.end ≡ whole.end
  pub rest : after_values whole.params whole.rest whole.tails ≡ after_values now.params now.rest now.tails
  pub attributes : now.attributes ≡ whole.attributes
  pub shown : fields ≡ first ++ map param_said done

pub params_step : (whole old new : ParamsLeft) (first before after : List Said) (p : TypedParam) (x : Said) → ShowsParams whole old first before → reads.Gives old p new → x ≡ param_said p → after ≡ before ++ x ∷ []
    → ShowsParams whole new first after
params_step whole old new first before after p x h g is more = record {
  done = h.done ++ p ∷ [];
  params = h.params ∙ ap (λ q. h.done ++ q) g.params ∙ sym (append_assoc h.done (p ∷ []) new.params);
  end = g.end ∙ h.end;
  rest = h.rest ∙ ap (λ ps. after_values ps old.rest old.tails) g.params ∙ ap (λ ts. after_values (p ∷ new.params) old.rest ts) g.tails;
  attributes = g.attributes ∙ h.attributes;
  shown = more ∙ ap (λ q. q ++ x ∷ []) h.shown ∙ append_assoc first (map param_said h.done) (x ∷ []) ∙ ap (λ y. first ++ (map param_said h.done ++ y ∷ [])) is
      ∙ ap (λ q. first ++ q) (sym (map_more h.done p));
}

-- the fields after the parameters
params_then : (whole now : ParamsLeft) (first before after more : List Said) → ShowsParams whole now first before → now.params ≡ [] → AreAfterParams now.attributes now.end now.rest more → after ≡ before ++ more
    → (shown : List Said) × AreParams whole shown × (after ≡ first ++ shown)
params_then whole now first before after more h none are e =
    let all : whole.params ≡ h.done = h.params ∙ ap (λ q. h.done ++ q) none ∙ append-nil h.done in
    let rest : now.rest ≡ after_values whole.params whole.rest whole.tails = sym (h.rest ∙ ap (λ ps. after_values ps now.rest now.tails) none) in (
      map param_said whole.params ++ more,
      (
        more,
        subst (λ a. AreAfterParams a whole.end (after_values whole.params whole.rest whole.tails) more) h.attributes
            (subst (λ t. AreAfterParams now.attributes t (after_values whole.params whole.rest whole.tails) more) h.end
            (subst (λ t. AreAfterParams now.attributes now.end t more) rest are)),
        refl,
      ),
      e ∙ ap (λ q. q ++ more) h.shown ∙ append_assoc first (map param_said h.done) more ∙ ap (λ ps. first ++ (map param_said ps ++ more)) (sym all),
    )

pub params_end : {E : Type 0} (r : Result (Unit {0}) E) (whole now : ParamsLeft) (first before after : List Said) (view : AttributesLeft) (rest : List ℕ) → ShowsParams whole now first before → HasNoParam now → now.end ≡ Ok rest
    → rest ≡ now.rest → view ≡ attributes_at now.attributes now.rest → OnOk r ((more : List Said) × AreAttributes false view.all more × (after ≡ before ++ more))
    → OnOk r ((shown : List Said) × AreParams whole shown × (after ≡ first ++ shown))
params_end (Ok u) whole now first before after view rest h none end is at g =
    params_then whole now first before after g.0 h none.1
    (subst (λ t. AreAfterParams now.attributes t now.rest g.0) (sym end)
    (subst (λ q. AreAttributes false (attributes_at now.attributes q).all g.0) (sym is) (subst (λ v. AreAttributes false v.all g.0) at g.1))) g.2
params_end (Err x) whole now first before after view rest h none end is at g = tt

after_fault : (e : FaultOf) (ahead : AttributesAhead) (params : List TypedParam) (end : Result (List ℕ) FaultKind) (rest : List ℕ) → Faults false e (params_to params end)
    → AreAfterParams ahead end rest (refused_at (fault_text e) rest)
after_fault e ahead params (Ok after) rest f = let k = kind_in e (params_to params (Ok after)) f in absurd (let no : params_to params (Ok after) ≡ Err k.0 = k.1 in cc)
after_fault e ahead params (Err d) rest f =
    let k = kind_in e (params_to params (Err d)) f in
    let same : d ≡ k.0 = (let both : params_to params (Err d) ≡ Err k.0 = k.1 in cc) in ap (λ name. refused_at name rest) (sym (ap kind_text same ∙ k.2))

pub params_refused : {E : Type 0} (r : Result (Unit {0}) E) (whole now : ParamsLeft) (first before after : List Said) (e : FaultOf) (rest : List ℕ) → ShowsParams whole now first before → RefusesParam e now → rest ≡ now.rest
    → OnOk r (after ≡ before ++ refused_at (fault_text e) rest) → OnOk r ((shown : List Said) × AreParams whole shown × (after ≡ first ++ shown))
params_refused (Ok u) whole now first before after e rest h f is more =
    params_then whole now first before after (refused_at (fault_text e) now.rest) h f.0 (after_fault e now.attributes now.params now.end now.rest f.1)
    (more ∙ ap (λ q. before ++ refused_at (fault_text e) q) is)
params_refused (Err x) whole now first before after e rest h f is more = tt
