-- An execution read into places.
use Rattle.std.proofs.Common.{◌≡◌, ◌≢◌, ◌<◌, ◌≤◌, ◌-◌, ◌++◌, ◌∷◌, ◌+◌, ℕ, List, [], slice_set, Result, Ok, Err, IfErr, IfOk, Bool, length, drop, map, take, get_or, false, refl, sym, subst, ap, ◌∙◌, arith, if◌then◌else◌}
use Rattle.std.proofs.lemmas.List.{append-nil, append_assoc, drop_more, length-drop, length-map, length-take-le, take_more_set}
use Rattle.std.specs.List.{AllZip}
use Rattle.mysql_wire.specs.declared.fault.FaultKind.{FaultKind}
use Rattle.mysql_wire.specs.declared.fault.FaultKind.TheVariants as kind
use Rattle.mysql_wire.specs.declared.fault.FaultOf.{FaultOf}
use Rattle.mysql_wire.specs.declared.fault.FaultOf.TheVariants as fault
use Rattle.mysql_wire.specs.Each.{each}
use Rattle.mysql_wire.specs.Flags.{CapabilityFlags}
use Rattle.mysql_wire.specs.Form.{Form}
use Rattle.mysql_wire.specs.Reading.{Reading, Faults, then_read}
use Rattle.mysql_stmt.specs.Attributes.{Attribute, AttributesLeft, attribute, attributes_left, attributes_read}
use Rattle.mysql_stmt.specs.ExecuteHead.{cursor_flags, stmt_id}
use Rattle.mysql_stmt.specs.ExecuteRead.{AttributesAhead, Gives, GivesBound, HasNoParam, ParamsBytes, ParamsLeft, RefusesParam, StandsAfter, TypedParam, attributes_at, bytes_after, execution, execution_front, execution_of, left_of, params_of, params_to, read_as}
use Rattle.mysql_stmt.specs.SentTypes.{NamedType}
use Rattle.mysql_stmt.proofs.ParamViews.{no-param}
use Rattle.mysql_stmt.specs.declared.execute_head.ComStmtExecuteHead.{ComStmtExecuteHead}
use Rattle.mysql_stmt.specs.declared.execute_view.BoundParam.{BoundParam}
use Rattle.mysql_stmt.specs.declared.typed_param.TypedExecuteParam.{TypedExecuteParam}
use Rattle.mysql_packets_c.specs.Code.{fault_code, kind_code}
use Rattle.mysql_packets_c.specs.Input.{used_of}
use Rattle.mysql_packets_c.specs.Value.{IsSet, param_content}
use Rattle.mysql_packets_c.specs.Execution.{ExecutionInto, FillsGood, FillsParams, HoldsExecution, HoldsParams, KeepsRest, ParamsInto, TakesParams, bound_list, bound_of, content_of, contents_of, good_after, good_execution, good_params, last_left, sends_types, type_held, types_of}
use Rattle.mysql_packets_c.specs.declared.execution.CExecution.{CExecution}
use Rattle.mysql_packets_c.specs.declared.execution.CBoundParam.{CBoundParam}
use Rattle.mysql_packets_c.specs.declared.rows.CColumnType.{CColumnType}
use Rattle.mysql_packets_c.specs.declared.value.CValue.{CValue}
use Rattle.mysql_packets_c.proofs.FilledRows.{one-more, one-param-set}

-- ---- one more parameter

pub one-content : (values : List CValue) (place : ℕ) (x : CValue) (read left more : List TypedParam) (p : TypedParam)
    → contents_of read ≡ map param_content (take place values) ++ contents_of left → left ≡ p ∷ more → param_content x ≡ content_of p.param → place < length values
    → contents_of read ≡ map param_content (take (place + 1) (slice_set values place x)) ++ contents_of more
one-content values place x read left more p before first is fits =
    one-more param_content values place x (contents_of read) (contents_of left) (contents_of more) (content_of p.param) before (ap contents_of first) is fits

pub one-type : (types : List CColumnType) (place : ℕ) (x : CColumnType) (read left more : List TypedParam) (p : TypedParam)
    → types_of read ≡ take place types ++ types_of left → left ≡ p ∷ more → x ≡ type_held p.named_type.param_type → place < length types
    → types_of read ≡ take (place + 1) (slice_set types place x) ++ types_of more
one-type types place x read left more p before first is fits =
    let stored = take_more_set types place x fits in
    before ∙ ap (λ ps. take place types ++ types_of ps) first ∙ ap (λ t. take place types ++ t ∷ types_of more) (sym is)
    ∙ sym (ap (λ ts. ts ++ types_of more) stored ∙ append_assoc (take place types) (x ∷ []) (types_of more))

-- ---- all of them

pub all-held : (old new : ParamsLeft) (values_before values : List CValue) (types_before types : List CColumnType) → FillsParams old new values_before values types_before types → HasNoParam new
    → HoldsParams old.params (take old.left values) (take old.left types)
all-held old new values_before values types_before types fills none =
    let whole : old.left - 0 ≡ old.left = omega arith in
    let contents : contents_of old.params ≡ map param_content (take (old.left - 0) values) = rw (none.0, none.1, append-nil) at fills.contents in
    let held : types_of old.params ≡ take (old.left - 0) types = rw (none.0, none.1, append-nil) at fills.types in
    record {
      contents = sym (subst (λ (n : ℕ). contents_of old.params ≡ map param_content (take n values)) whole contents);
      types = sym (subst (λ (n : ℕ). types_of old.params ≡ take n types) whole held);
    }

one-later : {A : Type 0} (r : Reading (List A)) (x : A) (n : ℕ) → ((xs : List A) (rest : List ℕ) → r ≡ Ok (xs, rest) → length xs ≡ n)
    → (xs : List A) (rest : List ℕ) → then_read r (λ ys rest. Ok (x ∷ ys, rest)) ≡ Ok (xs, rest) → length xs ≡ n + 1
one-later {A = A} (Ok y) x n h xs rest e =
    let same : (x ∷ y.0, y.1) ≡ (xs, rest) = cc in
    let len : length y.0 ≡ n = h y.0 y.1 refl in
    let all = ap (λ (p : List A × List ℕ). length p.0) same in
    omega (arith, all, len)
one-later (Err k) x n h xs rest e = absurd cc

-- as many are read as there are forms
several : {A : Type 0} (r : Reading A) (next : List ℕ → Reading (List A)) (n : ℕ) → ((bytes : List ℕ) (xs : List A) (rest : List ℕ) → next bytes ≡ Ok (xs, rest) → length xs ≡ n)
    → (xs : List A) (rest : List ℕ) → then_read r (λ x mid. then_read (next mid) (λ ys rest. Ok (x ∷ ys, rest))) ≡ Ok (xs, rest) → length xs ≡ n + 1
several (Ok x) next n h xs rest e = one-later (next x.1) x.0 n (h x.1) xs rest e
several (Err k) next n h xs rest e = absurd cc

read-each : {A C : Type 0} (form : ℕ → C → Form A) (place : ℕ) (cs : List C) (bytes : List ℕ) (xs : List A) (rest : List ℕ) → (each form place cs).reads bytes ≡ Ok (xs, rest) → length xs ≡ length cs
unfolding each
read-each {A = A} form place [] bytes xs rest e = let same : ([], bytes) ≡ (xs, rest) = cc in sym (ap (λ (p : List A × List ℕ). length p.0) same)
read-each form place (c ∷ cs) bytes xs rest e =
    several ((form place c).reads bytes) (λ mid. (each form (place + 1) cs).reads mid) (length cs) (λ mid. read-each form (place + 1) cs mid) xs rest e ∙ omega arith

-- the attributes that follow, one for each type
pub counted-attributes : (view : AttributesLeft) (nulls : List ℕ) (place : ℕ) (types : List NamedType) (bytes rest : List ℕ) → view ≡ attributes_left nulls place types bytes
    → view.all ≡ Ok (attributes_read view.all, rest) → length (attributes_read view.all) ≡ view.left
counted-attributes view nulls place types bytes rest is read =
    let here : (each (attribute nulls) place types).reads bytes ≡ Ok (attributes_read view.all, rest) = sym (ap (λ (v : AttributesLeft). v.all) is) ∙ read in
    read-each (attribute nulls) place types bytes (attributes_read view.all) rest here ∙ sym (ap (λ (v : AttributesLeft). v.left) is)

-- a fault ends the reading
pub then-fault : {A B : Type 0} (r : Reading A) (next : A → List ℕ → Reading B) (e : FaultOf) → Faults false e r → Faults false e (then_read r next)
then-fault r next fault.UnexpectedEof h = rw h refl
then-fault r next (fault.InvalidData text) h = rw h refl
then-fault r next (fault.InvalidInput text) h = rw h refl
then-fault r next fault.Memory h = absurd cc

-- ---- codes

pub not-memory : {A : Type 0} (e : FaultOf) (read : Reading A) → Faults false e read → fault_code e ≢ 4
not-memory fault.UnexpectedEof read h = λ is. absurd cc
not-memory (fault.InvalidData text) read h = λ is. absurd cc
not-memory (fault.InvalidInput text) read h = λ is. absurd cc
not-memory fault.Memory read h = absurd cc

-- ---- what the server knew before

list-at : (params : List CBoundParam) (i n : ℕ) → n ≡ i → bound_list (drop i params) ≡ bound_list (drop n params)
list-at params i n is = ap (λ (k : ℕ). bound_list (drop k params)) (sym is)

-- all are left
pub all-left : (sent : ParamsBytes) (params : List CBoundParam) → sent.left ≡ length params → last_left sent params ≡ left_of sent (bound_list params)
all-left sent params len =
    let none : length params - sent.left ≡ 0 = omega (arith, len) in
    ap (λ (k : ℕ). left_of sent (bound_list (drop k params))) none

-- ---- places

-- everything before the fault was read
module _ (old new : ParamsLeft) (values_before values : List CValue) (types_before types : List CColumnType) (fit : old.left ≤ length types_before) (fills : FillsParams old new values_before values types_before types)
    (none : new.params ≡ []) where
  abbrev count : ℕ
  count = old.left - new.left

  all-contents : contents_of old.params ≡ map param_content (take count values)
  all-contents = fills.contents ∙ ap (λ (ps : List TypedParam). map param_content (take count values) ++ contents_of ps) none ∙ append-nil (map param_content (take count values))

  all-types : types_of old.params ≡ take count types
  all-types = fills.types ∙ ap (λ (ps : List TypedParam). take count types ++ types_of ps) none ∙ append-nil (take count types)

  good-count : length old.params ≡ count
  good-count = sym (length-map old.params (λ p. type_held p.named_type.param_type)) ∙ ap length all-types ∙ length-take-le count types (omega (arith, fit, fills.type_count))

  params-filled : FillsGood old.params values_before values types_before types
  params-filled = record {
    contents = ap (λ n. map param_content (take n values)) good-count ∙ sym all-contents;
    types = ap (λ n. take n types) good-count ∙ sym all-types;
    places = record {
      set = subst (λ (n : ℕ). AllZip IsSet (take n values_before) (take n values)) (sym good-count) fills.set;
      others = subst (λ (n : ℕ). drop n values ≡ drop n values_before) (sym good-count) fills.other_values;
    };
    other_types = subst (λ (n : ℕ). drop n types ≡ drop n types_before) (sym good-count) fills.other_types;
  }

-- the good parameters are those that are left after the front
pub good-are : (c : CapabilityFlags) (flags : ℕ) (list : List CBoundParam) (bytes : List ℕ) (sent : ParamsBytes) → StandsAfter c flags (length list) bytes sent → good_params c flags (bound_list list) bytes ≡ (last_left sent list).params
good-are c flags list bytes sent (f, rest, reads, is) =
    let ps = bound_list list in
    let len : length ps ≡ length list = length-map list bound_of in
    let left : sent.left ≡ length list = ap (λ (b : ParamsBytes). b.left) is in
    let whole : last_left sent list ≡ left_of (bytes_after (length ps) f rest) ps = all-left sent list left ∙ ap (λ (b : ParamsBytes). left_of b ps) (is ∙ ap (λ (n : ℕ). bytes_after n f rest) (sym len)) in
    ap (good_after ps) (ap (λ (n : ℕ). (execution_front c flags n).reads bytes) len ∙ reads) ∙ ap (λ (l : ParamsLeft). l.params) (sym whole)

pub good-filled : (c : CapabilityFlags) (flags : ℕ) (list : List CBoundParam) (bytes : List ℕ) (values_before values : List CValue) (types_before types : List CColumnType) (sent after : ParamsBytes)
    → StandsAfter c flags (length list) bytes sent → length list ≤ length types_before → FillsParams (last_left sent list) (last_left after list) values_before values types_before types → (last_left after list).params ≡ []
    → FillsGood (good_params c flags (bound_list list) bytes) values_before values types_before types
good-filled c flags list bytes values_before values types_before types sent after stands fit fills none =
    let left : sent.left ≡ length list = ap (λ (b : ParamsBytes). b.left) stands.3 in
    subst (λ (g : List TypedParam). FillsGood g values_before values types_before types) (sym (good-are c flags list bytes sent stands))
    (params-filled (last_left sent list) (last_left after list) values_before values types_before types (omega (arith, left, fit)) fills none)

-- no parameter stands after a front, or a head, that is none
module _ (P : List TypedParam → Type 0) (none : P []) where
  front-fault : (c : CapabilityFlags) (flags : ℕ) (list : List CBoundParam) (bytes : List ℕ) (k : FaultKind) → (execution_front c flags (length list)).reads bytes ≡ Err k → P (good_params c flags (bound_list list) bytes)
  front-fault c flags list bytes k h = rw (length-map list bound_of, h) none

  pub no-front : (c : CapabilityFlags) (flags : ℕ) (list : List CBoundParam) (bytes : List ℕ) (e : FaultOf) → Faults false e ((execution_front c flags (length list)).reads bytes) → P (good_params c flags (bound_list list) bytes)
  no-front c flags list bytes fault.UnexpectedEof h = front-fault c flags list bytes kind.UnexpectedEof h
  no-front c flags list bytes (fault.InvalidData text) h = front-fault c flags list bytes kind.InvalidData h
  no-front c flags list bytes (fault.InvalidInput text) h = front-fault c flags list bytes kind.InvalidInput h
  no-front c flags list bytes fault.Memory h = absurd cc

  head-fault-of : (c : CapabilityFlags) (params : List BoundParam) (read : Reading ComStmtExecuteHead) (k : FaultKind) → read ≡ Err k → P (good_execution c params read)
  head-fault-of c params read k h = rw h none

  pub no-head : (c : CapabilityFlags) (params : List BoundParam) (read : Reading ComStmtExecuteHead) (e : FaultOf) → Faults false e read → P (good_execution c params read)
  no-head c params read fault.UnexpectedEof h = head-fault-of c params read kind.UnexpectedEof h
  no-head c params read (fault.InvalidData text) h = head-fault-of c params read kind.InvalidData h
  no-head c params read (fault.InvalidInput text) h = head-fault-of c params read kind.InvalidInput h
  no-head c params read fault.Memory h = absurd cc

nothing-filled : (values : List CValue) (types : List CColumnType) → FillsGood [] values values types types
nothing-filled values types = record { contents = refl; types = refl; places = record { set = tt; others = refl }; other_types = refl }

pub front-refused : (c : CapabilityFlags) (flags : ℕ) (list : List CBoundParam) (bytes : List ℕ) (values : List CValue) (types : List CColumnType) (e : FaultOf)
    → Faults false e ((execution_front c flags (length list)).reads bytes) → FillsGood (good_params c flags (bound_list list) bytes) values values types types
front-refused c flags list bytes values types e h = no-front (λ g. FillsGood g values values types types) (nothing-filled values types) c flags list bytes e h

pub head-refused : (c : CapabilityFlags) (params : List BoundParam) (read : Reading ComStmtExecuteHead) (values : List CValue) (types : List CColumnType) (e : FaultOf) → Faults false e read
    → FillsGood (good_execution c params read) values values types types
head-refused c params read values types e h = no-head (λ g. FillsGood g values values types types) (nothing-filled values types) c params read e h

pub head-read : (c : CapabilityFlags) (params : List BoundParam) (read : Reading ComStmtExecuteHead) (values_before values : List CValue) (types_before types : List CColumnType) (h : ComStmtExecuteHead) (after : List ℕ) → read ≡ Ok (h, after)
    → FillsGood (good_params c (cursor_flags h) params after) values_before values types_before types → FillsGood (good_execution c params read) values_before values types_before types
head-read c params read values_before values types_before types h after e fills = rw e fills

-- what is left after the last parameter
pub record NoneLeft (sent : ParamsBytes) (left : ParamsLeft) : Type 0 where
  pub none : HasNoParam left
  pub end : left.end ≡ Ok sent.values
  pub attributes : left.attributes ≡ record { nulls = sent.nulls; place = sent.place; types = sent.types }

pub none-left : (sent : ParamsBytes) (params : List CBoundParam) → sent.left ≡ 0 → NoneLeft sent (last_left sent params)
none-left sent params none =
    let n = length params - sent.left in
    let ps = bound_list (drop n params) in
    let empty : length ps ≡ 0 = length-map (drop n params) bound_of ∙ length-drop n params ∙ omega (arith, none) in
    let past = no-param sent.sends_types sent.nulls sent.place ps sent.types sent.values empty in
    let at : sent.place + length ps ≡ sent.place = omega (arith, empty) in
    let types : drop (length ps) sent.types ≡ sent.types = ap (λ (k : ℕ). drop k sent.types) empty in
    record { none = (none, past.0); end = past.1; attributes = rw (at, types) refl }

-- those after the parameter at this place
abbrev pub others_at : List CBoundParam → ℕ → List BoundParam
others_at params i = bound_list (drop (i + 1) params)

module _ (old : ParamsBytes) (params : List CBoundParam) (i : ℕ) (x d : CBoundParam) (y : BoundParam) (fits : i < length params) (left : i + old.left ≡ length params) (is : x ≡ get_or params i d) (bound : y ≡ bound_of x) where
  -- as many are left
  pub left-with : length (y ∷ others_at params i) ≡ old.left
  left-with =
      let len : length (others_at params i) ≡ length params - (i + 1) = length-map (drop (i + 1) params) bound_of ∙ length-drop (i + 1) params in
      omega (arith, len, left, fits)

  before-it : left_of old (y ∷ others_at params i) ≡ last_left old params
  before-it =
      let at : length params - old.left ≡ i = omega (arith, left) in
      let first : bound_list (drop i params) ≡ y ∷ others_at params i = ap bound_list (drop_more params i d fits) ∙ ap (λ (b : BoundParam). b ∷ others_at params i) (sym (bound ∙ ap bound_of is)) in
      ap (left_of old) (sym first ∙ list-at params i (length params - old.left) at)

  one-given : (new : ParamsBytes) (pair : TypedParam) → Gives (left_of old (y ∷ others_at params i)) pair (left_of new (others_at params i)) → Gives (last_left old params) pair (last_left new params)
  one-given new pair gives =
      let at : length params - new.left ≡ i + 1 = omega (arith, left, gives.left) in
      let after : left_of new (others_at params i) ≡ last_left new params = ap (left_of new) (list-at params (i + 1) (length params - new.left) at) in
      let Q : ParamsLeft → Type 0 = λ l. Gives l pair (left_of new (others_at params i)) in
      subst (λ (l : ParamsLeft). Gives (last_left old params) pair l) after (subst Q before-it gives)

  none-given : (e : FaultOf) → RefusesParam e (left_of old (y ∷ others_at params i)) → RefusesParam e (last_left old params)
  none-given e refused = subst (RefusesParam e) before-it refused

  pub given-at : (r : Result TypedExecuteParam FaultOf) (new : ParamsBytes) → GivesBound old y (others_at params i) r new → IfOk r (λ it. Gives (last_left old params) (read_as it) (last_left new params))
  given-at (Ok it) new h = one-given new (read_as it) h
  given-at (Err e) new h = tt

  pub refused-at : (r : Result TypedExecuteParam FaultOf) (new : ParamsBytes) → GivesBound old y (others_at params i) r new → IfErr r (λ e. RefusesParam e (last_left old params) × (new ≡ old))
  refused-at (Ok it) new h = tt
  refused-at (Err e) new h = (none-given e h.0, h.1)

-- the parameters are read, and then the attributes
after-params : (view : ParamsLeft) (bytes : List ℕ) → view.end ≡ Ok bytes
    → execution_of view ≡ then_read (attributes_at view.attributes bytes).all (λ attributes rest. Ok ((view.params, attributes), rest))
after-params view bytes end =
    ap (λ (e : Result (List ℕ) FaultKind). then_read (params_to view.params e) (λ ps after. then_read (attributes_at view.attributes after).all (λ attributes rest. Ok ((ps, attributes), rest)))) end

-- a fault may follow any number of parameters
fault-after : (ps : List TypedParam) (end : Result (List ℕ) FaultKind) (e : FaultOf) → Faults false e (params_to [] end) → Faults false e (params_to ps end)
fault-after ps (Err k) e h = h
fault-after ps (Ok rest) fault.UnexpectedEof h = absurd cc
fault-after ps (Ok rest) (fault.InvalidData text) h = absurd cc
fault-after ps (Ok rest) (fault.InvalidInput text) h = absurd cc
fault-after ps (Ok rest) fault.Memory h = absurd cc

one-refused : (old new : ParamsLeft) (e : FaultOf) → KeepsRest old new → RefusesParam e new → Faults false e (execution_of old)
one-refused old new e kept refused =
    let at_end : Faults false e (params_to [] old.end) = rw (refused.0, kept.end) at refused.1 in
    then-fault (params_of old) (λ ps after. then_read (attributes_at old.attributes after).all (λ attributes rest. Ok ((ps, attributes), rest))) e (fault-after old.params old.end e at_end)

module _ (c : CapabilityFlags) (flags : ℕ) (list : List CBoundParam) (bytes : List ℕ) (sent after : ParamsBytes) (left : sent.left ≡ length list)
    (given : (params : List BoundParam) → length params ≡ length list → execution_of (left_of sent params) ≡ (execution c flags params).reads bytes) (kept : KeepsRest (last_left sent list) (last_left after list)) where
  abbrev old : ParamsLeft
  old = last_left sent list

  read : execution_of old ≡ (execution c flags (bound_list list)).reads bytes
  read = ap execution_of (all-left sent list left) ∙ given (bound_list list) (length-map list bound_of)

  -- the fault of a parameter
  pub params-refused : (e : FaultOf) → RefusesParam e (last_left after list) → Faults false e ((execution c flags (bound_list list)).reads bytes)
  params-refused e refused = subst (λ (r : _). Faults false e r) read (one-refused old (last_left after list) e kept refused)

  module _ (view : AttributesLeft) (is_view : view ≡ attributes_left after.nulls after.place after.types after.values) (none : after.left ≡ 0) where
    -- what is read after the parameters
    then-attributes : (execution c flags (bound_list list)).reads bytes ≡ then_read view.all (λ attributes rest. Ok ((old.params, attributes), rest))
    then-attributes =
        let past = none-left after list none in
        let at_end : old.end ≡ Ok after.values = sym kept.end ∙ past.end in
        let at_view : (attributes_at old.attributes after.values).all ≡ view.all = ap (λ (a : AttributesAhead). (attributes_at a after.values).all) (sym kept.attributes ∙ past.attributes) ∙ ap (λ (v : AttributesLeft). v.all) (sym is_view) in
        sym read ∙ after-params old after.values at_end ∙ ap (λ r. then_read r (λ attributes rest. Ok ((old.params, attributes), rest))) at_view

    pub attributes-refused : (e : FaultOf) → Faults false e view.all → Faults false e ((execution c flags (bound_list list)).reads bytes)
    attributes-refused e h =
        subst (λ (r : _). Faults false e r) (sym then-attributes) (then-fault view.all (λ attributes rest. Ok ((old.params, attributes), rest)) e h)

    pub all-read : (rest : List ℕ) → view.all ≡ Ok (attributes_read view.all, rest) → (execution c flags (bound_list list)).reads bytes ≡ Ok ((old.params, attributes_read view.all), rest)
    all-read rest h = then-attributes ∙ ap (λ r. then_read r (λ attributes rest. Ok ((old.params, attributes), rest))) h

-- whether types are sent
pub front-sends : (c : CapabilityFlags) (flags params : ℕ) (bytes : List ℕ) (b : ParamsBytes) → StandsAfter c flags params bytes b → sends_types ((execution_front c flags params).reads bytes) ≡ (if b.sends_types then 1 else 0)
front-sends c flags params bytes b (f, after, reads, is) = rw (reads, is) refl

-- ---- the whole execution

module _ (c : CapabilityFlags) (packet : List ℕ) (params : List BoundParam) (read : Reading ComStmtExecuteHead) (values : List CValue) (types : List CColumnType) where
  pub into-execution : (h : ComStmtExecuteHead) (after rest : List ℕ) (sends : Bool) (count : ℕ) (old new : CExecution) → read ≡ Ok (h, after)
      → TakesParams c (cursor_flags h) params (Ok (sends, count, rest)) values types after
      → new.statement_id ≡ stmt_id h → new.flags ≡ cursor_flags h → new.sends_types ≡ (if sends then 1 else 0) → new.attributes ≡ count → new.used ≡ used_of packet rest
      → ExecutionInto c packet params read values types 0 old new
  into-execution h after rest sends count old new e (list, attributes, reads, held, counted, sent) id flags sends_is count_is used =
      let front = sends_types ((execution_front c (cursor_flags h) (length params)).reads after) in
      let holds : HoldsExecution packet h front attributes rest new = record {
        statement_id = id;
        flags = flags;
        sends_types = sends_is ∙ sym sent;
        attributes = count_is ∙ sym counted;
        used = used;
      } in
      let into : ParamsInto ((execution c (cursor_flags h) params).reads after) values types (HoldsExecution packet h front) 0 old new =
      subst (λ (r : Reading (List TypedParam × List Attribute)). ParamsInto r values types (HoldsExecution packet h front) 0 old new) (sym reads) (refl, held, holds) in
      subst (λ (r : Reading ComStmtExecuteHead). ExecutionInto c packet params r values types 0 old new) (sym e) into

  head-fault : (old : CExecution) (k : FaultKind) → read ≡ Err k → ExecutionInto c packet params read values types (kind_code k) old old
  head-fault old k h = subst (λ (r : Reading ComStmtExecuteHead). ExecutionInto c packet params r values types (kind_code k) old old) (sym h) (refl, refl)

  pub fault-of-head : (old : CExecution) (e : FaultOf) → Faults false e read → ExecutionInto c packet params read values types (fault_code e) old old
  fault-of-head old fault.UnexpectedEof h = head-fault old kind.UnexpectedEof h
  fault-of-head old (fault.InvalidData text) h = head-fault old kind.InvalidData h
  fault-of-head old (fault.InvalidInput text) h = head-fault old kind.InvalidInput h
  fault-of-head old fault.Memory h = absurd cc

  params-fault : (old : CExecution) (h : ComStmtExecuteHead) (after : List ℕ) (k : FaultKind) → read ≡ Ok (h, after) → (execution c (cursor_flags h) params).reads after ≡ Err k
      → ExecutionInto c packet params read values types (kind_code k) old old
  params-fault old h after k e f =
      let front = sends_types ((execution_front c (cursor_flags h) (length params)).reads after) in
      let into : ParamsInto ((execution c (cursor_flags h) params).reads after) values types (HoldsExecution packet h front) (kind_code k) old old =
      subst (λ (r : Reading (List TypedParam × List Attribute)). ParamsInto r values types (HoldsExecution packet h front) (kind_code k) old old) (sym f) (refl, refl) in
      subst (λ (r : Reading ComStmtExecuteHead). ExecutionInto c packet params r values types (kind_code k) old old) (sym e) into

  pub fault-of-params : (old : CExecution) (h : ComStmtExecuteHead) (after : List ℕ) (e : FaultOf) → read ≡ Ok (h, after) → Faults false e ((execution c (cursor_flags h) params).reads after)
      → ExecutionInto c packet params read values types (fault_code e) old old
  fault-of-params old h after fault.UnexpectedEof is f = params-fault old h after kind.UnexpectedEof is f
  fault-of-params old h after (fault.InvalidData text) is f = params-fault old h after kind.InvalidData is f
  fault-of-params old h after (fault.InvalidInput text) is f = params-fault old h after kind.InvalidInput is f
  fault-of-params old h after fault.Memory is f = absurd cc

pub ruleset fills = (one-content, one-type, one-param-set)

pub ruleset executions = (not-memory, into-execution, fault-of-head, fault-of-params, good-filled, front-refused, head-refused, head-read)
