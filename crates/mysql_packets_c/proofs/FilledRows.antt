-- A row read into places.
use Rattle.std.proofs.Common.{◌≡◌, ◌-◌, ◌++◌, ◌∷◌, ◌+◌, ◌<◌, ◌≤◌, ℕ, List, [], get_or, refl, slice_set, Option, Result, Ok, Err, length, map, take, drop, false, sym, subst, ap, ◌∙◌, arith, ◌==◌, Bool, if◌then◌else◌}
use Rattle.std.proofs.lemmas.List.{append-nil, append_assoc, drop-drop, drop-set-lt, get_or-drop, length-map, length-set, length-take-le, map-append, take_more, take_more_set}
use Rattle.std.proofs.lemmas.List.Elements.{AllZip-push}
use Rattle.std.specs.List.{AllZip}
use Rattle.mysql_wire.specs.declared.fault.FaultKind.{FaultKind}
use Rattle.mysql_wire.specs.declared.fault.FaultOf.{FaultOf}
use Rattle.mysql_wire.specs.declared.fault.FaultOf.TheVariants as fault
use Rattle.mysql_wire.specs.Reading.{Reading, Faults}
use Rattle.mysql_values.specs.ContentEq.{kind_of}
use Rattle.mysql_values.specs.ParamValue.{ParamContent, Plain, WithOffset}
use Rattle.mysql_values.specs.Value.{Content, NULL, Bytes, Int, UInt, Float, Double, Date, Time}
use Rattle.mysql_stmt.specs.RowView.{Gives, IsBinaryRow, RowLeft, IsDone, RefusesNext, read_to, read_of, row_front, text_row_left}
use Rattle.mysql_packets_c.specs.ColumnType.{type_of, unsigned_of}
use Rattle.mysql_packets_c.specs.Rows.{Fills, FillsGood, good_after, good_binary, good_text, values_held}
use Rattle.mysql_packets_c.specs.Value.{IsSet, Sets, SetsParam, date_with_offset_of, param_content, value_content}
use Rattle.mysql_packets_c.specs.declared.rows.CColumnType.{CColumnType}
use Rattle.mysql_packets_c.specs.declared.value.CValue.{CValue}

-- the content of the places so far
abbrev pub SoFar : (first row : RowLeft) (before values : List CValue) → ℕ → Type 0
SoFar first row before values place = record {
  count : place + row.left ≡ first.left;
  good : first.values ≡ map value_content (take place values) ++ row.values;
  end : row.end ≡ first.end;
  set : AllZip IsSet (take place before) (take place values);
  others : drop place values ≡ drop place before;
  len : length values ≡ length before;
}

-- one more value is in its place
pub one-more : {C : Type 0} (held : CValue → C) (values : List CValue) (place : ℕ) (x : CValue) (read left more : List C) (c : C) → read ≡ map held (take place values) ++ left → left ≡ c ∷ more
    → held x ≡ c → place < length values → read ≡ map held (take (place + 1) (slice_set values place x)) ++ more
one-more held values place x read left more c before first is fits =
    let stored = ap (map held) (take_more_set values place x fits) ∙ map-append held (take place values) (x ∷ []) in
    before ∙ ap (λ vs. map held (take place values) ++ vs) (first ∙ ap (λ v. v ∷ more) (sym is))
    ∙ sym (ap (λ vs. vs ++ more) stored ∙ append_assoc (map held (take place values)) (held x ∷ []) more)

-- one more place is set
pub one-param-set : (before values : List CValue) (place : ℕ) (x z : CValue) (c : ParamContent) → AllZip IsSet (take place before) (take place values) → drop place values ≡ drop place before
    → length values ≡ length before → place < length values → param_content x ≡ c → SetsParam c (get_or values place z) x
    → AllZip IsSet (take (place + 1) before) (take (place + 1) (slice_set values place x))
one-param-set before values place x z c set others len fits content sets =
    let whole : place + 0 ≡ place = omega arith in
    let here : get_or values place z ≡ get_or before place z =
    ap (λ n. get_or values n z) (sym whole) ∙ sym (get_or-drop place values 0 z) ∙ ap (λ xs. get_or xs 0 z) others ∙ get_or-drop place before 0 z ∙ ap (λ n. get_or before n z) whole in
    let fits_before : place < length before = omega arith in
    let own : IsSet (get_or values place z) x = subst (λ (v : ParamContent). SetsParam v (get_or values place z) x) (sym content) sets in
    let is_set : IsSet (get_or before place z) x = subst (λ (d : CValue). IsSet d x) here own in
    let pushed : AllZip IsSet (take place before ++ get_or before place z ∷ []) (take place values ++ x ∷ []) = AllZip-push IsSet (take place before) (take place values) (get_or before place z) x set is_set in
    subst (λ xs. AllZip IsSet (take (place + 1) before) xs) (sym (take_more_set values place x fits))
    (subst (λ ys. AllZip IsSet ys (take place values ++ x ∷ [])) (sym (take_more before place z fits_before)) pushed)

kind-of-eight : (c : Content) → (kind_of c == 8) ≡ false
kind-of-eight NULL = refl
kind-of-eight (Bytes bytes) = refl
kind-of-eight (Int n) = refl
kind-of-eight (UInt n) = refl
kind-of-eight (Float bits) = refl
kind-of-eight (Double bits) = refl
kind-of-eight (Date fields) = refl
kind-of-eight (Time fields) = refl

plain-kind : (x : CValue) (n : ℕ) → x.kind ≡ n → (n == 8) ≡ false → param_content x ≡ Plain (value_content x)
unfolding param_content
plain-kind x n kind not_eight =
    ap (λ (k : ℕ). if k == 8 then WithOffset (date_with_offset_of x) else Plain (value_content x)) kind
    ∙ ap (λ (b : Bool). if b then WithOffset (date_with_offset_of x) else Plain (value_content x)) not_eight

-- as a parameter it has the same content
plain-held : (c : Content) (old x : CValue) → value_content x ≡ c → Sets c old x → param_content x ≡ Plain c
plain-held c old x is sets = plain-kind x (kind_of c) sets.kind (kind-of-eight c) ∙ ap Plain is

pub one-set : (before values : List CValue) (place : ℕ) (x z : CValue) (c : Content) → AllZip IsSet (take place before) (take place values) → drop place values ≡ drop place before
    → length values ≡ length before → place < length values → value_content x ≡ c → Sets c (get_or values place z) x
    → AllZip IsSet (take (place + 1) before) (take (place + 1) (slice_set values place x))
one-set before values place x z c set others len fits content sets =
    one-param-set before values place x z (Plain c) set others len fits (plain-held c (get_or values place z) x content sets) sets

-- the places after it are unchanged
pub others-kept : {X : Type 0} (before values : List X) (place : ℕ) (x : X) → drop place values ≡ drop place before → drop (place + 1) (slice_set values place x) ≡ drop (place + 1) before
others-kept before values place x others =
    let past : place < place + 1 = omega arith in
    drop-set-lt (place + 1) values place x past ∙ sym (drop-drop 1 place values) ∙ ap (drop 1) others ∙ drop-drop 1 place before

-- one more value is stored in its place
pub one-filled : (first row after : RowLeft) (before values : List CValue) (place : ℕ) (x z : CValue) (c : Content) → SoFar first row before values place
    → Gives row c after → value_content x ≡ c → Sets c (get_or values place z) x → place < length values
    → SoFar first after before (slice_set values place x) (place + 1)
one-filled first row after before values place x z c so_far gives content sets fits = record {
  count = omega (arith, so_far.count, gives.0);
  good = one-more value_content values place x first.values row.values after.values c so_far.good gives.1 content fits;
  end = gives.2 ∙ so_far.end;
  set = one-set before values place x z c so_far.set so_far.others so_far.len fits content sets;
  others = others-kept before values place x so_far.others;
  len = length-set values place x ∙ so_far.len;
}

-- everything before the fault was read
module _ (old new : RowLeft) (before after : List CValue) (fit : old.left ≤ length before) (fills : Fills old new before after) (none : new.values ≡ []) where
  abbrev count : ℕ
  count = old.left - new.left

  all-good : old.values ≡ map value_content (take count after)
  all-good = fills.values ∙ ap (λ vs. map value_content (take count after) ++ vs) none ∙ append-nil (map value_content (take count after))

  good-count : length old.values ≡ count
  good-count = ap length all-good ∙ length-map (take count after) value_content ∙ length-take-le count after (omega (arith, fit, fills.len))

  pub good-filled : FillsGood old.values before after
  good-filled = record {
    held = ap (λ n. map value_content (take n after)) good-count ∙ sym all-good;
    places = record {
      set = subst (λ (n : ℕ). AllZip IsSet (take n before) (take n after)) (sym good-count) fills.set;
      others = subst (λ (n : ℕ). drop n after ≡ drop n before) (sym good-count) fills.others;
    };
  }

-- of a text row, complete or not
pub text-whole : (columns : ℕ) (packet : List ℕ) (old new : RowLeft) (before after : List CValue) → old ≡ text_row_left columns packet → columns ≤ length before
    → Fills old new before after → IsDone new → FillsGood (good_text columns packet) before after
text-whole columns packet old new before after is fit fills done =
    subst (λ (r : RowLeft). FillsGood r.values before after) is (good-filled old new before after (omega (arith, ap (λ (r : RowLeft). r.left) is, fit)) fills done.1)

pub text-refused : (columns : ℕ) (packet : List ℕ) (old new : RowLeft) (before after : List CValue) (e : FaultOf) → old ≡ text_row_left columns packet → columns ≤ length before
    → Fills old new before after → RefusesNext e new → FillsGood (good_text columns packet) before after
text-refused columns packet old new before after e is fit fills refused =
    subst (λ (r : RowLeft). FillsGood r.values before after) is (good-filled old new before after (omega (arith, ap (λ (r : RowLeft). r.left) is, fit)) fills refused.0)

-- of a binary row after its front
binary-good : (columns : List CColumnType) (packet : List ℕ) (row : RowLeft) (before after : List CValue) → IsBinaryRow type_of unsigned_of 2 columns packet row
    → FillsGood row.values before after → FillsGood (good_binary columns packet) before after
binary-good columns packet row before after is h =
    subst (λ (r : _). FillsGood (good_after columns r) before after) (sym is.2) (subst (λ (r : RowLeft). FillsGood r.values before after) is.3 h)

pub binary-whole : (columns : List CColumnType) (packet : List ℕ) (old new : RowLeft) (before after : List CValue) → IsBinaryRow type_of unsigned_of 2 columns packet old
    → old.left ≤ length before → Fills old new before after → IsDone new → FillsGood (good_binary columns packet) before after
binary-whole columns packet old new before after is fit fills done =
    binary-good columns packet old before after is (good-filled old new before after fit fills done.1)

pub binary-refused : (columns : List CColumnType) (packet : List ℕ) (old new : RowLeft) (before after : List CValue) (e : FaultOf) → IsBinaryRow type_of unsigned_of 2 columns packet old
    → old.left ≤ length before → Fills old new before after → RefusesNext e new → FillsGood (good_binary columns packet) before after
binary-refused columns packet old new before after e is fit fills refused =
    binary-good columns packet old before after is (good-filled old new before after fit fills refused.0)

-- a faulty front has no value after it
nothing-filled : (before : List CValue) → FillsGood [] before before
nothing-filled before = record { held = refl; places = record { set = tt; others = refl } }

pub front-refused : (columns : List CColumnType) (packet : List ℕ) (before : List CValue) (e : FaultOf) → Faults false e ((row_front type_of unsigned_of 2 columns).reads packet)
    → FillsGood (good_binary columns packet) before before
front-refused columns packet before fault.UnexpectedEof h = subst (λ (r : _). FillsGood (good_after columns r) before before) (sym h) (nothing-filled before)
front-refused columns packet before (fault.InvalidData text) h = subst (λ (r : _). FillsGood (good_after columns r) before before) (sym h) (nothing-filled before)
front-refused columns packet before (fault.InvalidInput text) h = subst (λ (r : _). FillsGood (good_after columns r) before before) (sym h) (nothing-filled before)
front-refused columns packet before fault.Memory h = absurd cc

-- all values were read, and these bytes are left
pub all-read : (read : Reading (List (Option Content))) (old new : RowLeft) (before after : List CValue) (rest : List ℕ)
    → read_of old ≡ read → Fills old new before after → IsDone new → new.end ≡ Ok rest → read ≡ Ok (values_held (take old.left after), rest)
all-read read old new before after rest is fills done end =
    let whole : old.left - 0 ≡ old.left = omega arith in
    let counted : old.values ≡ map value_content (take (old.left - 0) after) = rw (done.0, done.1, append-nil) at fills.values in
    let values = subst (λ (n : ℕ). old.values ≡ map value_content (take n after)) whole counted in
    sym is ∙ ap (λ vs. read_to vs old.end) values ∙ ap (λ e. read_to (map value_content (take old.left after)) e) (sym fills.end ∙ end)

-- a fault comes after any values
fault-after : (vs : List Content) (end : Result (List ℕ) FaultKind) (e : FaultOf) → Faults false e (read_to [] end) → Faults false e (read_to vs end)
fault-after vs (Err k) e h = h
fault-after vs (Ok rest) fault.UnexpectedEof h = absurd cc
fault-after vs (Ok rest) (fault.InvalidData text) h = absurd cc
fault-after vs (Ok rest) (fault.InvalidInput text) h = absurd cc
fault-after vs (Ok rest) fault.Memory h = absurd cc

pub one-refused : (read : Reading (List (Option Content))) (old new : RowLeft) (before after : List CValue) (e : FaultOf)
    → read_of old ≡ read → Fills old new before after → RefusesNext e new → Faults false e read
one-refused read old new before after e is fills refused =
    let at_end : Faults false e (read_to [] old.end) = rw (refused.0, fills.end) at refused.1 in
    subst (λ (r : _). Faults false e r) is (fault-after old.values old.end e at_end)

pub ruleset rows = (one-more, one-set, all-read, one-refused, text-whole, text-refused, binary-whole, binary-refused, front-refused)
