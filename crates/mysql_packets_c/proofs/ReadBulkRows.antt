-- The types and the rows of a bulk execution, read in order.
use Rattle.std.proofs.Common.{◌≡◌, ◌<◌, ◌≤◌, ◌+◌, ◌*◌, ◌-◌, ◌++◌, ◌∷◌, ℕ, suc, Bool, true, false, List, [], length, map, take, drop, get_or, slice_set, Result, Ok, Err, refl, sym, subst, ap, ◌∙◌, arith, if◌then◌else◌, nat_lt}
use Rattle.std.proofs.lemmas.Bool.{lt-ltb}
use Rattle.std.proofs.lemmas.List.{append-nil, append_assoc, drop_all, drop_more, get_or-map, length-map, length-set, length-take-le, map-append, take_all, take_more_set}
use Rattle.std.specs.List.{AllZip}
use Rattle.mysql_wire.specs.Each.{each}
use Rattle.mysql_wire.specs.FlagMasks.{UNSIGNED, UNSIGNED_FLAG}
use Rattle.mysql_wire.specs.Flags.{has}
use Rattle.mysql_wire.specs.Form.{bytes}
use Rattle.mysql_wire.specs.MariadbBulkIndicator.{mariadb_bulk_indicator_code}
use Rattle.mysql_wire.specs.Reading.{Reading, Faults, then_read}
use Rattle.mysql_wire.specs.Seq.{counted}
use Rattle.mysql_wire.specs.declared.fault.FaultKind.TheVariants as kind
use Rattle.mysql_wire.specs.declared.fault.FaultKind.{FaultKind}
use Rattle.mysql_wire.specs.declared.fault.FaultOf.TheVariants as fault
use Rattle.mysql_wire.specs.declared.fault.FaultOf.{FaultOf}
use Rattle.mysql_wire.proofs.Counted.{all-read, fails-as, next-item, with_front}
use Rattle.mysql_wire.proofs.Each.{next-one, none-left, one-fails}
use Rattle.mysql_values.specs.ParamType.{param_type}
use Rattle.mysql_values.specs.Value.{Content}
use Rattle.mysql_values.specs.declared.param_type.ParamType.{ParamType}
use Rattle.mysql_bulk.specs.HeadTypes.{types_block}
use Rattle.mysql_bulk.specs.ParamValue.{ParamValue, contents, param_value}
use Rattle.mysql_bulk.specs.ParamValues.{BulkColumn, value_of_column}
use Rattle.mysql_bulk.specs.ReadRows.{content_of_column, row_of_columns}
use Rattle.mysql_bulk.proofs.HeadTypes.{types_read, types_short}
use Rattle.mysql_packets_c.specs.BulkRow.{ContentsInto, FillsRow, FillsTypes, HoldsRow, ReadsRow, ReadsTypes, RowInto, TypesInto, bulk_row, column_of, good_block, good_row, good_types, indicators_of, types_held}
use Rattle.mysql_packets_c.specs.Code.{fault_code, kind_code}
use Rattle.mysql_packets_c.specs.ColumnType.{type_of, unsigned_of}
use Rattle.mysql_packets_c.specs.Execution.{type_held}
use Rattle.mysql_packets_c.specs.Value.{IsSet, Sets, value_content, values_contents}
use Rattle.mysql_packets_c.specs.declared.rows.CColumnType.{CColumnType}
use Rattle.mysql_packets_c.specs.declared.text.CBytes.{CBytes}
use Rattle.mysql_packets_c.specs.declared.value.CValue.{CValue}
use Rattle.mysql_packets_c.proofs.FilledRows.{one-set, others-kept}

-- ---- types

-- the types so far are in the first places
pub record TypesSoFar (old rest : List ℕ) (before types : List CColumnType) (place : ℕ) : Type 0 where
  pub found : List ParamType
  pub read : (n : ℕ) → place ≤ n → with_front found ((counted (n - place) (param_type.form tt)).reads rest) ≡ (counted n (param_type.form tt)).reads old
  pub good : good_types (length before) old ≡ found ++ good_types (length before - place) rest
  pub held : take place types ≡ types_held found
  pub others : drop place types ≡ drop place before
  pub len : length types ≡ length before
  pub within : place ≤ length before

front-none : {A : Type 0} (read : Reading (List A)) → with_front [] read ≡ read
front-none (Ok x) = refl
front-none (Err e) = refl

pub no-type : (old : List ℕ) (before : List CColumnType) → TypesSoFar old old before before 0
no-type old before = record {
  found = [];
  read = λ n le. let whole : n - 0 ≡ n = omega arith in rw whole (front-none ((counted n (param_type.form tt)).reads old));
  good = let whole : length before - 0 ≡ length before = omega arith in rw whole refl;
  held = refl;
  others = refl;
  len = refl;
  within = omega arith;
}

one-good : (m k : ℕ) (rest after : List ℕ) (t : ParamType) → m ≡ suc k → (param_type.form tt).reads rest ≡ Ok (t, after) → good_types m rest ≡ t ∷ good_types k after
one-good m k rest after t e reads = rw (e, reads) refl

none-good : (m k : ℕ) (rest : List ℕ) (e : FaultOf) → m ≡ suc k → Faults false e ((param_type.form tt).reads rest) → good_types m rest ≡ []
none-good m k rest fault.UnexpectedEof e h = rw (e, h) refl
none-good m k rest (fault.InvalidData text) e h = rw (e, h) refl
none-good m k rest (fault.InvalidInput text) e h = rw (e, h) refl
none-good m k rest fault.Memory e h = absurd cc

pub one-type : (old rest after : List ℕ) (before types : List CColumnType) (place : ℕ) (t : ParamType) (x : CColumnType) → TypesSoFar old rest before types place → place < length before
    → (param_type.form tt).reads rest ≡ Ok (t, after) → x ≡ type_held t → TypesSoFar old after before (slice_set types place x) (place + 1)
one-type old rest after before types place t x s lt reads is =
    let fits : place < length types = omega (arith, lt, s.len) in
    record {
      found = s.found ++ t ∷ [];
      read = λ n le. next-item (param_type.form tt) s.found t n place rest after _ (omega (arith, le)) reads (s.read n (omega (arith, le)));
      good = s.good ∙ ap (λ l. s.found ++ l) (one-good (length before - place) (length before - (place + 1)) rest after t (omega (arith, lt)) reads)
          ∙ sym (append_assoc s.found (t ∷ []) (good_types (length before - (place + 1)) after));
      held = take_more_set types place x fits ∙ ap (λ l. l ++ x ∷ []) s.held ∙ ap (λ y. types_held s.found ++ y ∷ []) is ∙ sym (map-append type_held s.found (t ∷ []));
      others = others-kept before types place x s.others;
      len = length-set types place x ∙ s.len;
      within = omega (arith, lt);
    }

pub type-refused : (old rest : List ℕ) (before types : List CColumnType) (place : ℕ) (e : FaultOf) → TypesSoFar old rest before types place → place < length before
    → Faults false e ((param_type.form tt).reads rest) → Faults false e ((counted (length before) (param_type.form tt)).reads old)
type-refused old rest before types place e s lt h = fails-as (param_type.form tt) false false s.found e (length before) place rest _ lt (λ x. x) h (s.read (length before) s.within)

pub all-types : (old rest : List ℕ) (before types : List CColumnType) (place : ℕ) → TypesSoFar old rest before types place → length before ≤ place
    → ReadsTypes (Ok tt) types rest ((counted (length before) (param_type.form tt)).reads old)
all-types old rest before types place s le =
    let all : take place types ≡ types = take_all place types (omega (arith, le, s.len)) in
    (s.found, all-read (param_type.form tt) s.found (length before) place rest _ le (s.read (length before) s.within), sym all ∙ s.held)

-- those that were read are in the first places
types-filled : (old rest : List ℕ) (before types : List CColumnType) (place : ℕ) → TypesSoFar old rest before types place → good_types (length before - place) rest ≡ []
    → FillsTypes (good_types (length before) old) before types
types-filled old rest before types place s none =
    let all : good_types (length before) old ≡ s.found = s.good ∙ ap (λ l. s.found ++ l) none ∙ append-nil s.found in
    let count : length s.found ≡ place = sym (length-map s.found type_held) ∙ sym (ap length s.held) ∙ length-take-le place types (omega (arith, s.within, s.len)) in
    subst (λ (good : List ParamType). FillsTypes good before types) (sym all) (record {
      held = subst (λ (n : ℕ). take n types ≡ types_held s.found) (sym count) s.held;
      others = subst (λ (n : ℕ). drop n types ≡ drop n before) (sym count) s.others;
    })

pub all-filled : (old rest : List ℕ) (before types : List CColumnType) (place : ℕ) → TypesSoFar old rest before types place → length before ≤ place → FillsTypes (good_types (length before) old) before types
all-filled old rest before types place s le = types-filled old rest before types place s (let none : length before - place ≡ 0 = omega (arith, le) in rw none refl)

pub good-filled : (old rest : List ℕ) (before types : List CColumnType) (place : ℕ) (e : FaultOf) → TypesSoFar old rest before types place → place < length before
    → Faults false e ((param_type.form tt).reads rest) → FillsTypes (good_types (length before) old) before types
good-filled old rest before types place e s lt h =
    types-filled old rest before types place s (none-good (length before - place) (length before - (place + 1)) rest e (omega (arith, lt)) h)

no-types-filled : (types : List CColumnType) → FillsTypes [] types types
no-types-filled types = record { held = refl; others = refl }

-- in their block
abbrev bytes_if : (short : Bool) → ℕ → List ℕ → Reading (List ℕ)
bytes_if true count old = Err kind.UnexpectedEof
bytes_if false count old = Ok (take count old, drop count old)

front-of : (short : Bool) (count : ℕ) (old block rest : List ℕ) → bytes_if short count old ≡ Ok (block, rest) → block ≡ take count old
front-of true count old block rest e = absurd cc
front-of false count old block rest e = let same : (take count old, drop count old) ≡ (block, rest) = cc in sym (ap (λ (p : List ℕ × List ℕ). p.0) same)

good-of : (short : Bool) (count : ℕ) (old block rest : List ℕ) → bytes_if short (2 * count) old ≡ Ok (block, rest) → (if short then [] else good_types count (take (2 * count) old)) ≡ good_types count block
good-of true count old block rest e = absurd cc
good-of false count old block rest e = ap (good_types count) (sym (front-of false (2 * count) old block rest e))

block-good : (short : Bool) (count : ℕ) (old block rest : List ℕ) → nat_lt (length old) (2 * count) ≡ short → (bytes (2 * count)).reads old ≡ Ok (block, rest) → good_block count old ≡ good_types count block
unfolding bytes
block-good true count old block rest e reads = rw e (good-of true count old block rest (rw e at reads))
block-good false count old block rest e reads = rw e (good-of false count old block rest (rw e at reads))

pub block-filled : (count : ℕ) (old block rest : List ℕ) (before types : List CColumnType) → (bytes (2 * count)).reads old ≡ Ok (block, rest) → FillsTypes (good_types count block) before types → FillsTypes (good_block count old) before types
block-filled count old block rest before types e fills =
    subst (λ (good : List ParamType). FillsTypes good before types) (sym (block-good (nat_lt (length old) (2 * count)) count old block rest refl e)) fills

-- no type is read of fewer bytes
pub short-block : (count : ℕ) (old : List ℕ) (types : List CColumnType) → length old < 2 * count → FillsTypes (good_block count old) types types
short-block count old types lt = rw (lt-ltb (length old) (2 * count) lt) (no-types-filled types)

missing-as : (short : Bool) (count : ℕ) (old : List ℕ) (types : List CColumnType) (k : FaultKind) → nat_lt (length old) (2 * count) ≡ short → (bytes (2 * count)).reads old ≡ Err k → FillsTypes (good_block count old) types types
unfolding bytes
missing-as true count old types k e reads = rw e (no-types-filled types)
missing-as false count old types k e reads = absurd (let none = rw e at reads in cc)

missing-block-as : (count : ℕ) (old : List ℕ) (types : List CColumnType) (k : FaultKind) → (bytes (2 * count)).reads old ≡ Err k → FillsTypes (good_block count old) types types
missing-block-as count old types k reads = missing-as (nat_lt (length old) (2 * count)) count old types k refl reads

pub missing-block : (count : ℕ) (old : List ℕ) (types : List CColumnType) (e : FaultOf) → Faults false e ((bytes (2 * count)).reads old) → FillsTypes (good_block count old) types types
missing-block count old types fault.UnexpectedEof h = missing-block-as count old types kind.UnexpectedEof h
missing-block count old types (fault.InvalidData text) h = missing-block-as count old types kind.InvalidData h
missing-block count old types (fault.InvalidInput text) h = missing-block-as count old types kind.InvalidInput h
missing-block count old types fault.Memory h = absurd cc

block-read : (count : ℕ) (old block rest left : List ℕ) (types : List CColumnType) → (bytes (2 * count)).reads old ≡ Ok (block, rest) → ReadsTypes (Ok tt) types left ((counted count (param_type.form tt)).reads block)
    → ReadsTypes (Ok tt) types rest ((types_block true count).reads old)
block-read count old block rest left types e (found, reads, held) = (found, types_read count old block rest left found e reads, held)

block-faults : (count : ℕ) (old block rest : List ℕ) (k : FaultKind) → (bytes (2 * count)).reads old ≡ Ok (block, rest) → (counted count (param_type.form tt)).reads block ≡ Err k → (types_block true count).reads old ≡ Err k
block-faults count old block rest k e q = rw (e, q) refl

block-refused : (count : ℕ) (old block rest : List ℕ) (e : FaultOf) → (bytes (2 * count)).reads old ≡ Ok (block, rest) → Faults false e ((counted count (param_type.form tt)).reads block)
    → Faults false e ((types_block true count).reads old)
block-refused count old block rest fault.UnexpectedEof e h = block-faults count old block rest kind.UnexpectedEof e h
block-refused count old block rest (fault.InvalidData text) e h = block-faults count old block rest kind.InvalidData e h
block-refused count old block rest (fault.InvalidInput text) e h = block-faults count old block rest kind.InvalidInput e h
block-refused count old block rest fault.Memory e h = absurd cc

pub block-answers : (count : ℕ) (old block rest left : List ℕ) (types : List CColumnType) (result : Result (Unit {0}) FaultOf) → (bytes (2 * count)).reads old ≡ Ok (block, rest)
    → ReadsTypes result types left ((counted count (param_type.form tt)).reads block) → ReadsTypes result types rest ((types_block true count).reads old)
block-answers count old block rest left types (Ok done) e h = block-read count old block rest left types e h
block-answers count old block rest left types (Err fault) e h = block-refused count old block rest fault e h

no-block : (count : ℕ) (old : List ℕ) (k : FaultKind) → (bytes (2 * count)).reads old ≡ Err k → (types_block true count).reads old ≡ Err k
no-block count old k e = rw e refl

pub block-missing : (count : ℕ) (old : List ℕ) (e : FaultOf) → Faults false e ((bytes (2 * count)).reads old) → Faults false e ((types_block true count).reads old)
block-missing count old fault.UnexpectedEof h = no-block count old kind.UnexpectedEof h
block-missing count old (fault.InvalidData text) h = no-block count old kind.InvalidData h
block-missing count old (fault.InvalidInput text) h = no-block count old kind.InvalidInput h
block-missing count old fault.Memory h = absurd cc

pub types-into : (read : Reading (List ParamType)) (old new : CBytes) (places : List CColumnType) (rest : List ℕ) → ReadsTypes (Ok tt) places rest read → new.bytes.now ≡ rest → TypesInto read 0 old new places
types-into read old new places rest (found, reads, held) left = subst (λ (r : Reading (List ParamType)). TypesInto r 0 old new places) (sym reads) (refl, held, left)

pub types-fault : (read : Reading (List ParamType)) (old : CBytes) (places : List CColumnType) (e : FaultOf) → Faults false e read → TypesInto read (fault_code e) old old places
types-fault read old places fault.UnexpectedEof h = subst (λ (r : Reading (List ParamType)). TypesInto r 1 old old places) (sym h) (refl, refl)
types-fault read old places (fault.InvalidData text) h = subst (λ (r : Reading (List ParamType)). TypesInto r 2 old old places) (sym h) (refl, refl)
types-fault read old places (fault.InvalidInput text) h = subst (λ (r : Reading (List ParamType)). TypesInto r 3 old old places) (sym h) (refl, refl)
types-fault read old places fault.Memory h = absurd cc

-- ---- columns

unsigned-column : (c : CColumnType) → has (column_of c).1.0 UNSIGNED_FLAG ≡ unsigned_of c
unsigned-column c = by (unsigned_of c)
  where
    by : (u : Bool) → has (if has (if u then 128 else 0) UNSIGNED then UNSIGNED_FLAG else 0) UNSIGNED_FLAG ≡ u
    by true = refl
    by false = refl

column-reads : (c d : CColumnType) (types : List CColumnType) (place : ℕ) (rest : List ℕ) → c ≡ get_or types place d → place < length types
    → (value_of_column place (get_or (map column_of types) place (column_of d))).reads rest ≡ (param_value (type_of c) (unsigned_of c)).reads rest
column-reads c d types place rest is lt =
    ap (λ column. (value_of_column place column).reads rest) (get_or-map column_of types place d (column_of d) lt ∙ ap column_of (sym is))
    ∙ ap (λ u. (param_value (type_of c) u).reads rest) (unsigned-column c)

-- ---- rows

-- the values so far are in the first places, with their indicators
pub record RowSoFar (types : List CColumnType) (old rest : List ℕ) (values_before values : List CValue) (indicators_before indicators : List ℕ) (place : ℕ) : Type 0 where
  pub row : List ParamValue
  pub read : with_front row ((each value_of_column place (drop place (map column_of types))).reads rest) ≡ (bulk_row types).reads old
  pub good : good_row types old ≡ row ++ good_row (drop place types) rest
  pub held : HoldsRow row (take place values) (take place indicators)
  pub set : AllZip IsSet (take place values_before) (take place values)
  pub other_values : drop place values ≡ drop place values_before
  pub other_indicators : drop place indicators ≡ drop place indicators_before
  pub within : place ≤ length types
  pub value_places : length values ≡ length values_before
  pub indicator_places : length indicators ≡ length indicators_before

pub no-value : (types : List CColumnType) (old : List ℕ) (values : List CValue) (indicators : List ℕ) → RowSoFar types old old values values indicators indicators 0
no-value types old values indicators = record {
  row = [];
  read = front-none ((bulk_row types).reads old);
  good = refl;
  held = record { values_are = refl; indicators_are = refl };
  set = tt;
  other_values = refl;
  other_indicators = refl;
  within = omega arith;
  value_places = refl;
  indicator_places = refl;
}

held-next : (row : List ParamValue) (p : ParamValue) (values : List CValue) (indicators : List ℕ) (place code : ℕ) (value : CValue) → HoldsRow row (take place values) (take place indicators)
    → place < length values → place < length indicators → value_content value ≡ p.content → code ≡ mariadb_bulk_indicator_code p.indicator
    → HoldsRow (row ++ p ∷ []) (take (place + 1) (slice_set values place value)) (take (place + 1) (slice_set indicators place code))
held-next row p values indicators place code value h fits fits_indicators content is = record {
  values_are = ap values_contents (take_more_set values place value fits)
      ∙ map-append value_content (take place values) (value ∷ [])
      ∙ ap (λ l. l ++ value_content value ∷ []) h.values_are
      ∙ ap (λ v. contents row ++ v ∷ []) content
      ∙ sym (map-append (λ v. v.content) row (p ∷ []));
  indicators_are = take_more_set indicators place code fits_indicators
      ∙ ap (λ l. l ++ code ∷ []) h.indicators_are
      ∙ ap (λ i. indicators_of row ++ i ∷ []) is
      ∙ sym (map-append (λ v. mariadb_bulk_indicator_code v.indicator) row (p ∷ []));
}

good-value : (types : List CColumnType) (place : ℕ) (c d : CColumnType) (p : ParamValue) (rest after : List ℕ) → place < length types → c ≡ get_or types place d
    → (param_value (type_of c) (unsigned_of c)).reads rest ≡ Ok (p, after) → good_row (drop place types) rest ≡ p ∷ good_row (drop (place + 1) types) after
good-value types place c d p rest after lt is reads = rw (drop_more types place d lt, ← is, reads) refl

none-good-value : (types : List CColumnType) (place : ℕ) (c d : CColumnType) (rest : List ℕ) (e : FaultOf) → place < length types → c ≡ get_or types place d
    → Faults false e ((param_value (type_of c) (unsigned_of c)).reads rest) → good_row (drop place types) rest ≡ []
none-good-value types place c d rest fault.UnexpectedEof lt is h = rw (drop_more types place d lt, ← is, h) refl
none-good-value types place c d rest (fault.InvalidData text) lt is h = rw (drop_more types place d lt, ← is, h) refl
none-good-value types place c d rest (fault.InvalidInput text) lt is h = rw (drop_more types place d lt, ← is, h) refl
none-good-value types place c d rest fault.Memory lt is h = absurd cc

pub one-value : (types : List CColumnType) (old rest after : List ℕ) (values_before values : List CValue) (indicators_before indicators : List ℕ) (place code : ℕ) (c d : CColumnType) (value z : CValue) (p : ParamValue)
    → RowSoFar types old rest values_before values indicators_before indicators place → place < length types → length types ≤ length values_before → length types ≤ length indicators_before
    → c ≡ get_or types place d → (param_value (type_of c) (unsigned_of c)).reads rest ≡ Ok (p, after)
    → value_content value ≡ p.content → Sets p.content (get_or values place z) value → code ≡ mariadb_bulk_indicator_code p.indicator
    → RowSoFar types old after values_before (slice_set values place value) indicators_before (slice_set indicators place code) (place + 1)
one-value types old rest after values_before values indicators_before indicators place code c d value z p s lt some_values some_indicators is reads content sets coded =
    let fits : place < length values = omega (arith, lt, some_values, s.value_places) in
    let fits_indicators : place < length indicators = omega (arith, lt, some_indicators, s.indicator_places) in
    let within : place < length (map column_of types) = omega (arith, lt, length-map types column_of) in
    record {
      row = s.row ++ p ∷ [];
      read = next-one value_of_column s.row (map column_of types) place rest _ s.read (column_of d) p after within (column-reads c d types place rest is lt ∙ reads);
      good = s.good ∙ ap (λ l. s.row ++ l) (good-value types place c d p rest after lt is reads) ∙ sym (append_assoc s.row (p ∷ []) (good_row (drop (place + 1) types) after));
      held = held-next s.row p values indicators place code value s.held fits fits_indicators content coded;
      set = one-set values_before values place value z p.content s.set s.other_values s.value_places fits content sets;
      other_values = others-kept values_before values place value s.other_values;
      other_indicators = others-kept indicators_before indicators place code s.other_indicators;
      within = omega (arith, lt);
      value_places = length-set values place value ∙ s.value_places;
      indicator_places = length-set indicators place code ∙ s.indicator_places;
    }

-- a reader that doesn't allocate doesn't return Memory
without-memory : {A B : Type 0} (e : FaultOf) (part : Reading A) (read : Reading B) → Faults false e part → Faults true e read → Faults false e read
without-memory fault.UnexpectedEof part read h f = f
without-memory (fault.InvalidData text) part read h f = f
without-memory (fault.InvalidInput text) part read h f = f
without-memory fault.Memory part read h f = absurd cc

pub value-refused : (types : List CColumnType) (old rest : List ℕ) (values_before values : List CValue) (indicators_before indicators : List ℕ) (place : ℕ) (c d : CColumnType) (e : FaultOf)
    → RowSoFar types old rest values_before values indicators_before indicators place → place < length types → c ≡ get_or types place d
    → Faults false e ((param_value (type_of c) (unsigned_of c)).reads rest) → Faults false e ((bulk_row types).reads old)
value-refused types old rest values_before values indicators_before indicators place c d e s lt is h =
    let within : place < length (map column_of types) = omega (arith, lt, length-map types column_of) in
    let part : Faults false e ((value_of_column place (get_or (map column_of types) place (column_of d))).reads rest) =
    subst (λ (r : Reading ParamValue). Faults false e r) (sym (column-reads c d types place rest is lt)) h in
    without-memory e ((param_value (type_of c) (unsigned_of c)).reads rest) ((bulk_row types).reads old) h (one-fails value_of_column s.row (map column_of types) place rest _ s.read (column_of d) false e within part)

pub all-values : (types : List CColumnType) (old rest : List ℕ) (values_before values : List CValue) (indicators_before indicators : List ℕ) (place : ℕ)
    → RowSoFar types old rest values_before values indicators_before indicators place → length types ≤ place
    → ReadsRow (Ok tt) (take (length types) values) (take (length types) indicators) rest ((bulk_row types).reads old)
all-values types old rest values_before values indicators_before indicators place s le =
    let end : place ≡ length types = omega (arith, le, s.within) in
    let last : length (map column_of types) ≤ place = omega (arith, le, length-map types column_of) in
    (s.row, none-left value_of_column s.row (map column_of types) place rest _ s.read last, subst (λ (n : ℕ). HoldsRow s.row (take n values) (take n indicators)) end s.held)

-- those that were read are in the first places
row-filled : (types : List CColumnType) (old rest : List ℕ) (values_before values : List CValue) (indicators_before indicators : List ℕ) (place : ℕ)
    → RowSoFar types old rest values_before values indicators_before indicators place → length types ≤ length indicators_before → good_row (drop place types) rest ≡ []
    → FillsRow (good_row types old) values_before values indicators_before indicators
row-filled types old rest values_before values indicators_before indicators place s some_indicators none =
    let all : good_row types old ≡ s.row = s.good ∙ ap (λ l. s.row ++ l) none ∙ append-nil s.row in
    let fits : place ≤ length indicators = omega (arith, s.within, some_indicators, s.indicator_places) in
    let count : length s.row ≡ place = sym (length-map s.row (λ v. mariadb_bulk_indicator_code v.indicator)) ∙ sym (ap length s.held.indicators_are) ∙ length-take-le place indicators fits in
    subst (λ (good : List ParamValue). FillsRow good values_before values indicators_before indicators) (sym all) (record {
      held = subst (λ (n : ℕ). HoldsRow s.row (take n values) (take n indicators)) (sym count) s.held;
      places = record {
        set = subst (λ (n : ℕ). AllZip IsSet (take n values_before) (take n values)) (sym count) s.set;
        others = subst (λ (n : ℕ). drop n values ≡ drop n values_before) (sym count) s.other_values;
      };
      other_indicators = subst (λ (n : ℕ). drop n indicators ≡ drop n indicators_before) (sym count) s.other_indicators;
    })

pub row-whole : (types : List CColumnType) (old rest : List ℕ) (values_before values : List CValue) (indicators_before indicators : List ℕ) (place : ℕ)
    → RowSoFar types old rest values_before values indicators_before indicators place → length types ≤ length indicators_before → length types ≤ place
    → FillsRow (good_row types old) values_before values indicators_before indicators
row-whole types old rest values_before values indicators_before indicators place s some_indicators le =
    row-filled types old rest values_before values indicators_before indicators place s some_indicators (ap (λ (l : List CColumnType). good_row l rest) (drop_all place types le))

pub row-refused : (types : List CColumnType) (old rest : List ℕ) (values_before values : List CValue) (indicators_before indicators : List ℕ) (place : ℕ) (c d : CColumnType) (e : FaultOf)
    → RowSoFar types old rest values_before values indicators_before indicators place → length types ≤ length indicators_before → place < length types → c ≡ get_or types place d
    → Faults false e ((param_value (type_of c) (unsigned_of c)).reads rest) → FillsRow (good_row types old) values_before values indicators_before indicators
row-refused types old rest values_before values indicators_before indicators place c d e s some_indicators lt is h =
    row-filled types old rest values_before values indicators_before indicators place s some_indicators (none-good-value types place c d rest e lt is h)

pub row-into : (read : Reading (List ParamValue)) (old new : CBytes) (values : List CValue) (indicators rest : List ℕ) → ReadsRow (Ok tt) values indicators rest read → new.bytes.now ≡ rest → RowInto read 0 old new values indicators
row-into read old new values indicators rest (row, reads, held) left = subst (λ (r : Reading (List ParamValue)). RowInto r 0 old new values indicators) (sym reads) (refl, held, left)

pub row-fault : (read : Reading (List ParamValue)) (old : CBytes) (values : List CValue) (indicators : List ℕ) (e : FaultOf) → Faults false e read → RowInto read (fault_code e) old old values indicators
row-fault read old values indicators fault.UnexpectedEof h = subst (λ (r : Reading (List ParamValue)). RowInto r 1 old old values indicators) (sym h) (refl, refl)
row-fault read old values indicators (fault.InvalidData text) h = subst (λ (r : Reading (List ParamValue)). RowInto r 2 old old values indicators) (sym h) (refl, refl)
row-fault read old values indicators (fault.InvalidInput text) h = subst (λ (r : Reading (List ParamValue)). RowInto r 3 old old values indicators) (sym h) (refl, refl)
row-fault read old values indicators fault.Memory h = absurd cc

-- ---- the values alone

abbrev without : Reading (List ParamValue) → Reading (List Content)
without read = then_read read (λ row rest. Ok (contents row, rest))

one-without : (first : Reading ParamValue) (others : List ℕ → Reading (List ParamValue)) (alone : List ℕ → Reading (List Content)) → ((rest : List ℕ) → alone rest ≡ without (others rest))
    → then_read (then_read first (λ v rest. Ok (v.content, rest))) (λ c rest. then_read (alone rest) (λ cs left. Ok (c ∷ cs, left)))
    ≡ without (then_read first (λ v rest. then_read (others rest) (λ vs left. Ok (v ∷ vs, left))))
one-without (Err k) others alone same = refl
one-without (Ok x) others alone same = rw (same x.1) (more (others x.1))
  where
    more : (read : Reading (List ParamValue)) → then_read (without read) (λ cs left. Ok (x.0.content ∷ cs, left)) ≡ without (then_read read (λ vs left. Ok (x.0 ∷ vs, left)))
    more (Ok y) = refl
    more (Err k) = refl

contents-alone : (columns : List BulkColumn) (place : ℕ) (bytes : List ℕ) → (each content_of_column place columns).reads bytes ≡ without ((each value_of_column place columns).reads bytes)
unfolding each
contents-alone [] place bytes = refl
contents-alone (c ∷ columns) place bytes =
    one-without ((value_of_column place c).reads bytes) (λ rest. (each value_of_column (place + 1) columns).reads rest) (λ rest. (each content_of_column (place + 1) columns).reads rest)
    (λ rest. contents-alone columns (place + 1) rest)

alone-is : (types : List CColumnType) (bytes : List ℕ) (read : Reading (List ParamValue)) → (bulk_row types).reads bytes ≡ read → without read ≡ (row_of_columns (map column_of types)).reads bytes
alone-is types bytes read e = sym (contents-alone (map column_of types) 0 bytes ∙ ap without e)

pub contents-into : (types : List CColumnType) (bytes : List ℕ) (values : List CValue) (indicators rest left : List ℕ) → ReadsRow (Ok tt) values indicators rest ((bulk_row types).reads bytes) → left ≡ rest
    → ContentsInto ((row_of_columns (map column_of types)).reads bytes) 0 values left
contents-into types bytes values indicators rest left (row, reads, held) same =
    subst (λ (r : Reading (List Content)). ContentsInto r 0 values left) (alone-is types bytes (Ok (row, rest)) reads) (refl, held.values_are, same)

contents-fault-of : (types : List CColumnType) (bytes : List ℕ) (values : List CValue) (left : List ℕ) (k : FaultKind) → (bulk_row types).reads bytes ≡ Err k → ContentsInto ((row_of_columns (map column_of types)).reads bytes) (kind_code k) values left
contents-fault-of types bytes values left k h = subst (λ (r : Reading (List Content)). ContentsInto r (kind_code k) values left) (alone-is types bytes (Err k) h) refl

pub contents-fault : (types : List CColumnType) (bytes : List ℕ) (values : List CValue) (left : List ℕ) (e : FaultOf) → Faults false e ((bulk_row types).reads bytes)
    → ContentsInto ((row_of_columns (map column_of types)).reads bytes) (fault_code e) values left
contents-fault types bytes values left fault.UnexpectedEof h = contents-fault-of types bytes values left kind.UnexpectedEof h
contents-fault types bytes values left (fault.InvalidData text) h = contents-fault-of types bytes values left kind.InvalidData h
contents-fault types bytes values left (fault.InvalidInput text) h = contents-fault-of types bytes values left kind.InvalidInput h
contents-fault types bytes values left fault.Memory h = absurd cc

pub ruleset bulk_reads = (no-type, short-block, no-value, block-answers, block-missing, types_short, types-into, types-fault, row-into, row-fault, contents-into, contents-fault)
