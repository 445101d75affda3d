-- An execution is read back.
use Rattle.std.proofs.Common.{◌≡◌, ◌≢◌, ℕ, zero, suc, ◌+◌, ◌<◌, ◌^◌, ◌==◌, ◌&&◌, ◌||◌, Bool, true, false, not, is_some, nat_lt, if◌then◌else◌, List, [], ◌∷◌, ◌++◌, length, map, drop, get_or, Option, None, Some, Ok, refl, sym, subst, ap, ◌∙◌, arith, append_assoc, unwrap_or}
use Rattle.std.specs.List.{All, flat_map}
use Rattle.std.proofs.lemmas.Bool.Decides.{nat_tests}
use Rattle.std.proofs.lemmas.List.{append-nil, length-append, length-map, map-append}
use Rattle.std.proofs.lemmas.List.Elements.{All-append, All-head, All-tail}
use Rattle.std.proofs.Math.Seq.{drop-append_seam, drop-nil}
use Rattle.mysql_wire.specs.FlagMasks.{PARAMETER_COUNT_AVAILABLE}
use Rattle.mysql_wire.specs.Flags.{CapabilityFlags, has}
use Rattle.mysql_wire.specs.Again.{lenenc-again, lenenc_string-again}
use Rattle.mysql_wire.specs.Each.{each}
use Rattle.std.proofs.lemmas.Simd.{map-map}
use Rattle.mysql_wire.specs.Form.{bytes, decode, either, give, map as map_form}
use Rattle.mysql_wire.specs.Int.{raw_int}
use Rattle.mysql_wire.specs.LenEnc.{lenenc, lenenc_bytes, lenenc_string_bytes}
use Rattle.mysql_wire.specs.Seq.{counted}
use Rattle.mysql_wire.specs.Spelling.{IsSpelling, byte-again}
use Rattle.mysql_wire.specs.Writing.{le_bytes, saturated}
use Rattle.mysql_values.proofs.ParamAgain.{param-again}
use Rattle.mysql_values.specs.ParamType.{param_type, type_flags}
use Rattle.mysql_values.specs.ParamValue.{ParamContent, ParamIsInRange, Plain, WithOffset, param_content, param_read_under, param_spelled}
use Rattle.mysql_values.specs.Value.{NULL, Bytes, Int, UInt, Float, Double, Date, Time}
use Rattle.mysql_values.specs.declared.param_type.ParamType.{ParamType}
use Rattle.mysql_stmt.specs.Attributes.{attribute, value_of, values}
use Rattle.mysql_stmt.specs.BindFront.{BindFront, bind_front, nothing_bound}
use Rattle.mysql_stmt.specs.Bitmap.{bytes_for, cell}
use Rattle.mysql_stmt.specs.ExecuteParam.{Param, Sent, SentAhead, AsSent, attribute_param, value_of as held_of}
use Rattle.mysql_stmt.specs.ExecuteRead.{BoundType, TypedParam, at_least, count_of, execution, has_attributes, in_force, param_form, typed_param}
use Rattle.mysql_stmt.specs.Execution.{Execution, execution_bytes, has_some}
use Rattle.mysql_stmt.specs.NullMarks.{bitmap_of, null_bit}
use Rattle.mysql_stmt.specs.ExecuteHead.{cursor_flags, execute_head, iteration_count, stmt_id}
use Rattle.mysql_stmt.specs.ExecuteParams.{where_some}
use Rattle.mysql_stmt.specs.ReadAgain.{IsReadable, KnowsAll, ParamFits, SentFits, as_read_under, attribute_read, attributes_as_read, built, bytes_after_head, param_read, params_as_read, type_read, was_sent_ahead}
use Rattle.mysql_stmt.specs.declared.execute_head.ComStmtExecuteHead.{ComStmtExecuteHead}
use Rattle.mysql_stmt.specs.SentParam.{attribute_type, bound_bytes, bytes_under, is_spelled_under, sent_attributes, sent_param, type_bytes, value_bytes}
use Rattle.mysql_stmt.specs.SentTypes.{NamedType, sent_type, types, unnamed}
use Rattle.mysql_stmt.specs.declared.execute_param.QueryAttribute.{QueryAttribute}
use Rattle.mysql_stmt.specs.declared.execute_view.BoundParam.{BoundParam}
use Rattle.mysql_stmt.proofs.PackedBits.{bitmap-long, marks-nulls}

-- ---- types

type-fits : (t : ParamType) (rest : List ℕ) → (type_flags t).0 < 2 ^ 8 → param_type.fits tt t rest
unfolding param_type
type-fits t rest h = (tt, (h, tt))

one-type : (names : Bool) (p : TypedParam) → SentFits p → IsSpelling (sent_type names) (type_read names p.named_type) (type_bytes names p)
one-type true p h rest =
    let t = p.named_type.param_type in
    let after = lenenc_string_bytes p.named_type.name ++ rest in
    rw append_assoc (t, after, param_type.again tt t after (type-fits t after h.flags), (p.named_type.name, rest, lenenc_string-again p.named_type.name h.name rest, (refl, refl)))
one-type false p h rest =
    let t = p.named_type.param_type in
    rw (append-nil (param_type.bytes t)) (t, rest, param_type.again tt t rest (type-fits t rest h.flags), ([], rest, (refl, refl), (refl, refl)))

pub types-again : (names : Bool) (ps : List TypedParam) → All SentFits ps → IsSpelling (types names (length ps)) (map (λ p. type_read names p.named_type) ps) (flat_map (type_bytes names) ps)
unfolding counted
types-again names [] fit rest = (refl, refl)
types-again names (p ∷ ps) fit rest =
    let after = flat_map (type_bytes names) ps ++ rest in
    rw append_assoc (type_read names p.named_type, after, one-type names p (All-head SentFits p ps fit) after, (map (λ p. type_read names p.named_type) ps, rest, types-again names ps (All-tail SentFits p ps fit) rest, (refl, refl)))

-- ---- values

there : {A : Type 0} (o : Option A) (d : A) → is_some o ≡ true → o ≡ Some (unwrap_or o d)
there None d h = absurd cc
there (Some x) d h = refl

abbrev text : ParamType → ParamContent → List ℕ
text t v = unwrap_or (param_spelled t v) []

spelled-again : (t : ParamType) (v : ParamContent) → ParamIsInRange v → is_some (param_spelled t v) ≡ true → param_spelled t v ≡ Some (text t v)
spelled-again t v h is = there (param_spelled t v) [] is

-- a value with this bit in the bitmap
value-again : (t : ParamType) (v : ParamContent) (bit : ℕ) → bit ≡ null_bit (held_of (Sent v)) → ParamIsInRange v → is_some (param_spelled t v) ≡ true
    → IsSpelling (value_of (bit == 1) t) (param_read_under t v) (text t v)
value-again t (Plain NULL) bit e h is rest = rw e (refl, refl)
value-again t (Plain (Bytes x)) bit e h is rest = rw e (param-again t (Plain (Bytes x)) (text t (Plain (Bytes x))) h (spelled-again t (Plain (Bytes x)) h is) rest)
value-again t (Plain (Int x)) bit e h is rest = rw e (param-again t (Plain (Int x)) (text t (Plain (Int x))) h (spelled-again t (Plain (Int x)) h is) rest)
value-again t (Plain (UInt x)) bit e h is rest = rw e (param-again t (Plain (UInt x)) (text t (Plain (UInt x))) h (spelled-again t (Plain (UInt x)) h is) rest)
value-again t (Plain (Float x)) bit e h is rest = rw e (param-again t (Plain (Float x)) (text t (Plain (Float x))) h (spelled-again t (Plain (Float x)) h is) rest)
value-again t (Plain (Double x)) bit e h is rest = rw e (param-again t (Plain (Double x)) (text t (Plain (Double x))) h (spelled-again t (Plain (Double x)) h is) rest)
value-again t (Plain (Date x)) bit e h is rest = rw e (param-again t (Plain (Date x)) (text t (Plain (Date x))) h (spelled-again t (Plain (Date x)) h is) rest)
value-again t (Plain (Time x)) bit e h is rest = rw e (param-again t (Plain (Time x)) (text t (Plain (Time x))) h (spelled-again t (Plain (Time x)) h is) rest)
value-again t (WithOffset x) bit e h is rest = rw e (param-again t (WithOffset x) (text t (WithOffset x)) h (spelled-again t (WithOffset x) h is) rest)

sent-again : (t : ParamType) (v : ParamContent) (bit : ℕ) → bit ≡ null_bit (held_of (Sent v)) → ParamIsInRange v → is_some (param_spelled t v) ≡ true
    → IsSpelling (map_form Sent (value_of (bit == 1) t)) (Sent (param_read_under t v)) (text t v)
sent-again t v bit e h is rest = (param_read_under t v, refl, value-again t v bit e h is rest)

one-again : (l : Bool) (t : ParamType) (p : Param) (bit : ℕ) → bit ≡ null_bit (held_of p) → ParamFits p → is_spelled_under t p ≡ true
    → IsSpelling (param_form (was_sent_ahead (as_read_under l t p)) (bit == 1) t) (as_read_under l t p) (bytes_under l t p)
one-again l t SentAhead bit e h is rest = (refl, refl)
one-again l t (AsSent has_null_bit bytes) bit e h is rest = absurd h
one-again true t (Sent (Plain (Bytes x))) bit e h is rest = (refl, refl)
one-again true t (Sent (Plain NULL)) bit e h is rest = sent-again t (Plain NULL) bit e h is rest
one-again true t (Sent (Plain (Int x))) bit e h is rest = sent-again t (Plain (Int x)) bit e h is rest
one-again true t (Sent (Plain (UInt x))) bit e h is rest = sent-again t (Plain (UInt x)) bit e h is rest
one-again true t (Sent (Plain (Float x))) bit e h is rest = sent-again t (Plain (Float x)) bit e h is rest
one-again true t (Sent (Plain (Double x))) bit e h is rest = sent-again t (Plain (Double x)) bit e h is rest
one-again true t (Sent (Plain (Date x))) bit e h is rest = sent-again t (Plain (Date x)) bit e h is rest
one-again true t (Sent (Plain (Time x))) bit e h is rest = sent-again t (Plain (Time x)) bit e h is rest
one-again true t (Sent (WithOffset x)) bit e h is rest = sent-again t (WithOffset x) bit e h is rest
one-again false t (Sent v) bit e h is rest = sent-again t v bit e h is rest

-- ---- all parameters

-- the parameters under the types that are in force
pub record IsBound (named l : Bool) (f : BoundType) (p : TypedParam) : Type 0 where
  pub type : f.named_type ≡ type_read named p.named_type
  pub ahead : f.is_sent_ahead ≡ was_sent_ahead (as_read_under l p.named_type.param_type p.param)

abbrev AllBound : (named l : Bool) → List BoundType → List TypedParam → Type 0
AllBound n l [] [] = Unit {0}
AllBound n l [] (p ∷ ps) = ⊥
AllBound n l (f ∷ fs) [] = ⊥
AllBound n l (f ∷ fs) (p ∷ ps) = IsBound n l f p × AllBound n l fs ps

pub known-long : (s l : Bool) (bs : List BoundParam) (ps : List TypedParam) → KnowsAll s l bs ps → length bs ≡ length ps
known-long s l [] [] h = refl
known-long s l [] (p ∷ ps) h = absurd h
known-long s l (b ∷ bs) [] h = absurd h
known-long s l (b ∷ bs) (p ∷ ps) h = ap suc (known-long s l bs ps h.1)

bound-sent : (n l : Bool) (bs : List BoundParam) (ps : List TypedParam) (more : List NamedType) → KnowsAll true l bs ps → AllBound n l (in_force true bs (map (λ p. type_read n p.named_type) ps ++ more)) ps
bound-sent n l [] [] more h = tt
bound-sent n l [] (p ∷ ps) more h = absurd h
bound-sent n l (b ∷ bs) [] more h = absurd h
bound-sent n l (b ∷ bs) (p ∷ ps) more h = (record { type = refl; ahead = h.0.ahead }, bound-sent n l bs ps more h.1)

bound-before : (l : Bool) (bs : List BoundParam) (ps : List TypedParam) (ts : List NamedType) → KnowsAll false l bs ps → AllBound false l (in_force false bs ts) ps
bound-before l [] [] ts h = tt
bound-before l [] (p ∷ ps) ts h = absurd h
bound-before l (b ∷ bs) [] ts h = absurd h
bound-before l (b ∷ bs) (p ∷ ps) ts h = (record { type = ap unnamed (h.0.earlier refl); ahead = h.0.ahead }, bound-before l bs ps ts h.1)

params-again : (n l : Bool) (nulls : List ℕ) (place : ℕ) (fs : List BoundType) (ps : List TypedParam) → ((i : ℕ) → i < length ps → cell nulls (place + i) ≡ get_or (map (λ p. null_bit (held_of p.param)) ps) i 0)
    → All SentFits ps → AllBound n l fs ps → IsSpelling (each (typed_param nulls) place fs) (map (param_read n l) ps) (flat_map (value_bytes l) ps)
unfolding each
params-again n l nulls place [] [] bits fit bound rest = (refl, refl)
params-again n l nulls place [] (p ∷ ps) bits fit bound rest = absurd bound
params-again n l nulls place (f ∷ fs) [] bits fit bound rest = absurd bound
params-again n l nulls place (f ∷ fs) (p ∷ ps) bits fit bound rest =
    let mid = flat_map (value_bytes l) ps ++ rest in
    let fits = All-head SentFits p ps fit in
    let here : place ≡ place + 0 = omega arith in
    let bit : cell nulls place ≡ null_bit (held_of p.param) = ap (cell nulls) here ∙ bits 0 (omega arith) in
    let one : (typed_param nulls place f).Spells (param_read n l p) (value_bytes l p ++ mid) mid =
    rw (bound.0.type, bound.0.ahead) (as_read_under l p.named_type.param_type p.param, refl, one-again l p.named_type.param_type p.param (cell nulls place) bit fits.value fits.spelled mid) in
    let more = params-again n l nulls (place + 1) fs ps (λ i lt. let next : place + 1 + i ≡ place + suc i = omega arith in ap (cell nulls) next ∙ bits (suc i) (omega (arith, lt))) (All-tail SentFits p ps fit) bound.1 rest in
    rw append_assoc (param_read n l p, mid, one, (map (param_read n l) ps, rest, more, (refl, refl)))

-- ---- all attributes

pub attributes-again : (nulls : List ℕ) (place : ℕ) (qs : List QueryAttribute) → ((i : ℕ) → i < length qs → cell nulls (place + i) ≡ get_or (map (λ p. null_bit (held_of p.param)) (sent_attributes qs)) i 0)
    → All SentFits (sent_attributes qs) → IsSpelling (values nulls place (map attribute_type qs)) (map attribute_read qs) (flat_map (value_bytes false) (sent_attributes qs))
unfolding each
attributes-again nulls place [] bits fit rest = (refl, refl)
attributes-again nulls place (q ∷ qs) bits fit rest =
    let mid = flat_map (value_bytes false) (sent_attributes qs) ++ rest in
    let fits = All-head SentFits (record { named_type = attribute_type q; param = attribute_param q }) (sent_attributes qs) fit in
    let here : place ≡ place + 0 = omega arith in
    let bit : cell nulls place ≡ null_bit (held_of (attribute_param q)) = ap (cell nulls) here ∙ bits 0 (omega arith) in
    let one : (attribute nulls place (attribute_type q)).Spells (attribute_read q) (text q.param_type (param_content q.value) ++ mid) mid =
    (param_read_under q.param_type (param_content q.value), refl, value-again q.param_type (param_content q.value) (cell nulls place) bit fits.value fits.spelled mid) in
    let more = attributes-again nulls (place + 1) qs (λ i lt. let next : place + 1 + i ≡ place + suc i = omega arith in ap (cell nulls) next ∙ bits (suc i) (omega (arith, lt)))
    (All-tail SentFits (record { named_type = attribute_type q; param = attribute_param q }) (sent_attributes qs) fit) rest in
    rw append_assoc (attribute_read q, mid, one, (map attribute_read qs, rest, more, (refl, refl)))

-- a list with an item is not empty
nothing : {q : QueryAttribute} {qs : List QueryAttribute} → q ∷ qs ≡ [] → ⊥
nothing e = absurd cc

-- ---- bits

get-first : (xs ys : List ℕ) (i : ℕ) → i < length xs → get_or (xs ++ ys) i 0 ≡ get_or xs i 0
get-first [] ys i lt = absurd (omega (arith, lt))
get-first (x ∷ xs) ys zero lt = refl
get-first (x ∷ xs) ys (suc i) lt = get-first xs ys i (omega (arith, lt))

get-second : (xs ys : List ℕ) (n i : ℕ) → n ≡ length xs → get_or (xs ++ ys) (n + i) 0 ≡ get_or ys i 0
get-second [] ys n i e = let k : n + i ≡ i = omega (arith, e) in ap (λ (j : ℕ). get_or ys j 0) k
get-second (x ∷ xs) ys n i e =
    let k : n + i ≡ suc (length xs + i) = omega (arith, e) in
    ap (λ (j : ℕ). get_or (x ∷ xs ++ ys) j 0) k ∙ get-second xs ys (length xs) i refl

abbrev pub bit : TypedParam → ℕ
bit p = null_bit (held_of p.param)

abbrev pub nulls_of : List TypedParam → List ℕ
nulls_of all = bitmap_of (map (λ p. held_of p.param) all)

bits-are : (ps added : List TypedParam) (i : ℕ) → cell (nulls_of (ps ++ added)) i ≡ get_or (map bit ps ++ map bit added) i 0
bits-are ps added i =
    (marks-nulls (map (λ p. held_of p.param) (ps ++ added))).cells i
    ∙ ap (λ (l : List ℕ). get_or l i 0) (map-map null_bit (λ p. held_of p.param) (ps ++ added) ∙ map-append bit ps added)

pub first-bits : (ps added : List TypedParam) (i : ℕ) → i < length ps → cell (nulls_of (ps ++ added)) (0 + i) ≡ get_or (map bit ps) i 0
first-bits ps added i lt =
    let same : 0 + i ≡ i = omega arith in
    ap (cell (nulls_of (ps ++ added))) same ∙ bits-are ps added i ∙ get-first (map bit ps) (map bit added) i (omega (arith, lt, length-map ps bit))

pub second-bits : (ps added : List TypedParam) (i : ℕ) → cell (nulls_of (ps ++ added)) (length ps + i) ≡ get_or (map bit added) i 0
second-bits ps added i = bits-are ps added (length ps + i) ∙ get-second (map bit ps) (map bit added) (length ps) i (sym (length-map ps bit))

-- ---- before the values

abbrev pub read_types : (names follow : Bool) → List TypedParam → List NamedType
read_types names follow all = if follow then map (λ p. type_read names p.named_type) all else []

abbrev pub front_of : (names follow : Bool) → List TypedParam → BindFront
front_of names follow all = record { nulls = nulls_of all; sends_types = follow; types = read_types names follow all }

nulls-long : (ps added : List TypedParam) → length (nulls_of (ps ++ added)) ≡ bytes_for 0 (length ps + length added)
nulls-long ps added = bitmap-long (map (λ p. held_of p.param) (ps ++ added)) ∙ ap (bytes_for 0) (length-map (ps ++ added) (λ p. held_of p.param) ∙ length-append ps added)

not-zero : (n : ℕ) → n ≢ 0 → (n == 0) ≡ false
not-zero n h = grind (arith, nat_tests, h)

no-more : (n m : ℕ) → m ≡ 0 → (n + m == n) ≡ true
no-more n m h = grind (arith, nat_tests, h)

pub front-again : (names follow : Bool) (ps added : List TypedParam) → length ps + length added ≢ 0 → (follow ≡ false → length added ≡ 0) → All SentFits (ps ++ added) → (rest : List ℕ)
    → (bind_front names (length ps + length added) (length ps)).Spells (front_of names follow (ps ++ added))
    (nulls_of (ps ++ added) ++ (le_bytes 1 (if follow then 1 else 0) ++ ((if follow then flat_map (type_bytes names) (ps ++ added) else []) ++ rest))) rest
unfolding bytes
front-again names true ps added some none fit rest =
    let typed = flat_map (type_bytes names) (ps ++ added) ++ rest in
    let there = subst (λ (n : ℕ). (types names n).Spells (map (λ p. type_read names p.named_type) (ps ++ added)) typed rest) (length-append ps added) (types-again names (ps ++ added) fit rest) in
    rw (not-zero (length ps + length added) some) (nulls_of (ps ++ added), le_bytes 1 1 ++ typed, (nulls-long ps added, refl), (raw_int 1, typed, byte-again 1 (omega arith) typed, (map (λ p. type_read names p.named_type) (ps ++ added), rest, there, (refl, refl))))
front-again names false ps added some none fit rest =
    rw (not-zero (length ps + length added) some) (nulls_of (ps ++ added), le_bytes 1 0 ++ rest, (nulls-long ps added, refl), (raw_int 0, rest, byte-again 0 (omega arith) rest, ([], rest, rw (no-more (length ps) (length added) (none refl)) (refl, refl), (refl, refl))))

-- ---- the count

not-fewer : (n m : ℕ) → nat_lt (n + m) n ≡ false
not-fewer n m = grind (arith, nat_tests)

whole-count : (n : ℕ) → n < 2 ^ 64 → saturated n ≡ n
unfolding saturated
whole-count n lt = omega (arith, lt)

count-again : (c : Bool) (n m : ℕ) → n + m + 7 < 2 ^ 64 → (c ≡ false → m ≡ 0) → (rest : List ℕ)
    → (either c (decode (at_least n) lenenc) (give n)).Spells (n + m) ((if c then lenenc_bytes (saturated (n + m)) else []) ++ rest) rest
count-again true n m few none rest =
    let fits : n + m < 2 ^ 64 = omega (arith, few) in
    rw (whole-count (n + m) fits) (n + m, rw (not-fewer n m) refl, lenenc-again (n + m) fits rest)
count-again false n m few none rest = (omega (arith, none refl), refl)

-- the server reads a count if one is sent
agree : (names flag : Bool) (ps : List TypedParam) (qs : List QueryAttribute) → (has_some ps ≡ false → has_some qs ≡ true → flag ≡ true)
    → (names && (not (length ps == 0) || flag)) ≡ (names && (has_some (ps ++ sent_attributes qs) || flag))
agree false flag ps qs h = refl
agree true flag (p ∷ ps) qs h = rw (not-zero (length (p ∷ ps)) (λ e. omega (arith, e))) refl
agree true flag [] [] h = refl
agree true flag [] (q ∷ qs) h = h refl refl

-- without a count there are no attributes
no-count : (names flag : Bool) (ps : List TypedParam) (qs : List QueryAttribute) → (has_some ps ≡ false → has_some qs ≡ true → flag ≡ true) → (names ≡ false → qs ≡ [])
    → (names && (has_some (ps ++ sent_attributes qs) || flag)) ≡ false → length (sent_attributes qs) ≡ 0
no-count names flag ps [] h hn e = refl
no-count false flag ps (q ∷ qs) h hn e = absurd (nothing (hn refl))
no-count true flag [] (q ∷ qs) h hn e = absurd cc
no-count true flag (p ∷ ps) (q ∷ qs) h hn e = absurd cc

-- ---- all

pub types-after : (names follow : Bool) (ps : List TypedParam) (qs : List QueryAttribute) → (follow ≡ false → qs ≡ []) → (names ≡ false → qs ≡ [])
    → drop (length ps) (read_types names follow (ps ++ sent_attributes qs)) ≡ map attribute_type qs
types-after names false ps qs hf hn = drop-nil (length ps) ∙ sym (ap (λ (l : List QueryAttribute). map attribute_type l) (hf refl))
types-after true true ps qs hf hn =
    let f : TypedParam → NamedType = λ p. type_read true p.named_type in
    ap (drop (length ps)) (map-append f ps (sent_attributes qs)) ∙ ap (λ (n : ℕ). drop n (map f ps ++ map f (sent_attributes qs))) (sym (length-map ps f))
    ∙ drop-append_seam (map f ps) (map f (sent_attributes qs)) ∙ map-map f (sent_param attribute_param attribute_type) qs
types-after false true ps [] hf hn =
    let f : TypedParam → NamedType = λ p. type_read false p.named_type in
    ap (drop (length ps)) (map-append f ps []) ∙ ap (λ (n : ℕ). drop n (map f ps ++ [])) (sym (length-map ps f)) ∙ drop-append_seam (map f ps) []
types-after false true ps (q ∷ qs) hf hn = absurd (nothing (hn refl))

bound-all : (names follow l : Bool) (bs : List BoundParam) (ps added : List TypedParam) → KnowsAll follow l bs ps → AllBound (follow && names) l (in_force follow bs (read_types names follow (ps ++ added))) ps
bound-all names true l bs ps added h = rw (map-append (λ p. type_read names p.named_type) ps added) (bound-sent names l bs ps (map (λ p. type_read names p.named_type) added) h)
bound-all names false l bs ps added h = bound-before l bs ps [] h

where-full : (all : List TypedParam) (bytes : List ℕ) → length all ≢ 0 → where_some all bytes ≡ bytes
where-full [] bytes some = absurd (some refl)
where-full (p ∷ all) bytes some = refl

regroup : (nulls flag types values others rest : List ℕ) → (nulls ++ (flag ++ (types ++ (values ++ others)))) ++ rest ≡ nulls ++ (flag ++ (types ++ (values ++ (others ++ rest))))
regroup nulls flag types values others rest = simp append_assoc

module _ (caps : CapabilityFlags) (flags : ℕ) (names follow l : Bool) where
  abbrev flag_set : Bool
  flag_set = has flags PARAMETER_COUNT_AVAILABLE

  abbrev count_of_all : List TypedParam → List TypedParam → List ℕ
  count_of_all ps added = if names && (has_some (ps ++ added) || flag_set) then lenenc_bytes (saturated (length ps + length added)) else []

  abbrev types_of_all : List TypedParam → List ℕ
  types_of_all all = if follow then flat_map (type_bytes names) all else []

  abbrev params_of_all : List TypedParam → List TypedParam → List ℕ
  params_of_all ps added = bound_bytes (nulls_of (ps ++ added)) follow names l ps added

  none-again : has_attributes caps ≡ names → (rest : List ℕ) → (execution caps flags []).Spells ([], []) (count_of_all [] [] ++ rest) rest
  unfolding each
  none-again agreed rest =
      let counted : (count_of caps flags 0).Spells 0 (count_of_all [] [] ++ rest) rest =
      subst (λ (b : Bool). (either (b && flag_set) (decode (at_least 0) lenenc) (give 0)).Spells 0 (count_of_all [] [] ++ rest) rest) (sym agreed) (count-again (names && flag_set) 0 0 (omega arith) (λ e. refl) rest) in
      (nothing_bound, rest, (0, rest, counted, (refl, refl)), ([], rest, (refl, refl), ([], rest, (refl, refl), (refl, refl))))

  some-again : (bs : List BoundParam) (ps : List TypedParam) (qs : List QueryAttribute) → length ps + length (sent_attributes qs) ≢ 0 → has_attributes caps ≡ names
      → (has_some ps ≡ false → has_some qs ≡ true → flag_set ≡ true) → length ps + length qs + 7 < 2 ^ 64 → All SentFits ps → All SentFits (sent_attributes qs) → KnowsAll follow l bs ps
      → (follow ≡ false → qs ≡ []) → (names ≡ false → qs ≡ []) → (rest : List ℕ)
      → (execution caps flags bs).Spells (map (param_read (follow && names) l) ps, map attribute_read qs) (count_of_all ps (sent_attributes qs) ++ (where_some (ps ++ sent_attributes qs) (params_of_all ps (sent_attributes qs)) ++ rest)) rest
  some-again bs ps qs some agreed flagged few fit fits known hf hn rest =
      let added = sent_attributes qs in
      let all = ps ++ added in
      let more : length added ≡ length qs = length-map qs (sent_param attribute_param attribute_type) in
      let long = known-long follow l bs ps known in
      let pv = flat_map (value_bytes l) ps in
      let av = flat_map (value_bytes false) added in
      let mid = params_of_all ps added ++ rest in
      let whole : length ps + length added + 7 < 2 ^ 64 = omega (arith, few, more) in
      let is_full : length all ≢ 0 = λ e. some (omega (arith, e, length-append ps added)) in
      let block : where_some all (params_of_all ps added) ≡ params_of_all ps added = where-full all (params_of_all ps added) is_full in
      let counted = count-again (names && (has_some all || flag_set)) (length ps) (length added) whole (no-count names flag_set ps qs flagged hn) mid in
      let counted_too = subst (λ (b : Bool). (either b (decode (at_least (length ps)) lenenc) (give (length ps))).Spells (length ps + length added) (count_of_all ps added ++ mid) mid) (sym (agree names flag_set ps qs flagged)) counted in
      let counted_so = subst (λ (b : Bool). (either (b && (not (length ps == 0) || flag_set)) (decode (at_least (length ps)) lenenc) (give (length ps))).Spells (length ps + length added) (count_of_all ps added ++ mid) mid) (sym agreed) counted_too in
      let is_counted = subst (λ (n : ℕ). (count_of caps flags n).Spells (length ps + length added) (count_of_all ps added ++ mid) mid) (sym long) counted_so in
      let front = front-again names follow ps added some (λ e. more ∙ ap length (hf e)) (All-append SentFits ps added fit fits) (pv ++ (av ++ rest)) in
      let front_too = subst (λ (bytes : List ℕ). (bind_front names (length ps + length added) (length ps)).Spells (front_of names follow all) bytes (pv ++ (av ++ rest)))
      (sym (regroup (nulls_of all) (le_bytes 1 (if follow then 1 else 0)) (types_of_all all) pv av rest)) front in
      let front_so = subst (λ (b : Bool). (bind_front b (length ps + length added) (length ps)).Spells (front_of names follow all) mid (pv ++ (av ++ rest))) (sym agreed) front_too in
      let is_front = subst (λ (n : ℕ). (bind_front (has_attributes caps) (length ps + length added) n).Spells (front_of names follow all) mid (pv ++ (av ++ rest))) (sym long) front_so in
      let parameters = params-again (follow && names) l (nulls_of all) 0 (in_force follow bs (read_types names follow all)) ps (first-bits ps added) fit (bound-all names follow l bs ps added known) (av ++ rest) in
      let attributes = subst (λ (ts : List NamedType). (values (nulls_of all) (length ps) ts).Spells (map attribute_read qs) (av ++ rest) rest) (sym (types-after names follow ps qs hf hn))
      (attributes-again (nulls_of all) (length ps) qs (λ i lt. second-bits ps added i) fits rest) in
      let are_attributes = subst (λ (n : ℕ). (values (nulls_of all) n (drop n (read_types names follow all))).Spells (map attribute_read qs) (av ++ rest) rest) (sym long) attributes in
      rw block (front_of names follow all, pv ++ (av ++ rest), (length ps + length added, mid, is_counted, is_front), (map (param_read (follow && names) l) ps, av ++ rest, parameters, (map attribute_read qs, rest, are_attributes, (refl, refl))))

  pub all-again : (bs : List BoundParam) (ps : List TypedParam) (qs : List QueryAttribute) → has_attributes caps ≡ names
      → (has_some ps ≡ false → has_some qs ≡ true → flag_set ≡ true) → length ps + length qs + 7 < 2 ^ 64 → All SentFits ps → All SentFits (sent_attributes qs) → KnowsAll follow l bs ps
      → (follow ≡ false → qs ≡ []) → (names ≡ false → qs ≡ []) → (rest : List ℕ)
      → (execution caps flags bs).Spells (map (param_read (follow && names) l) ps, map attribute_read qs) (count_of_all ps (sent_attributes qs) ++ (where_some (ps ++ sent_attributes qs) (params_of_all ps (sent_attributes qs)) ++ rest)) rest
  all-again [] [] [] agreed flagged few fit fits known hf hn rest = none-again agreed rest
  all-again (b ∷ bs) [] [] agreed flagged few fit fits known hf hn rest = absurd known
  all-again bs (p ∷ ps) qs agreed flagged few fit fits known hf hn rest = some-again bs (p ∷ ps) qs (λ e. omega (arith, e)) agreed flagged few fit fits known hf hn rest
  all-again bs [] (q ∷ qs) agreed flagged few fit fits known hf hn rest = some-again bs [] (q ∷ qs) (λ e. omega (arith, e)) agreed flagged few fit fits known hf hn rest

-- ---- the execution

follow-none : (s : Bool) (qs : List QueryAttribute) → (s || has_some (sent_attributes qs)) ≡ false → qs ≡ []
follow-none s [] e = refl
follow-none true (q ∷ qs) e = absurd cc
follow-none false (q ∷ qs) e = absurd cc

pub execution-again : (caps : CapabilityFlags) (bound : List BoundParam) (head : ComStmtExecuteHead) (ps : List TypedParam) (attributes : Option (List QueryAttribute)) (s l : Bool)
    → IsReadable caps bound attributes (built head ps attributes s l)
    → IsSpelling (execution caps (cursor_flags head) bound) (params_as_read (built head ps attributes s l), attributes_as_read attributes) (bytes_after_head (built head ps attributes s l))
execution-again caps bound head ps None s l h rest =
    rw append_assoc (all-again caps (cursor_flags head) false (s || false) l bound ps [] h.agreed h.counted h.few h.fit h.attributes_fit h.known (λ x. refl) (λ x. refl) rest)
execution-again caps bound head ps (Some qs) s l h rest =
    rw append_assoc (all-again caps (cursor_flags head) true (s || has_some (sent_attributes qs)) l bound ps qs h.agreed h.counted h.few h.fit h.attributes_fit h.known (follow-none s qs) (λ x. absurd cc) rest)

pub execution-read : (caps : CapabilityFlags) (bound : List BoundParam) (head : ComStmtExecuteHead) (ps : List TypedParam) (attributes : Option (List QueryAttribute)) (s l : Bool) (rest : List ℕ)
    → IsReadable caps bound attributes (built head ps attributes s l)
    → (execution caps (cursor_flags head) bound).reads (bytes_after_head (built head ps attributes s l) ++ rest) ≡ Ok ((params_as_read (built head ps attributes s l), attributes_as_read attributes), rest)
execution-read caps bound head ps attributes s l rest h =
    (execution caps (cursor_flags head) bound).only (params_as_read (built head ps attributes s l), attributes_as_read attributes) (bytes_after_head (built head ps attributes s l) ++ rest) rest
    (execution-again caps bound head ps attributes s l h rest)

pub head-read : (e : Execution) (rest : List ℕ) → stmt_id e.head < 2 ^ 32 → cursor_flags e.head < 2 ^ 8 → iteration_count e.head < 2 ^ 32
    → (execute_head.form tt).reads (execution_bytes e ++ rest) ≡ Ok (e.head, bytes_after_head e ++ rest)
unfolding execute_head
head-read e rest id flags count =
    let after = bytes_after_head e ++ rest in
    let spelled = execute_head.again tt e.head after (tt, (id, (flags, (count, tt)))) in
    subst (λ (bytes : List ℕ). (execute_head.form tt).reads bytes ≡ Ok (e.head, after)) (sym (append_assoc (execute_head.bytes e.head) (bytes_after_head e) rest))
    ((execute_head.form tt).only e.head (execute_head.bytes e.head ++ after) after spelled)

pub ruleset executions_again = (execution-again, execution-read, head-read)
