-- Checked parameters, and the bytes of an execution with them.
use Rattle.std.proofs.Common.{◌≡◌, ◌≢◌, ◌<◌, ◌≤◌, ◌+◌, ◌*◌, ◌^◌, ◌-◌, ◌++◌, ◌∷◌, ◌&&◌, ◌||◌, ℕ, zero, suc, Bool, true, false, not, if◌then◌else◌, List, [], length, map, drop, get_or, nat_lt, replicate, take, Option, Some, None, is_some, cond, position, refl, sym, ap, ◌∙◌, arith}
use Rattle.std.specs.List.{flat_map, list_all, position_or_len}
use Rattle.std.specs.Option.{option_copied}
use Rattle.std.proofs.lemmas.Bool.{le-ltb, lt-ltb, ltb-false, ltb-true}
use Rattle.std.proofs.lemmas.List.Folds.{list_any_more}
use Rattle.std.proofs.lemmas.List.{append-nil, get_or-drop, length-append, length-map}
use Rattle.mysql_values.specs.ParamValue.{Plain, WithOffset}
use Rattle.mysql_values.specs.Value.{Content, NULL, Bytes, Int, UInt, Float, Double, Date, Time}
use Rattle.mysql_values.specs.declared.date_time_with_offset.DateTimeWithOffset.{DateTimeWithOffset}
use Rattle.mysql_values.specs.declared.param_type.ParamType.{ParamType}
use Rattle.mysql_wire.specs.Writing.{le_bytes, saturated}
use Rattle.mysql_stmt.specs.Bitmap.{bytes_for}
use Rattle.mysql_stmt.specs.ExecuteHead.{execute_head, head_with, with_count}
use Rattle.mysql_stmt.specs.ExecuteParam.{Sent, SentAhead, contents, value_of}
use Rattle.mysql_stmt.specs.ExecuteRead.{TypedParam}
use Rattle.mysql_stmt.specs.ExecuteWithOptions.{asked}
use Rattle.mysql_stmt.specs.Execution.{execution_bytes}
use Rattle.mysql_stmt.specs.NullMarks.{bitmap_of, first_eight, is_null, packed}
use Rattle.mysql_stmt.specs.SentNulls.{bitmap_with}
use Rattle.mysql_stmt.specs.SentParam.{bytes_under, first_unspelled, is_spelled_under, type_bytes, value_bytes}
use Rattle.mysql_stmt.specs.declared.execute_head.ComStmtExecuteHead.{ComStmtExecuteHead}
use Rattle.mysql_stmt.specs.declared.execute_with_options.ComStmtExecuteOptionsBuilder.{ComStmtExecuteOptionsBuilder}
use Rattle.mysql_stmt.proofs.PackedBits.{bitmap-long, bytes-long, packed-more}
use Rattle.mysql_stmt.proofs.SentBytes.{first-sent, length-type}
use Rattle.mysql_packets_c.proofs.Nulls.{bits-clear, is-null, nulls-more}
use Rattle.mysql_packets_c.specs.CheckedParams.{bitmap_for, bits_of, has_null, is_null_sent, may_send, plainly, sent_bytes, type_sent}
use Rattle.mysql_packets_c.specs.Execution.{is_set}
use Rattle.mysql_packets_c.specs.Output.{PutsUnlessTooLong}
use Rattle.mysql_packets_c.specs.Parameter.{are_parameters, is_parameter, named_type, param_given, sent}
use Rattle.mysql_packets_c.specs.Value.{date_with_offset_of, is_offset_date, is_value, value_content}
use Rattle.mysql_packets_c.specs.WrittenExecution.{is_spelled}
use Rattle.mysql_packets_c.specs.declared.parameter.CParameter.{CParameter}

-- ---- what NULL takes

null-cases : (ahead value offset : Bool) (t : ParamType) (c : Content) (d : DateTimeWithOffset)
    → is_null (value_of (if ahead then SentAhead else Sent (if value then Plain c else if offset then WithOffset d else Plain NULL))) ≡ true
    → bytes_under false t (if ahead then SentAhead else Sent (if value then Plain c else if offset then WithOffset d else Plain NULL)) ≡ []
null-cases true value offset t c d h = absurd cc
null-cases false true offset t c d h = ap (λ (x : Content). bytes_under false t (Sent (Plain x))) (is-null c h)
null-cases false false true t c d h = absurd cc
null-cases false false false t c d h = refl

null-sends-nothing : (p : CParameter) → is_null_sent p ≡ true → sent_bytes p ≡ []
null-sends-nothing p h =
    null-cases (is_set p.is_sent_ahead) (is_value p.value) (is_offset_date p.value) (named_type p).param_type (value_content p.value) (date_with_offset_of p.value) h

-- one more value other than NULL
pub nulls-next : (items : List CParameter) (i : ℕ) (p : CParameter) (n : ℕ) → i < length items → has_null (take i items) ≡ false
    → n ≡ saturated (length (sent_bytes (get_or items i p))) → n ≢ 0 → has_null (take (i + 1) items) ≡ false
nulls-next = nulls-more (λ p. value_of (param_given p)) sent_bytes null-sends-nothing

-- ---- a bitmap without a bit

packed-clear : (n : ℕ) (bits : List ℕ) → ((i : ℕ) → get_or bits i 0 ≡ 0) → packed n bits ≡ replicate n 0
packed-clear zero bits h = refl
packed-clear (suc n) bits h =
    let byte : first_eight bits ≡ 0 = omega (
      arith,
      get_or-drop 4 bits 0 0,
      get_or-drop 4 bits 1 0,
      get_or-drop 4 bits 2 0,
      get_or-drop 4 bits 3 0,
      h 0,
      h 1,
      h 2,
      h 3,
      h 4,
      h 5,
      h 6,
      h 7,
    ) in
    let others : packed n (drop 8 bits) ≡ replicate n 0 = packed-clear n (drop 8 bits) (λ i. get_or-drop 8 bits i 0 ∙ h (8 + i)) in
    ap (λ (b : ℕ). b ∷ packed n (drop 8 bits)) byte ∙ ap (λ (l : List ℕ). 0 ∷ l) others

pub bitmap-for-long : (items : List CParameter) → length (bitmap_for items) ≡ bytes_for 0 (length items)
bitmap-for-long items = bitmap-long (contents param_given items) ∙ ap (bytes_for 0) (length-map items (λ p. value_of (param_given p)))

-- the bitmap of parameters without attributes
pub no-attributes : (items : List CParameter) → bitmap_with param_given param_given items [] ≡ bitmap_for items
no-attributes items = ap bitmap_of (append-nil (contents param_given items))

pub clear-bitmap : (items : List CParameter) → has_null items ≡ false → bitmap_for items ≡ replicate (bytes_for 0 (length items)) 0
clear-bitmap items h =
    ap (λ (n : ℕ). packed (bytes_for 0 n) (bits_of items)) (length-map items (λ p. value_of (param_given p)))
    ∙ packed-clear (bytes_for 0 (length items)) (bits_of items) (bits-clear (λ p. value_of (param_given p)) items h)

-- ---- types

pub type-long : (p : CParameter) → length (type_sent p) ≡ 2
type-long p = length-type (named_type p).param_type

pub types-long : (items : List CParameter) → length (flat_map type_sent items) ≡ 2 * length items
types-long [] = refl
types-long (p ∷ items) = omega (arith, length-append (type_sent p) (flat_map type_sent items), type-long p, types-long items)

-- ---- the bytes of an execution

types-plain : (items : List CParameter) → flat_map (type_bytes false) (sent items) ≡ flat_map type_sent items
types-plain [] = refl
types-plain (p ∷ items) =
    ap (λ (l : List ℕ). l ++ flat_map (type_bytes false) (sent items)) (append-nil (type_sent p)) ∙ ap (λ (l : List ℕ). type_sent p ++ l) (types-plain items)

values-plain : (items : List CParameter) → flat_map (value_bytes false) (sent items) ≡ flat_map sent_bytes items
values-plain [] = refl
values-plain (p ∷ items) = ap (λ (l : List ℕ). sent_bytes p ++ l) (values-plain items)

held-plain : (items : List CParameter) → map (λ q. value_of q.param) (sent items) ≡ contents param_given items
held-plain [] = refl
held-plain (p ∷ items) = ap (λ (l : List Content). value_of (param_given p) ∷ l) (held-plain items)

nulls-are : (items : List CParameter) → bitmap_of (map (λ q. value_of q.param) (sent items ++ [])) ≡ bitmap_for items
nulls-are items = ap (λ (l : List TypedParam). bitmap_of (map (λ q. value_of q.param) l)) (append-nil (sent items)) ∙ ap bitmap_of (held-plain items)

types-are : (items : List CParameter) → flat_map (type_bytes false) (sent items ++ []) ≡ flat_map type_sent items
types-are items = ap (flat_map (type_bytes false)) (append-nil (sent items)) ∙ types-plain items

pub bytes-none : (head : ComStmtExecuteHead) (items : List CParameter) (sends : Bool) → items ≡ [] → execution_bytes (plainly head items sends) ≡ execute_head.bytes head
bytes-none head items sends none = rw none (append-nil (execute_head.bytes head))

pub bytes-typed : (head : ComStmtExecuteHead) (items : List CParameter) (sends : Bool) (flag : ℕ) → items ≢ [] → sends ≡ true → flag ≡ 1
    → execution_bytes (plainly head items sends) ≡ execute_head.bytes head ++ (bitmap_for items ++ (le_bytes 1 flag ++ (flat_map type_sent items ++ (flat_map sent_bytes items ++ []))))
bytes-typed head [] sends flag some is_sends is_flag = absurd (some refl)
bytes-typed head (p ∷ items) sends flag some is_sends is_flag =
    let all = p ∷ items in
    let front = execute_head.bytes head in
    rw (is_sends, is_flag) (
    ap (λ (l : List ℕ). front ++ (l ++ (le_bytes 1 1 ++ (flat_map (type_bytes false) (sent all ++ []) ++ (flat_map (value_bytes false) (sent all) ++ []))))) (nulls-are all)
    ∙ ap (λ (l : List ℕ). front ++ (bitmap_for all ++ (le_bytes 1 1 ++ (l ++ (flat_map (value_bytes false) (sent all) ++ []))))) (types-are all)
    ∙ ap (λ (l : List ℕ). front ++ (bitmap_for all ++ (le_bytes 1 1 ++ (flat_map type_sent all ++ (l ++ []))))) (values-plain all)
    )

pub bytes-bare : (head : ComStmtExecuteHead) (items : List CParameter) (sends : Bool) (flag : ℕ) → items ≢ [] → sends ≡ false → flag ≡ 0
    → execution_bytes (plainly head items sends) ≡ execute_head.bytes head ++ (bitmap_for items ++ (le_bytes 1 flag ++ (flat_map sent_bytes items ++ [])))
bytes-bare head [] sends flag some is_sends is_flag = absurd (some refl)
bytes-bare head (p ∷ items) sends flag some is_sends is_flag =
    let all = p ∷ items in
    let front = execute_head.bytes head in
    rw (is_sends, is_flag) (
    ap (λ (l : List ℕ). front ++ (l ++ (le_bytes 1 0 ++ (flat_map (value_bytes false) (sent all) ++ [])))) (nulls-are all)
    ∙ ap (λ (l : List ℕ). front ++ (bitmap_for all ++ (le_bytes 1 0 ++ (l ++ [])))) (values-plain all)
    )

-- ---- what a builder without attributes asks for

pub asked-plainly : (b : ComStmtExecuteOptionsBuilder CParameter) (head : ComStmtExecuteHead) (items : List CParameter) → option_copied b.attributes ≡ None
    → head ≡ with_count b.iteration_count (head_with b.stmt_id b.flags) → asked param_given named_type b (sent items) false ≡ plainly head items b.sends_types
asked-plainly b head items none is_head = rw (none, is_head) refl

-- ---- what may be sent

some-cond : (b : Bool) (n : ℕ) → is_some (cond b (Some n) None) ≡ b
some-cond true n = refl
some-cond false n = refl

all-parts : {A : Type 0} (f g : A → Bool) (xs : List A) → list_all (λ x. f x && g x) xs ≡ (list_all f xs && list_all g xs)
all-parts f g [] = refl
all-parts f g (x ∷ xs) = rw (all-parts f g xs) (regroup (f x) (g x) (list_all f xs) (list_all g xs))
  where
    regroup : (a b c d : Bool) → ((a && b) && (c && d)) ≡ ((a && c) && (b && d))
    regroup true true c d = refl
    regroup true false true d = refl
    regroup true false false d = refl
    regroup false b c d = refl

lt-next : (a b : ℕ) → nat_lt (1 + a) (suc b) ≡ nat_lt a b
lt-next a b = pick (nat_lt a b) refl
  where
    pick : (c : Bool) → nat_lt a b ≡ c → nat_lt (1 + a) (suc b) ≡ nat_lt a b
    pick true e = lt-ltb (1 + a) (suc b) (omega (arith, ltb-true a b e)) ∙ sym e
    pick false e = le-ltb (1 + a) (suc b) (omega (arith, ltb-false a b e)) ∙ sym e

all-found : {A : Type 0} (f : A → Bool) (xs : List A) → list_all f xs ≡ not (is_some (position (λ x. not (f x)) xs))
all-found {A} f xs = found xs ∙ ap not (sym (some-cond (nat_lt (position_or_len (λ x. not (f x)) xs) (length xs)) (position_or_len (λ x. not (f x)) xs)))
  where
    next : (b : Bool) (xs : List A) → list_all f xs ≡ not (nat_lt (position_or_len (λ x. not (f x)) xs) (length xs))
        → (b && list_all f xs) ≡ not (nat_lt (cond (not (not b)) (1 + position_or_len (λ x. not (f x)) xs) 0) (suc (length xs)))
    next true xs h = h ∙ ap not (sym (lt-next (position_or_len (λ x. not (f x)) xs) (length xs)))
    next false xs h = ap not (sym (lt-ltb 0 (suc (length xs)) (omega arith)))

    found : (xs : List A) → list_all f xs ≡ not (nat_lt (position_or_len (λ x. not (f x)) xs) (length xs))
    found [] = refl
    found (x ∷ xs) = next (f x) xs (found xs)

pub may-send-parts : (items : List CParameter) → may_send items ≡ (are_parameters items && not (is_some (first_unspelled (sent items))))
may-send-parts items =
    let spelled : CParameter → Bool = λ p. is_spelled_under (named_type p).param_type (param_given p) in
    all-parts is_parameter spelled items
    ∙ ap (λ (b : Bool). are_parameters items && b) (all-found spelled items ∙ ap (λ (o : Option ℕ). not (is_some o)) (sym (first-sent param_given named_type items)))

and-true : (b : Bool) → (b && true) ≡ b
and-true true = refl
and-true false = refl

pub spelled-plainly : (b : ComStmtExecuteOptionsBuilder CParameter) (items : List CParameter) → option_copied b.attributes ≡ None
    → is_spelled (asked param_given named_type b (sent items)) ≡ not (is_some (first_unspelled (sent items)))
spelled-plainly b items none = rw none (and-true (not (is_some (first_unspelled (sent items)))))

-- ---- what is written

-- bytes that fit one packet
pub puts-short : (bytes : List ℕ) (len code : ℕ) (old new : List ℕ) (written : ℕ) → len ≡ saturated (length bytes) → len ≤ 2 ^ 24 - 1 → written ≡ len
    → (len ≤ length old → (code ≡ 0) × (new ≡ bytes ++ drop len old)) → (length old < len → (code ≡ 5) × (new ≡ old)) → PutsUnlessTooLong bytes code old new written
unfolding saturated
puts-short bytes len code old new written is fits is_written put small =
    let whole : len ≡ length bytes = omega (arith, is, fits) in
    record {
      puts = λ other. record {
        fits = λ h. let n : len ≤ length old = omega (arith, whole, h) in ((put n).0, (put n).1 ∙ ap (λ (k : ℕ). bytes ++ drop k old) whole);
        small = λ h. let n : length old < len = omega (arith, whole, h) in small n;
        count = is_written ∙ whole;
      };
      long = λ four. absurd (never four (nat_lt (length old) len) refl);
    }
  where
    never : code ≡ 4 → (b : Bool) → nat_lt (length old) len ≡ b → ⊥
    never four true e = let five = (small (ltb-true (length old) len e)).0 in omega (arith, five, four)
    never four false e = let zero = (put (ltb-false (length old) len e)).0 in omega (arith, zero, four)

pub ruleset checked = (nulls-next)

pub ruleset bitmaps = (bitmap-for-long)

pub ruleset types = (type-long, types-long)

pub ruleset clear = (clear-bitmap)

pub ruleset puts = (puts-short)

pub ruleset plain = (bytes-none)
