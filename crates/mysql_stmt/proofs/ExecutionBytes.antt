-- The bytes of an execution, by its parts.
use Rattle.std.proofs.Common.{◌≡◌, ◌<◌, ◌≤◌, ◌↔◌, IsTrue, nat_lt, rules, ℕ, ◌+◌, ◌&&◌, ◌||◌, Bool, true, false, if◌then◌else◌, List, [], ◌∷◌, ◌++◌, length, map, Option, Some, None, is_some, unwrap_or, append_assoc, refl, sym, ap, ◌∙◌, arith}
use Rattle.std.specs.Option.{option_map}
use Rattle.std.proofs.lemmas.Bool.Decides.{nat_tests}
use Rattle.std.proofs.lemmas.List.{append-nil, length-take-le, map-append}
use Rattle.std.proofs.lemmas.Simd.{map-map}
use Rattle.mysql_wire.specs.Writing.{saturated}
use Rattle.mysql_values.specs.Value.{Content}
use Rattle.mysql_stmt.specs.ExecuteHead.{execute_head}
use Rattle.mysql_stmt.specs.ExecuteParam.{Param, contents, value_of}
use Rattle.mysql_stmt.specs.ExecuteParams.{where_some}
use Rattle.mysql_stmt.specs.Execution as execution
use Rattle.mysql_stmt.specs.Execution.{has_some}
use Rattle.mysql_stmt.specs.ExecuteWithOptions as request
use Rattle.mysql_stmt.specs.NullMarks.{bitmap_of}
use Rattle.mysql_stmt.specs.Payload.{max_payload}
use Rattle.mysql_stmt.specs.SentNulls.{bitmap_with, contents_with}
use Rattle.mysql_stmt.specs.SentParam.{bound_bytes, list_of, sent_param, sent_params}
use Rattle.mysql_stmt.specs.ExecuteRead.{TypedParam}
use Rattle.mysql_stmt.specs.SentTypes.{NamedType}
use Rattle.mysql_stmt.specs.declared.execution.ComStmtExecuteWithOptions.{ComStmtExecuteWithOptions}
use Rattle.mysql_stmt.proofs.SentBytes.{length-sent}

-- ---- lists

some-mapped : {A B : Type 0} (f : A → B) (xs : List A) → has_some (map f xs) ≡ has_some xs
some-mapped f [] = refl
some-mapped f (x ∷ xs) = refl

some-either : {A : Type 0} (xs ys : List A) → has_some (xs ++ ys) ≡ (has_some xs || has_some ys)
some-either [] ys = refl
some-either (x ∷ xs) ys = refl

where-none : {A : Type 0} (xs : List A) (bytes : List ℕ) → has_some xs ≡ false → where_some xs bytes ≡ []
where-none [] bytes none = refl
where-none (x ∷ xs) bytes none = absurd cc

where-full : {A : Type 0} (xs : List A) (bytes : List ℕ) → has_some xs ≡ true → where_some xs bytes ≡ bytes
where-full [] bytes some = absurd cc
where-full (x ∷ xs) bytes some = refl

-- ---- attributes

names-same : {A B : Type 0} (f : A → B) (attributes : Option A) → is_some (option_map f attributes) ≡ is_some attributes
names-same f None = refl
names-same f (Some l) = refl

listed-same : {A B : Type 0} (f : A → B) (attributes : Option (List A)) → unwrap_or (option_map (map f) attributes) [] ≡ map f (list_of attributes)
listed-same f None = refl
listed-same f (Some l) = refl

regroup : (h d bytes : List ℕ) → h ++ (d ++ bytes) ≡ (h ++ (d ++ [])) ++ (bytes ++ [])
regroup h d bytes = simp (append-nil, append_assoc)

module _ {V A : Type 0} (param : V → Param) (named_type : V → NamedType) (attribute : A → Param) (attribute_type : A → NamedType) (r : ComStmtExecuteWithOptions V A) where
  abbrev it : execution.Execution
  it = request.execution_of param named_type attribute attribute_type r

  -- the attributes as they are sent
  abbrev attributes : List TypedParam
  attributes = sent_params attribute attribute_type (request.listed r)

  listed-is : execution.listed it ≡ attributes
  listed-is = listed-same (sent_param attribute attribute_type) (request.attributes r)

  pub names_are : execution.has_names it ≡ is_some (request.attributes r)
  names_are = names-same (sent_params attribute attribute_type) (request.attributes r)

  pub some_is : has_some (execution.all_params it) ≡ (has_some (request.params r) || has_some (request.listed r))
  some_is =
      some-either it.params (execution.listed it) ∙ ap (λ (l : List TypedParam). has_some it.params || has_some l) listed-is
      ∙ ap (λ (b : Bool). b || has_some attributes) (some-mapped (sent_param param named_type) (request.params r))
      ∙ ap (λ (b : Bool). has_some (request.params r) || b) (some-mapped (sent_param attribute attribute_type) (request.listed r))

  pub follow_is : execution.types_follow it ≡ (r.sends_types || has_some (request.listed r))
  follow_is =
      ap (λ (l : List TypedParam). r.sends_types || has_some l) listed-is
      ∙ ap (λ (b : Bool). r.sends_types || b) (some-mapped (sent_param attribute attribute_type) (request.listed r))

  pub length_is : length it.params + length (execution.listed it) ≡ length (request.params r) + length (request.listed r)
  length_is =
      ap (λ (l : List TypedParam). length it.params + length l) listed-is
      ∙ ap (λ (n : ℕ). n + length attributes) (length-sent param named_type (request.params r))
      ∙ ap (λ (n : ℕ). length (request.params r) + n) (length-sent attribute attribute_type (request.listed r))

  held-are : map (λ p. value_of p.param) (execution.all_params it) ≡ contents_with param attribute (request.params r) (request.listed r)
  held-are =
      ap (λ (l : List TypedParam). map (λ p. value_of p.param) (it.params ++ l)) listed-is
      ∙ map-append (λ p. value_of p.param) it.params attributes
      ∙ ap (λ (l : List Content). l ++ map (λ p. value_of p.param) attributes) (map-map (λ p. value_of p.param) (sent_param param named_type) (request.params r))
      ∙ ap (λ (l : List Content). contents param (request.params r) ++ l) (map-map (λ p. value_of p.param) (sent_param attribute attribute_type) (request.listed r))

  nulls-are : execution.null_bytes it ≡ bitmap_with param attribute (request.params r) (request.listed r)
  nulls-are = ap bitmap_of held-are

  abbrev pub head_with : List ℕ → List ℕ
  head_with count = execute_head.bytes r.head ++ (count ++ [])

  pub bytes-of-none : (count : List ℕ) → has_some (execution.all_params it) ≡ false → count ≡ execution.count_bytes it → request.request_bytes param named_type attribute attribute_type r ≡ head_with count
  bytes-of-none count none is =
      ap (λ (l : List ℕ). execute_head.bytes r.head ++ (l ++ where_some (execution.all_params it) (execution.params_bytes it))) (sym is)
      ∙ ap (λ (l : List ℕ). execute_head.bytes r.head ++ (count ++ l)) (where-none (execution.all_params it) (execution.params_bytes it) none)

  pub bytes-of-some : (count : List ℕ) (follow has_names : Bool) (first : List A)
      → has_some (execution.all_params it) ≡ true → count ≡ execution.count_bytes it → follow ≡ execution.types_follow it → has_names ≡ execution.has_names it → first ≡ request.listed r
      → request.request_bytes param named_type attribute attribute_type r
      ≡ head_with count ++ (bound_bytes (bitmap_with param attribute (request.params r) first) follow has_names r.as_long_data (sent_params param named_type (request.params r)) (sent_params attribute attribute_type first) ++ [])
  bytes-of-some count follow has_names first some is_count is_follow is_names is_first =
      let nulls = bitmap_with param attribute (request.params r) (request.listed r) in
      rw (is_count, is_follow, is_names, is_first) (
      ap (λ (l : List ℕ). execute_head.bytes r.head ++ (execution.count_bytes it ++ l)) (
      where-full (execution.all_params it) (execution.params_bytes it) some
      ∙ ap (λ (bits : List ℕ). bound_bytes bits (execution.types_follow it) (execution.has_names it) r.as_long_data it.params (execution.listed it)) nulls-are
      ∙ ap (λ (l : List TypedParam). bound_bytes nulls (execution.types_follow it) (execution.has_names it) r.as_long_data it.params l) listed-is
      )
      ∙ regroup (execute_head.bytes r.head) (execution.count_bytes it) (bound_bytes nulls (execution.types_follow it) (execution.has_names it) r.as_long_data it.params attributes)
      )

-- ---- whether byte strings are long data

tested : (long : Bool) (m n : ℕ) → IsTrue long ↔ (m < n) → long ≡ nat_lt m n
tested long m n h = grind (arith, nat_tests, h)

pub not-long : (b : Bool) (e f : execution.Execution) (n : ℕ) → b ≡ false → e ≡ f → n ≡ saturated (length (execution.execution_bytes e)) → n ≤ max_payload
    → IsTrue b ↔ (max_payload < length (execution.execution_bytes f))
unfolding saturated
not-long b e f n is same len fits =
    let long = ap (λ (x : execution.Execution). length (execution.execution_bytes x)) same in
    rw is (λ never. absurd cc, λ past. absurd (omega (arith, long, len, fits, past)))

pub is-long : (b : Bool) (e f : execution.Execution) (n : ℕ) → b ≡ true → e ≡ f → n ≡ saturated (length (execution.execution_bytes e)) → max_payload < n
    → IsTrue b ↔ (max_payload < length (execution.execution_bytes f))
unfolding saturated
is-long b e f n is same len past =
    let long = ap (λ (x : execution.Execution). length (execution.execution_bytes x)) same in
    rw is (λ always. omega (arith, long, len, past), λ more. search rules)

-- the measured length of a request is that of its bytes
pub written-is : (asked : Bool → execution.Execution) (e : execution.Execution) (long : Bool) → e ≡ asked long → request.IsAsLong asked long → execution.execution_bytes e ≡ request.written_bytes asked
written-is asked e long same h = ap execution.execution_bytes (same ∙ ap asked (tested long max_payload (length (execution.execution_bytes (asked false))) h))

pub ruleset taken = (length-take-le)
