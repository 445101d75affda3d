-- What is written of executions and of queries with attributes.
use Rattle.std.proofs.Common.{◌≡◌, ◌≢◌, ◌<◌, ◌≤◌, ◌++◌, ◌^◌, ◌-◌, ℕ, Bool, true, false, ◌&&◌, not, nat_lt, if◌then◌else◌, List, length, drop, Option, Some, None, refl, sym, ap, ◌∙◌, arith}
use Rattle.std.specs.Option.{option_copied, option_map}
use Rattle.std.proofs.lemmas.Bool.{ltb-false, ltb-true}
use Rattle.mysql_wire.specs.Writing.{saturated}
use Rattle.mysql_stmt.specs.ComQuery.{RefusesAttribute, attributes, query_bytes, text}
use Rattle.mysql_stmt.specs.ExecuteParam.{attribute_param}
use Rattle.mysql_stmt.specs.ExecuteHead.{head_with, with_count}
use Rattle.mysql_stmt.specs.ExecuteRead.{TypedParam}
use Rattle.mysql_stmt.specs.ExecuteWithOptions.{IsSpelled, Refuses, asked, counted}
use Rattle.mysql_stmt.specs.Execution.{Execution, has_some}
use Rattle.mysql_stmt.specs.SentParam.{attribute_type, first_unspelled, list_of, sent_params}
use Rattle.mysql_stmt.specs.declared.com_query.ComQuery.{ComQuery}
use Rattle.mysql_stmt.specs.declared.execute_param.QueryAttribute.{QueryAttribute}
use Rattle.mysql_stmt.specs.declared.execute_with_options.ComStmtExecuteOptionsBuilder.{ComStmtExecuteOptionsBuilder}
use Rattle.mysql_stmt.specs.declared.typed_param.TypedExecutionError.{TypedExecutionError}
use Rattle.mysql_stmt.specs.declared.typed_param.TypedExecutionError.TheVariants as refusal
use Rattle.mysql_packets_c.specs.Output.{PutsUnlessTooLong}
use Rattle.mysql_packets_c.specs.Parameter.{named_type, param_given, sent}
use Rattle.mysql_packets_c.specs.Query.{are_encoded, query_of}
use Rattle.mysql_packets_c.specs.WrittenExecution.{builder, is_spelled}
use Rattle.mysql_packets_c.specs.declared.parameter.CParameter.{CParameter}

-- ---- builders

pub and-second : (a b : Bool) → (a && b) ≡ true → b ≡ true
and-second true b h = h
and-second false b h = absurd cc

copied-held : (o : Option (List CParameter)) (id flags count : ℕ) (sends : Bool) → option_copied (builder id flags count sends o).attributes ≡ o
copied-held None id flags count sends = refl
copied-held (Some l) id flags count sends = refl

module _ (ps : List TypedParam) where
  -- the execution of a builder
  abbrev of_parts : ℕ → ℕ → ℕ → Bool → Option (List CParameter) → Bool → Execution
  of_parts id flags count sends o long = record {
    head = with_count count (head_with id (record { 0 = if has_some (list_of o) && not (has_some ps) then counted flags else flags; 1 = record {} }));
    params = ps;
    attributes = option_map sent o;
    sends_types = sends;
    as_long_data = long;
  }

  -- a builder with this content builds what the specification's builder builds
  pub same-asked : (b : ComStmtExecuteOptionsBuilder CParameter) (id flags count : ℕ) (sends : Bool) (o : Option (List CParameter)) → b.stmt_id ≡ id → b.flags.0 ≡ flags
      → b.iteration_count ≡ count → b.sends_types ≡ sends → option_copied b.attributes ≡ o → asked param_given named_type b ps ≡ asked param_given named_type (builder id flags count sends o) ps
  same-asked b id flags count sends o is_id is_flags is_count is_sends is_o =
      ap (λ (n : ℕ). of_parts n b.flags.0 b.iteration_count b.sends_types (option_copied b.attributes)) is_id
      ∙ ap (λ (n : ℕ). of_parts id n b.iteration_count b.sends_types (option_copied b.attributes)) is_flags
      ∙ ap (λ (n : ℕ). of_parts id flags n b.sends_types (option_copied b.attributes)) is_count
      ∙ ap (λ (s : Bool). of_parts id flags count s (option_copied b.attributes)) is_sends
      ∙ ap (λ (l : Option (List CParameter)). of_parts id flags count sends l) (is_o ∙ sym (copied-held o id flags count sends))

-- ---- what is refused

pub is-spelled : (asked : Bool → Execution) → IsSpelled asked → is_spelled asked ≡ true
is-spelled asked h = rw (h.0, h.1) refl

pub not-spelled : (asked : Bool → Execution) (e : TypedExecutionError) → Refuses asked e → e ≢ refusal.Memory → is_spelled asked ≡ false
not-spelled asked (refusal.TypeMismatch place) h some = rw h refl
not-spelled asked (refusal.AttributeTypeMismatch place) h some = rw (h.0, h.1) refl
not-spelled asked refusal.Memory h some = absurd (some refl)

-- ---- what is written

-- bytes whose count saturates at 2^64 - 1
module _ (bytes : List ℕ) (len code : ℕ) (old new : List ℕ) (written : ℕ) (is : len ≡ saturated (length bytes)) (below : length old < 2 ^ 63)
    (put : len ≤ length old → new ≡ bytes ++ drop len old) (kept : length old < len → new ≡ old)
    (fits : len < 2 ^ 64 - 1 → len ≤ length old → code ≡ 0) (small : len < 2 ^ 64 - 1 → length old < len → code ≡ 5) (counted : len < 2 ^ 64 - 1 → written ≡ len)
    (long : len ≡ 2 ^ 64 - 1 → (code ≡ 4) × (written ≡ 0)) where
  not-four : (b : Bool) → nat_lt (length old) len ≡ b → len < 2 ^ 64 - 1 → code ≢ 4
  not-four true e short four = let five = small short (ltb-true (length old) len e) in absurd (omega (arith, five, four))
  not-four false e short four = let zero = fits short (ltb-false (length old) len e) in absurd (omega (arith, zero, four))

  when-short : (b : Bool) → nat_lt len (2 ^ 64 - 1) ≡ b → PutsUnlessTooLong bytes code old new written
  unfolding saturated
  when-short true e =
      let short : len < 2 ^ 64 - 1 = ltb-true len (2 ^ 64 - 1) e in
      let whole : len ≡ length bytes = omega (arith, is, short) in
      record {
        puts = λ other. record {
          fits = λ h. let n : len ≤ length old = omega (arith, whole, h) in (fits short n, put n ∙ ap (λ (k : ℕ). bytes ++ drop k old) whole);
          small = λ h. let n : length old < len = omega (arith, whole, h) in (small short n, kept n);
          count = counted short ∙ whole;
        };
        long = λ four. absurd (not-four (nat_lt (length old) len) refl short four);
      }
  when-short false e =
      let past : 2 ^ 64 - 1 ≤ len = ltb-false len (2 ^ 64 - 1) e in
      let top : len ≡ 2 ^ 64 - 1 = omega (arith, is, past) in
      record {
        puts = λ other. absurd (other (long top).0);
        long = λ four. record { long = omega (arith, is, top); buffer = kept (omega (arith, top, below)); none = (long top).1 };
      }

  pub put-counted : PutsUnlessTooLong bytes code old new written
  put-counted = when-short (nat_lt len (2 ^ 64 - 1)) refl

-- ---- queries

-- the bytes of a query depend only on its attributes and its text
pub query-same : (q : ComQuery CParameter) (list : List CParameter) (bytes : List ℕ) → attributes q ≡ Some list → text q ≡ bytes
    → query_bytes param_given named_type q ≡ query_bytes param_given named_type (query_of (Some list) bytes)
unfolding query_bytes
query-same q list bytes is_list is_text = rw (is_list, is_text) refl

pub query-plain : (q : ComQuery QueryAttribute) (bytes : List ℕ) → attributes q ≡ None → text q ≡ bytes
    → query_bytes attribute_param attribute_type q ≡ query_bytes param_given named_type (query_of None bytes)
unfolding query_bytes
query-plain q bytes is_none is_text = rw (is_none, is_text) refl

-- whether a type can't encode its value
pub query-encoded : (list : List CParameter) → first_unspelled (sent list) ≡ None → are_encoded list ≡ true
query-encoded list h = rw h refl

pub query-refused : (list : List CParameter) (e : TypedExecutionError) → RefusesAttribute (sent list) e → are_encoded list ≡ false
query-refused list (refusal.AttributeTypeMismatch place) h = rw h refl
query-refused list (refusal.TypeMismatch place) h = absurd h
query-refused list refusal.Memory h = absurd h

pub ruleset queries = (query-same, query-plain, query-encoded, query-refused)

pub ruleset written_executions = (is-spelled, not-spelled, put-counted)
