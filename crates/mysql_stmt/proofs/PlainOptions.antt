-- An execution without options has the bytes of the plain one.
use Rattle.std.proofs.Common.{◌≡◌, ℕ, true, false, List, [], ◌∷◌, ◌++◌, map, ◌∙◌, refl, sym, ap}
use Rattle.std.proofs.lemmas.List.{append-nil, take_all}
use Rattle.std.proofs.lemmas.Simd.{map-map}
use Rattle.mysql_wire.specs.Int.{raw_int}
use Rattle.mysql_values.specs.declared.value.Value.{Value}
use Rattle.mysql_values.specs.Value.{contents_of}
use Rattle.mysql_stmt.specs.Execute as plain
use Rattle.mysql_stmt.specs.ExecuteHead.{execute_head, head_without_cursor}
use Rattle.mysql_stmt.specs.ExecuteParam.{value_of}
use Rattle.mysql_stmt.specs.ExecuteParams.{params_bytes, sent_values, value_param, values_bytes, where_some}
use Rattle.mysql_stmt.specs.ExecuteRead.{TypedParam}
use Rattle.mysql_stmt.specs.Execution.{Execution, execution_bytes}
use Rattle.mysql_stmt.specs.NullMarks.{bitmap_of}
use Rattle.mysql_stmt.specs.PlainExecution.{AsksForNothing}
use Rattle.mysql_stmt.specs.SentParam.{bound_bytes, sent_param, type_of_param}
use Rattle.mysql_stmt.specs.declared.execute.ComStmtExecuteRequest.{ComStmtExecuteRequest}
use Rattle.mysql_stmt.proofs.PackedBits.{bytes-all, marks-once}

where-same : (values : List Value) (bytes : List ℕ) → where_some (sent_values values) bytes ≡ where_some values bytes
where-same [] bytes = refl
where-same (v ∷ values) bytes = refl

module _ (e : Execution) (r : ComStmtExecuteRequest) (h : AsksForNothing e r) where
  abbrev sent : List TypedParam
  sent = sent_values (plain.params r)

  abbrev nulls : List TypedParam → List ℕ
  nulls all = bitmap_of (map (λ p. value_of p.param) all)

  -- after the head, with attributes or without
  abbrev after : List TypedParam → List ℕ
  after all = where_some all (bound_bytes (nulls all) true false (plain.as_long_data r) sent [])

  head-same : execute_head.bytes (head_without_cursor (plain.stmt_id r)) ≡ execute_head.bytes (plain.head_of r)
  head-same = sym (λ i. execute_head.bytes (record { header = r.header; stmt_id = r.stmt_id; flags = record { 0 = record { 0 = h.flags i; 1 = record {} }; 1 = record {} }; iteration_count = raw_int 1 }))

  nulls-same : nulls sent ≡ plain.bitmap r
  nulls-same =
      ap bitmap_of (map-map (λ p. value_of p.param) (sent_param value_param (λ v. type_of_param (value_param v))) (plain.params r))
      ∙ sym (marks-once (contents_of (plain.params r)) (plain.bitmap r) h.bitmap (bytes-all (plain.bitmap r) h.bytes))

  pub plain-execution : execution_bytes e ≡ plain.execute_bytes r
  plain-execution =
      let head = execute_head.bytes (head_without_cursor (plain.stmt_id r)) in
      ap execution_bytes h.execution
      ∙ ap (λ (all : List TypedParam). head ++ after all) (append-nil sent)
      ∙ ap (λ (bytes : List ℕ). head ++ bytes) (where-same (plain.params r) (values_bytes (nulls sent) (plain.as_long_data r) (plain.params r)))
      ∙ ap (λ (bits : List ℕ). head ++ where_some (plain.params r) (values_bytes bits (plain.as_long_data r) (plain.params r))) (nulls-same ∙ sym (take_all 8192 (plain.bitmap r) h.short))
      ∙ ap (λ (bytes : List ℕ). bytes ++ params_bytes r.params) head-same

pub ruleset plain_options = (plain-execution)
