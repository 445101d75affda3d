use Rattle.std.proofs.Common.{◌≡◌, true, List, ℕ, length, rules, sym, subst, ◌∙◌}
use Rattle.mysql_stmt.proofs.ExecutionBytes.{bytes-of-some}
use Rattle.mysql_stmt.proofs.execution.ComStmtExecuteWithOptionsParts.put.Goals as goal

pub part-requires-2 : goal.part-requires-2
part-requires-2 g c =
    let some : c.has_values.result ≡ true = search rules in
    subst (λ (l : List ℕ). g.S.Sink.capacity c.args.sink.now (length l))
    (bytes-of-some g.V.AsExecuteParam.param g.V.AsExecuteParam.named_type g.A.AsExecuteParam.param g.A.AsExecuteParam.named_type c.args.self.now _ c.types_follow.result c.has_names.result c.listed-attributes.result.now
    (sym c.has_values.ensures.value ∙ some) c.count-count.ensures.value c.types_follow.ensures.value c.has_names.ensures.value c.listed-attributes.ensures.value)
    c.requires

pub returns : goal.returns
returns g c =
    let some : c.has_values.result ≡ true = search rules in
    record {
      value =
          subst (λ (l : List ℕ). g.S.Sink.took c.args.sink.now l c.part-2.new.self)
          (sym (bytes-of-some g.V.AsExecuteParam.param g.V.AsExecuteParam.named_type g.A.AsExecuteParam.param g.A.AsExecuteParam.named_type c.args.self.now _ c.types_follow.result c.has_names.result c.listed-attributes.result.now
          (sym c.has_values.ensures.value ∙ some) c.count-count.ensures.value c.types_follow.ensures.value c.has_names.ensures.value c.listed-attributes.ensures.value))
          c.part-2.ensures;
    }
