use Rattle.std.proofs.Common.{◌≡◌, ◌≢◌, List, ℕ, length, sym, subst, rules}
use Rattle.mysql_stmt.proofs.QueryParts.{bytes-of-none, bytes-of-some}
use Rattle.mysql_stmt.proofs.com_query.ComQueryParts.put.Goals as goal

pub part-requires : goal.part-requires
part-requires g c =
    let none : length c.listed-attributes.result.now ≡ 0 = search rules in
    subst (λ (l : List ℕ). g.S.Sink.capacity c.args.sink.now (length l))
    (bytes-of-none g.A.AsExecuteParam.param g.A.AsExecuteParam.named_type c.args.self.now c.new-code.result.0 _ _ c.raw_text-text.result c.listed-attributes.result.now none c.new-code.ensures c.listed-attributes.ensures.value c.count-count.ensures.value c.sets-sets.ensures.value c.raw_text-text.ensures.value)
    c.requires

pub returns-then-is_empty : goal.returns-then-is_empty
returns-then-is_empty g c =
    let none : length c.listed-attributes.result.now ≡ 0 = search rules in
    record {
      value =
          subst (λ (l : List ℕ). g.S.Sink.took c.args.sink.now l c.part.new.self)
          (sym (bytes-of-none g.A.AsExecuteParam.param g.A.AsExecuteParam.named_type c.args.self.now c.new-code.result.0 _ _ c.raw_text-text.result c.listed-attributes.result.now none c.new-code.ensures c.listed-attributes.ensures.value c.count-count.ensures.value c.sets-sets.ensures.value c.raw_text-text.ensures.value))
          c.part.ensures;
    }

pub part-requires-2 : goal.part-requires-2
part-requires-2 g c =
    let some : length c.listed-attributes.result.now ≢ 0 = search rules in
    subst (λ (l : List ℕ). g.S.Sink.capacity c.args.sink.now (length l))
    (bytes-of-some g.A.AsExecuteParam.param g.A.AsExecuteParam.named_type c.args.self.now c.new-code.result.0 _ _ c.raw_text-text.result c.listed-attributes.result.now some c.new-code.ensures c.listed-attributes.ensures.value c.count-count.ensures.value c.sets-sets.ensures.value c.raw_text-text.ensures.value)
    c.requires

pub returns : goal.returns
returns g c =
    let some : length c.listed-attributes.result.now ≢ 0 = search rules in
    record {
      value =
          subst (λ (l : List ℕ). g.S.Sink.took c.args.sink.now l c.part-2.new.self)
          (sym (bytes-of-some g.A.AsExecuteParam.param g.A.AsExecuteParam.named_type c.args.self.now c.new-code.result.0 _ _ c.raw_text-text.result c.listed-attributes.result.now some c.new-code.ensures c.listed-attributes.ensures.value c.count-count.ensures.value c.sets-sets.ensures.value c.raw_text-text.ensures.value))
          c.part-2.ensures;
    }
