use Rattle.std.proofs.Common.{List, ℕ, length, sym, subst}
use Rattle.mysql_stmt.proofs.SentBytes.{bound-parts}
use Rattle.mysql_stmt.proofs.sent_params.SentParamsParts.put.Goals as goal

pub part-requires : goal.part-requires
part-requires g c =
    let s = c.args.self.now in
    subst (λ (l : List ℕ). g.S.Sink.capacity c.args.sink.now (length l))
    (bound-parts g.V.AsExecuteParam.param g.V.AsExecuteParam.named_type g.A.AsExecuteParam.param g.A.AsExecuteParam.named_type (g.N.MySerialize.bytes s.nulls) s.types_follow s.has_names s.as_long_data s.params.now s.attributes.now _ _ _
    c.types_flag-flag.ensures.value c.typed.ensures.value c.typed-2.ensures.value)
    c.requires

pub returns : goal.returns
returns g c =
    let s = c.args.self.now in
    record {
      value =
          subst (λ (l : List ℕ). g.S.Sink.took c.args.sink.now l c.part.new.self)
          (sym (bound-parts g.V.AsExecuteParam.param g.V.AsExecuteParam.named_type g.A.AsExecuteParam.param g.A.AsExecuteParam.named_type (g.N.MySerialize.bytes s.nulls) s.types_follow s.has_names s.as_long_data s.params.now s.attributes.now _ _ _
          c.types_flag-flag.ensures.value c.typed.ensures.value c.typed-2.ensures.value))
          c.part.ensures;
    }
