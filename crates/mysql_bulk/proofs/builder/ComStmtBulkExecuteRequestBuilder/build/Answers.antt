use Rattle.std.proofs.Common.{◌≡◌, ◌+◌, ◌*◌, List, length, refl, sym, ◌∙◌, ap, arith, rules}
use Rattle.mysql_wire.specs.Writing.{saturated}
use Rattle.mysql_values.specs.Value.{Content, contents_of}
use Rattle.mysql_bulk.specs.Row.{row_size}
use Rattle.mysql_bulk.proofs.BuilderSteps.{saturated_small, stored_rows, stored_types, stored_values, stored_size, stored_bytes, stored_fits, stored_allowed}
use Rattle.mysql_bulk.proofs.RequestBytes.{length-request}
use Rattle.mysql_bulk.proofs.SentValues.{contents_of_sent, built_values}
use Rattle.mysql_bulk.proofs.builder.ComStmtBulkExecuteRequestBuilder.build.Goals as goal

pub overflow_add-size-2 : goal.overflow_add-size-2
overflow_add-size-2 c =
    let fits = stored_fits c.self.invariant c.if-self-eq0.false in
    let long : c.len.result ≡ length c.self.inside.types.items = c.len.ensures ∙ c.replace-types.result.ok.0 ∙ ap (λ v. length v.items) c.replace-types.ensures.value in
    omega (arith, fits, long)

pub invariant_of-result : goal.invariant_of-result
invariant_of-result c =
    let k = c.self.invariant in
    let fits = stored_fits k c.if-self-eq0.false in
    let long : c.len.result ≡ length c.replace-types.result.items = c.len.ensures ∙ c.replace-types.result.ok.0 in
    let same : 7 + 2 * length c.replace-types.result.items + row_size (contents_of c.replace-values.result.items) ≡ 7 + 2 * length c.self.inside.types.items + row_size (contents_of c.self.inside.values.items) =
    ap (λ v. 7 + 2 * length v.items + row_size (contents_of c.replace-values.result.items)) c.replace-types.ensures.value
    ∙ ap (λ v. 7 + 2 * length c.self.inside.types.items + row_size (contents_of v.items)) c.replace-values.ensures.value in
    let bytes = stored_bytes k c.if-self-eq0.false in
    let size = stored_size k c.if-self-eq0.false in
    let n : 7 + 2 * c.len.result + c.self.inside.size ≡ 7 + 2 * length c.replace-types.result.items + row_size (contents_of c.replace-values.result.items) =
    ap (λ m. 7 + 2 * m + c.self.inside.size) (long ∙ ap (λ v. length v.items) c.replace-types.ensures.value) ∙ size ∙ sym bytes ∙ sym same in
    n
    ∙ saturated_small (7 + 2 * length c.replace-types.result.items + row_size (contents_of c.replace-values.result.items)) (omega (arith, fits, size, bytes, same))
    ∙ sym (ap (λ (l : List Content). saturated (7 + 2 * length c.replace-types.result.items + row_size l)) (contents_of_sent _ (contents_of c.replace-values.result.items)))

pub returns-clause-builds : goal.returns-clause-builds
returns-clause-builds c =
    let k = c.self.invariant in
    let some = c.if-self-eq0.false in
    rw (← c.self.view_is) (record {
      some = stored_rows k some;
      is_theirs = record {
        id = refl;
        flags = c.flags_of-bulk_flags.ensures;
        types = ap (λ v. v.items) c.replace-types.ensures.value ∙ stored_types k some;
        values = built_values _ (contents_of c.replace-values.result.items) _ (search rules) (ap (λ v. contents_of v.items) c.replace-values.ensures.value ∙ stored_values k);
        taken = k.taken;
      };
      size = length-request _
          ∙ ap (λ (l : List Content). 7 + 2 * length c.replace-types.result.items + row_size l) (contents_of_sent _ (contents_of c.replace-values.result.items))
          ∙ ap (λ v. 7 + 2 * length v.items + row_size (contents_of c.replace-values.result.items)) c.replace-types.ensures.value
          ∙ ap (λ v. 7 + 2 * length c.self.inside.types.items + row_size (contents_of v.items)) c.replace-values.ensures.value
          ∙ stored_bytes k some;
      fits = stored_allowed k some;
      left = refl;
    })
