use Rattle.std.proofs.Common.{ℕ, List, replicate, sym, ap, ◌∙◌}
use Rattle.std.proofs.lemmas.List.{length-map, length-replicate}
use Rattle.mysql_stmt.specs.Bitmap.{bytes_for, cell}
use Rattle.mysql_stmt.specs.ExecuteParam.{value_of}
use Rattle.mysql_stmt.proofs.Nulls.{bit-zeros, cell-zeros}
use Rattle.mysql_stmt.proofs.null_marks.mark_side.Goals as goal

pub returns : goal.returns
returns g c =
    let offset = g.S.SerializationSide.BIT_OFFSET in
    let long = length-map c.args.values.now (λ v. value_of (g.V.AsExecuteParam.param v)) in
    record {
      len = c.mark_nulls.ensures.len ∙ c.requires.len ∙ ap (bytes_for offset) (sym long);
      cells = c.mark_nulls.ensures.cells (replicate {A = ℕ} offset 0) (length-replicate offset 0 ∙ sym c.BIT_OFFSET.ensures)
          (λ k. ap (λ (b : List ℕ). cell b k) c.requires.clear ∙ cell-zeros _ k ∙ sym (bit-zeros offset k));
    }
