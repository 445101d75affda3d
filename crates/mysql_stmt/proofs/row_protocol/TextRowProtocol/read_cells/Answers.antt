use Rattle.std.proofs.Common.{rules, ◌≡◌, ◌++◌, ◌∷◌, [], Ok, Some, ◌∙◌, ap}
use Rattle.std.proofs.lemmas.List.{map_push}
use Rattle.std.proofs.lemmas.Result.{err_from_is_err_and}
use Rattle.std.specs.Prelude.{option_map}
use Rattle.mysql_wire.specs.Reading.{Reading, then_read}
use Rattle.mysql_values.specs.Value.{Content, content_of}
use Rattle.mysql_values.specs.Cells.{held}
use Rattle.mysql_stmt.specs.RowForm.{text_cell}
use Rattle.mysql_wire.proofs.Each.{next-one, one-fails, none-left, mapped-fails}
use Rattle.mysql_stmt.proofs.RowMemory.{some_any}
use Rattle.mysql_stmt.proofs.row_protocol.TextRowProtocol.read_cells.Goals as goal

pub returns-in_err-value-clause-value : goal.returns-in_err-value-clause-value
returns-in_err-value-clause-value g c =
    let p = err_from_is_err_and c.from_residual-in_err-value.result c.from_residual-in_err-value.ensures.1 in
    rw (p.1, p.2, some_any _ _ c.loop-test.true) (one-fails text_cell (held c.loop.cells.items) c.args.columns.now c.loop.index c.loop.rest _ c.loop.invariant.so_far c.loop-item.result _ c.in_err-value.field-0.0
    c.loop-test.true (mapped-fails (λ (v : Content). Some v) _ c.in_err-value.field-0.0 _ c.in_err-value.ensures.value))

pub loop-preserved : goal.loop-preserved
loop-preserved g c =
    let seam : held c.push_reserved.new.self.items ≡ held c.loop.cells.items ++ Some c.in_ok-value.value ∷ [] =
    ap held c.push_reserved.ensures.items ∙ map_push (option_map content_of) c.loop.cells.items (Some c.value.inside.0) ∙ ap (λ (x : Content). held c.loop.cells.items ++ Some x ∷ []) c.value.view_is in
    record {
      so_far = rw seam (next-one text_cell (held c.loop.cells.items) c.args.columns.now c.loop.index c.loop.rest _ c.loop.invariant.so_far c.loop-item.result (Some c.in_ok-value.value) c.parse.new.self
          c.loop-test.true (ap (λ (r : Reading Content). then_read r (λ x rest. Ok (Some x, rest))) c.in_ok-value.ensures.value));
      count = search rules;
      within = search rules;
      capacity = search rules;
    }

pub returns-clause-value : goal.returns-clause-value
returns-clause-value g c =
    none-left text_cell (held c.loop.cells.items) c.args.columns.now c.loop.index c.loop.rest _ c.loop.invariant.so_far c.loop-test.false
