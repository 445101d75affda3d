use Rattle.std.proofs.Common.{◌≡◌, ◌++◌, ℕ, List, true, map, Ok, sym, ◌∙◌, ap, subst, rules}
use Rattle.mysql_bulk.specs.BulkValue.{cell_of, cells_bytes}
use Rattle.mysql_bulk.specs.RequestWriter.{WriterState, head_bytes, with_row}
use Rattle.mysql_bulk.specs.ValueRows.{AddsCells, Spells}
use Rattle.mysql_bulk.proofs.ValueRows.{wrote_first, wrote_further}
use Rattle.mysql_bulk.proofs.request_writer.BulkRequestWriter.add_row_values.Goals as goal

pub returns-then-write_first-clause-adds : goal.returns-then-write_first-clause-adds
returns-then-write_first-clause-adds c =
    let w = c.args.self.now in
    let row = map cell_of c.args.row.now in
    let capacity = c.write_first.new.self.capacity in
    let spells : Spells w.types row = search rules in
    let empty = sym (ap (λ (w : WriterState). w.count) c.self.view_is) ∙ c.if-self-eq0-2.true in
    let same : cells_bytes w.types row ≡ c.new.result = sym (c.new.ensures ∙ ap (λ (x : WriterState). cells_bytes x.types row) c.self.view_is) in
    let A : List ℕ → Type 0 = λ bytes. AddsCells w row (Ok true) (with_row w (w.bytes ++ head_bytes w) c.in-Some.size capacity bytes) in
    subst (λ u. AddsCells w row (Ok true) u) (sym c.if-write_first.ensures.written) (subst A same (wrote_first w row c.in-Some.size capacity spells c.in-Some.ensures.1 c.in-Some.ensures.0 empty))

pub returns-then-write_further-clause-adds : goal.returns-then-write_further-clause-adds
returns-then-write_further-clause-adds c =
    let w = c.args.self.now in
    let row = map cell_of c.args.row.now in
    let capacity = c.write_further.new.self.capacity in
    let spells : Spells w.types row = search rules in
    let same : cells_bytes w.types row ≡ c.new-2.result = sym (c.new-2.ensures ∙ ap (λ (x : WriterState). cells_bytes x.types row) c.self.view_is) in
    let A : List ℕ → Type 0 = λ bytes. AddsCells w row (Ok true) (with_row w w.bytes c.in-Some.size capacity bytes) in
    subst (λ u. AddsCells w row (Ok true) u) (sym c.if-write_further.ensures.written)
    (subst A same (wrote_further w row c.in-Some.size capacity spells c.in-Some.ensures.1 c.in-Some.ensures.0 (λ e. c.if-self-eq0-2.false (ap (λ (w : WriterState). w.count) c.self.view_is ∙ e))))
