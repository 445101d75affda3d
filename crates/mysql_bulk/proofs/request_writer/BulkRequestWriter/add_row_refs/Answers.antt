use Rattle.std.proofs.Common.{◌≡◌, ◌+◌, ℕ, true, length, map, Ok, sym, ◌∙◌, ap, subst, rules}
use Rattle.mysql_values.specs.ValueRef.{ref_content}
use Rattle.mysql_bulk.specs.RequestWriter.{WriterState, AddsAsBuilder}
use Rattle.mysql_bulk.proofs.RequestWriter.{Spells, length-cells, wrote_first, wrote_further}
use Rattle.mysql_bulk.proofs.request_writer.BulkRequestWriter.add_row_refs.Goals as goal

pub returns-then-write_first-clause-adds : goal.returns-then-write_first-clause-adds
returns-then-write_first-clause-adds c =
    let w = c.args.self.now in
    let row = c.args.row.now in
    let long : length row ≡ length w.types = search rules in
    let spells : Spells w row = search rules in
    let empty = sym (ap (λ (w : WriterState). w.count) c.self.view_is) ∙ c.if-self-eq0-2.true in
    subst (λ u. AddsAsBuilder w (map ref_content row) (Ok true) u) (sym c.if-write_first.ensures.written) (wrote_first w row c.in-Some.size c.write_first.new.self.capacity long spells c.in-Some.ensures.1 c.in-Some.ensures.0 empty)

pub returns-then-write_further-clause-adds : goal.returns-then-write_further-clause-adds
returns-then-write_further-clause-adds c =
    let w = c.args.self.now in
    let row = c.args.row.now in
    let long : length row ≡ length w.types = search rules in
    let spells : Spells w row = search rules in
    subst (λ u. AddsAsBuilder w (map ref_content row) (Ok true) u) (sym c.if-write_further.ensures.written)
    (wrote_further w row c.in-Some.size c.write_further.new.self.capacity long spells c.in-Some.ensures.1 c.in-Some.ensures.0 (λ e. c.if-self-eq0-2.false (ap (λ (w : WriterState). w.count) c.self.view_is ∙ e)))

pub write_first-requires : goal.write_first-requires
write_first-requires c = c.in-Some.ensures.0 ∙ ap (λ (n : ℕ). c.args.self.now.size + n) (sym (length-cells c.args.row.now))

pub write_further-requires : goal.write_further-requires
write_further-requires c = c.in-Some.ensures.0 ∙ ap (λ (n : ℕ). c.args.self.now.size + n) (sym (length-cells c.args.row.now))
