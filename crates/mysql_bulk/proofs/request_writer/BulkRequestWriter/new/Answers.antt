use Rattle.std.proofs.Common.{◌-◌, Ok, vec_capacity, refl, sym, ◌∙◌, subst}
use Rattle.mysql_bulk.specs.RequestWriter.{StartsAsBuilder, WriterState}
use Rattle.mysql_bulk.specs.ValueRows.{new_writer}
use Rattle.mysql_bulk.proofs.ColumnTypes.{none_refused}
use Rattle.mysql_bulk.proofs.RequestWriter.{holds_none}
use Rattle.mysql_bulk.proofs.request_writer.BulkRequestWriter.new.Goals as goal

pub returns-clause-starts : goal.returns-clause-starts
returns-clause-starts c =
    let types = c.args.types.now in
    let limit = c.args.max_allowed_packet - 4 in
    let w : WriterState = new_writer c.args.stmt_id limit types (vec_capacity c.args.buffer) in
    let S : WriterState → Type 0 = λ x. StartsAsBuilder c.args.stmt_id limit types (Ok x) in
    subst S (sym c.with_types.ensures.starts) (holds_none w refl refl refl, (none_refused types (sym c.first_refused.ensures ∙ c.in_default.is), refl))
