use Rattle.std.proofs.Common.{◌∙◌, ◌*◌}
use Rattle.std.proofs.lemmas.List.{take_rest}
use Rattle.mysql_stmt.proofs.StoredRows.{entry-is}
use Rattle.mysql_stmt.proofs.stored_row.entry_at.Goals as goal

pub returns : goal.returns
returns c =
    let block = c.args.block.now in
    record { value = entry-is c.args.index block c.new-entries.result c.take.new.buf c.take.result (c.new-entries.ensures ∙ take_rest block (8 * c.args.index)) c.take.ensures.value }
