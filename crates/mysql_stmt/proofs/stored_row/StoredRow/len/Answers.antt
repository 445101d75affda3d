use Rattle.std.proofs.Common.{◌≡◌, length, subst, sym}
use Rattle.mysql_stmt.specs.StoredRow.{Stored}
use Rattle.mysql_stmt.proofs.StoredRows.{length-stored}
use Rattle.mysql_stmt.proofs.stored_row.StoredRow.len.Goals as goal

pub returns : goal.returns
returns c =
    let r = c.self.inside in
    record { value = subst (λ (s : Stored). r.count ≡ length s.values) c.self.view_is (sym (length-stored r.count r.block.items r.block.items)) }
