use Rattle.std.proofs.Common.{◌≡◌, ◌≢◌, [], rules}
use Rattle.mysql_bulk.proofs.NoColumns.{no_row_fits, no_row_left}
use Rattle.mysql_bulk.proofs.read_rows.read_no_rows.Goals as goal

pub returns-then-not-is_empty : goal.returns-then-not-is_empty
returns-then-not-is_empty c =
    let some : c.args.rest.now ≢ [] = search rules in
    record { value = no_row_fits c.args.rest.now some }

pub returns : goal.returns
returns c =
    let none : c.args.rest.now ≡ [] = search rules in
    record { value = no_row_left c.args.rest.now c.new.result.items none c.new.ensures.items }
