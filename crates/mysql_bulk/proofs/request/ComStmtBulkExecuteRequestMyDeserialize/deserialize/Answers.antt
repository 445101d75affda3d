use Rattle.std.proofs.Common.{◌≡◌, [], Ok, length, rules}
use Rattle.std.proofs.lemmas.List.{nil_from_length}
use Rattle.mysql_bulk.specs.Head.{head}
use Rattle.mysql_bulk.proofs.NoColumns.{no_columns}
use Rattle.mysql_bulk.proofs.request.ComStmtBulkExecuteRequestMyDeserialize.deserialize.Goals as goal

pub returns-then-count-eq0-clause-value : goal.returns-then-count-eq0-clause-value
returns-then-count-eq0-clause-value c =
    let zero : length c.args.columns.items ≡ 0 = search rules in
    let none = nil_from_length c.args.columns.items zero in
    let types : c.in_ok-head.head.types ≡ [] = search rules in
    let read : (head.form (length c.args.columns.items)).reads c.args.buf.now ≡ Ok (c.in_ok-head.head, c.read_head.new.buf) = search rules in
    no_columns c.args.columns.items c.args.buf.now c.read_head.new.buf c.in_ok-head.head c.with_head.result _ _ none read types c.new.ensures.items c.with_head.ensures
