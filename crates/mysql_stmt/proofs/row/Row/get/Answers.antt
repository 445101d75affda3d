use Rattle.std.proofs.Common.{◌≡◌, Some, sym, rules}
use Rattle.mysql_stmt.specs.Row.{value_at}
use Rattle.mysql_stmt.proofs.Converted.{copy-made}
use Rattle.mysql_stmt.proofs.row.Row.get.Goals as goal

pub returns-clause-value : goal.returns-clause-value
returns-clause-value g c =
    let place = Some c.in-Some.place in
    let value = c.in-Some-as_ref.value.now in
    let there : value_at c.args.self.now.cells place ≡ Some value = sym c.in-Some-as_ref.ensures.value in
    let finds : g.I.ColumnIndex.Finds c.args.index c.args.self.now.columns place = search rules in
    let converts = c.requires.converts place value finds there in
    let made = copy-made g.T.FromValue.Converts g.met.T.FromValue.by_content value c.in_ok-copy.copy c.in_ok-copy.ensures.cases converts c.from_value_opt.result c.from_value_opt.ensures.ok c.from_value_opt.ensures.err in
    (place, finds, rw (there, c.ok.ensures.value) made)

pub returns-in_err-copy-clause-no_memory : goal.returns-in_err-copy-clause-no_memory
returns-in_err-copy-clause-no_memory g c = λ none.
    let place = Some c.in-Some.place in
    let value = c.in-Some-as_ref.value.now in
    let there : value_at c.args.self.now.cells place ≡ Some value = sym c.in-Some-as_ref.ensures.value in
    let finds : g.I.ColumnIndex.Finds c.args.index c.args.self.now.columns place = search rules in
    absurd (c.in_err-copy.ensures.cases (none place value finds there))
