use Rattle.std.proofs.Common.{◌≡◌, Some, sym, rules}
use Rattle.mysql_stmt.specs.Row.{value_at}
use Rattle.mysql_stmt.proofs.row.Row.get_opt.Goals as goal

pub returns-in_err-clone-clause-no_memory : goal.returns-in_err-clone-clause-no_memory
returns-in_err-clone-clause-no_memory g c = λ none.
    let place = Some c.in-Some.place in
    let value = c.in-Some-as_ref.value.now in
    let there : value_at c.args.self.now.cells place ≡ Some value = sym c.in-Some-as_ref.ensures.value in
    let finds : g.I.ColumnIndex.Finds c.args.index c.args.self.now.columns place = search rules in
    absurd (c.in_err-clone.ensures.cases (none place value finds there))
