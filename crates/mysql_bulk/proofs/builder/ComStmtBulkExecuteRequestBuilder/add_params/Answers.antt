use Rattle.std.proofs.Common.{◌≡◌, Ok, subst}
use Rattle.mysql_values.specs.Params as given_by
use Rattle.mysql_bulk.specs.Row.{contents_of_row}
use Rattle.mysql_bulk.specs.Builder.{BuilderState}
use Rattle.mysql_bulk.proofs.BuilderParams.{adds_params}
use Rattle.mysql_bulk.proofs.BuilderSteps.{same_state}
use Rattle.mysql_bulk.proofs.builder.ComStmtBulkExecuteRequestBuilder.add_params.Goals as goal

pub returns-in-Ok-clause-adds : goal.returns-in-Ok-clause-adds
returns-in-Ok-clause-adds c =
    let P : BuilderState → Type 0 = λ s. given_by.values_of c.args.params s.names ≡ Ok (contents_of_row c.in-Ok.row) in
    adds_params c.args.self.now.state c.add_row.new.self.state c.args.params c.in-Ok.row c.add_row.result (subst P (same_state c.self.view_is) c.in-Ok.ensures.ok) c.add_row.ensures.adds
