-- The values of parameters are offered as a row.
use Rattle.std.proofs.Common.{◌≡◌, Option, Result, Ok, Err}
use Rattle.std.specs.Global.{Vec}
use Rattle.mysql_values.specs.declared.value.Value.{Value}
use Rattle.mysql_values.specs.declared.params.Params.{Params}
use Rattle.mysql_values.specs.Params as given_by
use Rattle.mysql_bulk.specs.declared.error.BulkExecuteRequestBuilderError.{BulkExecuteRequestBuilderError}
use Rattle.mysql_bulk.specs.declared.error.BulkExecuteRequestBuilderError.TheVariants as refused
use Rattle.mysql_bulk.specs.Row.{contents_of_row}
use Rattle.mysql_bulk.specs.Builder.{BuilderState, AddsRow, AddsParams}

-- the row of the parameters is offered
pub adds_params : (s t : BuilderState) (params : Params) (row : Vec Value) (r : Result (Option (Vec Value)) BulkExecuteRequestBuilderError) → given_by.values_of params s.names ≡ Ok (contents_of_row row)
    → AddsRow s row r t → AddsParams s params r t
adds_params s t params row (Ok back) v a = (row, v, a)
adds_params s t params row (Err (refused.Request e)) v a = (row, v, a)
adds_params s t params row (Err (refused.Params e)) v a = absurd a
