use Rattle.std.proofs.Common.{◌≡◌, ◌≢◌, false, true, [], List, rules, if◌then◌else◌, ◌∙◌, ap}
use Rattle.mysql_wire.specs.FlagMasks.{SEND_TYPES_TO_SERVER}
use Rattle.mysql_values.specs.declared.param_type.ParamType.{ParamType}
use Rattle.mysql_wire.specs.Flags.{has}
use Rattle.mysql_bulk.specs.DeclaredTypes.{declared_types}
use Rattle.mysql_cuts.specs.Cut.{rows_in}
use Rattle.mysql_values.specs.Value.{contents_of}
use Rattle.mysql_bulk.specs.ParamValue.{ParamValue}
use Rattle.mysql_bulk.specs.SentValues.{sent_values}
use Rattle.mysql_bulk.proofs.SentValues.{built_values}
use Rattle.mysql_bulk.specs.Request.{BulkRequest}
use Rattle.mysql_bulk.specs.Row.{contents_of_rows}
use Rattle.mysql_bulk.specs.Row.{OneLength}
use Rattle.mysql_bulk.proofs.RequestNew.{all_types, some_rows, no_values}
use Rattle.mysql_bulk.proofs.BuilderRows.{one_length}
use Rattle.mysql_bulk.proofs.request.ComStmtBulkExecuteRequest.new.Goals as goal

pub returns-in-Ok-clause-makes : goal.returns-in-Ok-clause-makes
returns-in-Ok-clause-makes c =
    let rows = contents_of_rows c.args.rows.items in
    let equal = rw c.as_slice.ensures.value at (c.equally_long.ensures.0 c.if-not-equally_long.false) in
    let any : c.args.rows.items ≢ [] = search rules in
    let some = some_rows c.args.rows.items any in
    let one : OneLength rows = one_length c.len-arity.result rows equal in
    let R : List ParamType → List ParamValue → BulkRequest = λ t v. record { stmt_id = c.args.stmt_id; bulk_flags = c.args.bulk_flags; types = t; values = v } in (
      some,
      one,
      c.with_head.ensures
          ∙ ap (λ (t : List ParamType). R t (sent_values c.new.result.items (contents_of c.in-Ok.parts.values.items)))
          (c.in-Ok.ensures.types ∙ all_types c.sends_types.result (has c.args.bulk_flags.0 SEND_TYPES_TO_SERVER) c.len-arity.result rows c.sends_types.ensures some equal)
          ∙ ap (λ (v : List ParamValue). R (if has c.args.bulk_flags.0 SEND_TYPES_TO_SERVER then declared_types rows else []) v)
          (built_values c.new.result.items (contents_of c.in-Ok.parts.values.items) (rows_in rows) (search rules) c.in-Ok.ensures.values),
    )

pub returns-in-Err-clause-no_memory : goal.returns-in-Err-clause-no_memory
returns-in-Err-clause-no_memory c none e =
    let rows = c.args.rows.items in
    let equal = rw c.as_slice.ensures.value at (c.equally_long.ensures.0 c.if-not-equally_long.false) in
    let any : rows ≢ [] = search rules in
    let is : c.len-arity.result ≡ 0 = no_values c.len-arity.result (contents_of_rows rows) (some_rows rows any) equal none in
    let none_refused : false ≡ true = c.in-Err.ensures.no_memory is in
    cc
