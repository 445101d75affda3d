use Rattle.std.proofs.Common.{ap, ◌∙◌}
use Rattle.serde_json.proofs.Views.{view-Object}
use Rattle.serde_json.specs.Data.{string}
use Rattle.serde_json.specs.View.{members_view, view}
use Rattle.mysql_recorder.specs.Sums.{OtherSums}
use Rattle.mysql_recorder.proofs.Summed.{all_members, view-text}
use Rattle.mysql_recorder.proofs.sums.Sums.object.Goals as goal

pub returns : goal.returns
returns c =
    let others : OtherSums = record {
      errors = view c.in_ok-errors_value.field-0;
      exchanges = view c.in_ok-exchanges_value.field-0;
      kinds = view c.in_ok-kinds_value.field-0;
      largest = view c.in_ok-largest_value.field-0;
      open_statements = view c.in_ok-open_value.field-0;
      rows = c.args.self.now.rows;
    } in (
      others,
      all_members c.args.self.now.packets others _ _ _ _ _ _ _ _ _ _ _ _ _ (view-Object _) (view-text _ ∙ ap string c.in_ok-kind.ensures.ok) c.from.ensures c.from-2.ensures
          (ap members_view c.new-object.ensures.empty) c.in_ok-put.ensures.ok c.in_ok-put-2.ensures.ok c.in_ok-put-3.ensures.ok c.in_ok-put-4.ensures.ok c.in_ok-put-5.ensures.ok
          c.in_ok-put-6.ensures.ok c.in_ok-put-7.ensures.ok c.in_ok-put-8.ensures.ok,
    )
