use Rattle.std.proofs.Common.{[], ◌∷◌, ◌++◌, ap, codes, refl}
use Rattle.mysql_stmt.specs.ExecuteHead.{has_parameter_count}
use Rattle.mysql_show.specs.Fields.{Number, said}
use Rattle.mysql_recorder.specs.ClientFields.{count_flag, head_numbers}
use Rattle.mysql_recorder.proofs.Appended.{appended_on_ok, appended_then}
use Rattle.mysql_recorder.proofs.command_fields.append_head.Goals as goal

pub returns : goal.returns
returns c =
    let front = head_numbers c.args.head.now ++ count_flag (has_parameter_count c.args.head.now) in record {
      ok = appended_on_ok c.append.result c.args.fields.now.items c.append_count_flag.new.fields.items c.append.new.fields.items front (said (codes "length") (Number c.args.length) ∷ []) front (c.number.result ∷ [])
          refl (ap (λ x. x ∷ []) c.number.ensures.value)
          (appended_then c.args.fields.now.items c.add_fields.new.fields.items c.append_count_flag.new.fields.items (head_numbers c.args.head.now) (count_flag (has_parameter_count c.args.head.now))
          c.head_numbers.result (count_flag c.has_parameter_count.result) c.head_numbers.ensures (ap count_flag c.has_parameter_count.ensures.value) c.in_ok-add_fields.ensures.ok c.in_ok-append_count_flag.ensures.ok)
          c.append.ensures.ok;
    }
